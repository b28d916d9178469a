-- The bytes added so far and those left are the text (`Putting`).
use Rattle.naming.proofs.SentenceSteps.{sentence_steps}
use Rattle.naming.proofs.sentence.Line.put.Goals as goal

pub loop-byte-preserved : goal.loop-byte-preserved
loop-byte-preserved c = search sentence_steps

pub returns : goal.returns
returns c = search sentence_steps
