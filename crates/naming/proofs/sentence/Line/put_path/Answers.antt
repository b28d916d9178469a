-- The steps added so far and those left are the path (`Putting`); there are at most eight.
use Rattle.naming.proofs.SentenceSteps.{sentence_steps}
use Rattle.naming.proofs.sentence.Line.put_path.Goals as goal

pub loop-i-init : goal.loop-i-init
loop-i-init c = search sentence_steps

pub loop-i-preserved : goal.loop-i-preserved
loop-i-preserved c = search sentence_steps

pub returns-clause-put : goal.returns-clause-put
returns-clause-put c = search sentence_steps
