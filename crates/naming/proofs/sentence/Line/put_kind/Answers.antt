-- The two bytes, then the kind's name.
use Rattle.naming.proofs.SentenceSteps.{sentence_steps}
use Rattle.naming.proofs.sentence.Line.put_kind.Goals as goal

pub returns : goal.returns
returns c = search sentence_steps
