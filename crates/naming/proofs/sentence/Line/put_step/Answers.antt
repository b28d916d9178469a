-- The first group has no slash before it, each other has one.
use Rattle.naming.proofs.SentenceSteps.{sentence_steps}
use Rattle.naming.proofs.sentence.Line.put_step.Goals as goal

pub returns-then-i-eq0 : goal.returns-then-i-eq0
returns-then-i-eq0 c = search sentence_steps

pub returns : goal.returns
returns c = search sentence_steps
