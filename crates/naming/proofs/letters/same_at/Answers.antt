-- The letters compared so far agree, so that those left decide (`Compared`).
use Rattle.naming.proofs.LetterSteps.{letter_steps}
use Rattle.naming.proofs.letters.same_at.Goals as goal

pub returns-then-not-is_letter : goal.returns-then-not-is_letter
returns-then-not-is_letter c = search letter_steps

pub returns-then-x-y : goal.returns-then-x-y
returns-then-x-y c = search letter_steps

pub loop-i-preserved : goal.loop-i-preserved
loop-i-preserved c = search letter_steps
