-- The letters counted so far and those left are the name (`Counted`).
use Rattle.naming.proofs.LetterSteps.{letter_steps}
use Rattle.naming.proofs.letters.letters_at.Goals as goal

pub loop-n-preserved : goal.loop-n-preserved
loop-n-preserved c = search letter_steps
