-- `digits_among`: the digits that are left decide (DigitsLeft).
use Rattle.containment.proofs.DigitLaws.{digit_steps}
use Rattle.containment.proofs.digits_among.Goals as goal

pub returns-then-not-among : goal.returns-then-not-among
returns-then-not-among c = search digit_steps

pub loop-preserved : goal.loop-preserved
loop-preserved c = search digit_steps
