-- A question is noted: the first of those that fail stays.
use native.Mathlib.Omega.{arith}
use Rattle.inference.proofs.NeedSteps.{noted_sooner, noted_later, noted_first}
use Rattle.inference.proofs.Walker.fail.Goals as goal

pub returns-then-number : goal.returns-then-number
returns-then-number c = noted_sooner _ _ _ c.in-Some.is (omega (arith, c.number.ensures, c.number-in-Some.ensures))

pub returns-else-number : goal.returns-else-number
returns-else-number c = noted_later _ _ _ c.in-Some.is (omega (arith, c.number.ensures, c.number-in-Some.ensures))

pub returns-in-None : goal.returns-in-None
returns-in-None c = noted_first _ _ c.in-None.is
