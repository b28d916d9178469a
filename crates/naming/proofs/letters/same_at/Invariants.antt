-- The letters compared so far agree, so that those left decide (`Compared`).
use Rattle.naming.proofs.LetterSteps.{Compared}
use Rattle.naming.proofs.letters.same_at.Given as goal

abbrev pub invariant-loop-i : goal.invariant-loop-i
invariant-loop-i l = Compared l.s l.a l.b l.i
