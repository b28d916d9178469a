-- Each name passed so far is none of those after it, so that the names left decide (`ApartSoFar`).
use Rattle.naming.proofs.NameSteps.{ApartSoFar}
use Rattle.naming.proofs.names.all_distinct.Given as goal

abbrev pub invariant-loop-i : goal.invariant-loop-i
invariant-loop-i l = ApartSoFar l.s l.places l.i
