-- Those before the index are known, the others as they were.
use Rattle.products.proofs.StartSteps.{Knowing}
use Rattle.products.proofs.start.know_first.Given as goal

abbrev pub invariant-loop-i : goal.invariant-loop-i
invariant-loop-i l = Knowing l.count l.initial.known l.i l.known
