-- All but the first `i` are moved, and the table is as long as it was.
use Rattle.memory.proofs.SpliceSteps.{Lifted}
use Rattle.memory.proofs.threads.shift_up.Given as goal

abbrev pub invariant-loop-i : goal.invariant-loop-i
invariant-loop-i l = Lifted l.initial.threads l.from l.to l.count l.threads l.i
