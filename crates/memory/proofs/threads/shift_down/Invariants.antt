-- The first `i` are moved, and the table is as long as it was.
use Rattle.memory.proofs.SpliceSteps.{Copied}
use Rattle.memory.proofs.threads.shift_down.Given as goal

abbrev pub invariant-loop-i : goal.invariant-loop-i
invariant-loop-i l = Copied l.initial.threads l.to l.initial.threads l.from l.count l.threads l.i
