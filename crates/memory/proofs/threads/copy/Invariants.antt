-- The first `i` are copied, and the table is as long as it was.
use Rattle.memory.proofs.SpliceSteps.{Copied}
use Rattle.memory.proofs.threads.copy.Given as goal

abbrev pub invariant-loop-i : goal.invariant-loop-i
invariant-loop-i l = Copied l.initial.dst l.to l.src l.from l.count l.dst l.i
