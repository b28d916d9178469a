-- The first `i` are copied, as numbers are in the crate memory.
use Rattle.memory.proofs.SpliceSteps.{Copied}
use Rattle.encoding.proofs.copying.copy.Given as goal

abbrev pub invariant-loop-i : goal.invariant-loop-i
invariant-loop-i l = Copied l.initial.out l.to l.s l.from l.count l.out l.i
