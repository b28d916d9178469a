-- The types that are left end where all do.
use Rattle.encoding.proofs.WalkSteps.{Starting}
use Rattle.encoding.proofs.walking.system_start.Given as goal

abbrev pub invariant-loop-passed : goal.invariant-loop-passed
invariant-loop-passed l = Starting l.s l.at l._passed
