-- `kinds_distinct`: the kinds that are left decide (KindsLeft).
use Rattle.wellformed.proofs.KindSteps.{KindsLeft}
use Rattle.wellformed.proofs.kinds.kinds_distinct.Given as goal

abbrev pub invariant-loop-t : goal.invariant-loop-t
invariant-loop-t l = KindsLeft l.kinds l.t
