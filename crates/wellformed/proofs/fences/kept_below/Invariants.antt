-- `kept_below`: the rows that are left decide, as long as they stand deeper (KeptLeft).
use Rattle.wellformed.proofs.FenceSteps.{KeptLeft}
use Rattle.wellformed.proofs.fences.kept_below.Given as goal

abbrev pub invariant-loop-i : goal.invariant-loop-i
invariant-loop-i l = KeptLeft l.c l.nodes l.marks l.row l.to l.i
