-- `marked`: the groups marked so far and those of the rows that are left are the fence (MarksLeft).
use Rattle.wellformed.proofs.FenceSteps.{MarksLeft}
use Rattle.wellformed.proofs.fences.marked.Given as goal

abbrev pub invariant-loop-i : goal.invariant-loop-i
invariant-loop-i l = MarksLeft l.nodes l.marks l.row l.to l.i
