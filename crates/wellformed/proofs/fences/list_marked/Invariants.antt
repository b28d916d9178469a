-- `list_marked`: the items that are left decide (ListLeft).
use Rattle.wellformed.proofs.FenceSteps.{ListLeft}
use Rattle.wellformed.proofs.fences.list_marked.Given as goal

abbrev pub invariant-loop-i : goal.invariant-loop-i
invariant-loop-i l = ListLeft l.c l.marks l.p.list l.p.count l.i
