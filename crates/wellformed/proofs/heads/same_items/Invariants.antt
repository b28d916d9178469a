-- `same_items`: the items that are left decide (ItemsLeft).
use Rattle.wellformed.proofs.AgreeSteps.{ItemsLeft}
use Rattle.wellformed.proofs.heads.same_items.Given as goal

abbrev pub invariant-loop-i : goal.invariant-loop-i
invariant-loop-i l = ItemsLeft l.c l.a l.b l.count l.i
