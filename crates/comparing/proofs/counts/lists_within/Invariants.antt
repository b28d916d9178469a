-- `lists_within`: the items that are left of both lists decide (ListsLeft).
use Prim.Native.Nat.{◌≤◌}
use Rattle.comparing.proofs.CountSteps.{ListsLeft}
use Rattle.comparing.proofs.counts.lists_within.Given as goal

abbrev pub invariant-loop-i : goal.invariant-loop-i
invariant-loop-i l = (l.j ≤ l.q.count) × ListsLeft l.a l.p.list l.p.count l.b l.q.list l.q.count l.i l.j
