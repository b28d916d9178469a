-- The items are passed in order; the first of the group tells its count.
use Rattle.fit.proofs.GrantSteps.{ItemSoFar}
use Rattle.fit.proofs.grants.listed.Given as goal

abbrev pub invariant-loop-i : goal.invariant-loop-i
invariant-loop-i l = ItemSoFar l.charter l.group l.p.count l.p.list l.i
