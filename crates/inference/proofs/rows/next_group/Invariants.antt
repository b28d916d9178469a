-- The least group from a group on is the lesser of the one found so far and the one from here on.
use Rattle.inference.proofs.GroupRows.{Nearest}
use Rattle.inference.proofs.rows.next_group.Given as goal

abbrev pub invariant-loop-group : goal.invariant-loop-group
invariant-loop-group l = Nearest l.groups l.from l.best l.group-index
