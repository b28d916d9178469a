-- A group is looked for among those of its component: its place is the one that is found from here on.
use Rattle.inference.proofs.RowSteps.{Searching}
use Rattle.inference.proofs.rows.place_of.Given as goal

abbrev pub invariant-loop-place : goal.invariant-loop-place
invariant-loop-place l = Searching l.table l.component l.group l.count l.place
