-- What is left to join makes of the sums now what all of it makes of them at first.
use Rattle.inference.specs.Rows.{group_count}
use Rattle.sharing.proofs.SumSteps.{Placing}
use Rattle.sharing.proofs.add_kind.Given as goal

abbrev pub invariant-loop-place : goal.invariant-loop-place
invariant-loop-place l = Placing l.initial.sums l.class l.entry.table.now l.entry.component l.entry.kind (group_count l.entry.table.now l.entry.component) l.sums l.place
