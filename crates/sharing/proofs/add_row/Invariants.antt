-- The kinds of a component, one after another, after its class was noted.
use Rattle.sharing.proofs.SumSteps.{Rowing}
use Rattle.sharing.proofs.add_row.Given as goal

abbrev pub invariant-loop-kind : goal.invariant-loop-kind
invariant-loop-kind l = Rowing l.initial.sums l.class l.row.table.now l.row.component l.sums l.kind
