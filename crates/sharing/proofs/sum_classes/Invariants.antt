-- What is left to join makes of the sums now what all of it makes of them at first, and the keys so far are those of the rows.
use Rattle.sharing.proofs.SumSteps.{Summing}
use Rattle.sharing.proofs.sum_classes.Given as goal

abbrev pub invariant-loop-component : goal.invariant-loop-component
invariant-loop-component l = Summing l.initial.sums l.table l.components l.sums l.keys l.component
