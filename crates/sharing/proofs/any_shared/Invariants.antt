-- None has shared so far, so that those left decide.
use Rattle.sharing.proofs.SumSteps.{Comparing}
use Rattle.sharing.proofs.any_shared.Given as goal

abbrev pub invariant-loop-component : goal.invariant-loop-component
invariant-loop-component l = Comparing l.table l.components l.keys l.component
