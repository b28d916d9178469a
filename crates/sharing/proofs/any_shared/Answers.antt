-- A component that shares with one before it.
use Rattle.sharing.proofs.SumSteps.{compare_steps}
use Rattle.sharing.proofs.any_shared.Goals as goal

pub returns-then-first_of-component : goal.returns-then-first_of-component
returns-then-first_of-component c = search compare_steps
