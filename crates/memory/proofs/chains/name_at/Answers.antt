-- The chain that is left ends with the level sought.
use Rattle.memory.proofs.ChainSteps.{search_steps}
use Rattle.memory.proofs.chains.name_at.Goals as goal

pub returns : goal.returns
returns c = search search_steps
