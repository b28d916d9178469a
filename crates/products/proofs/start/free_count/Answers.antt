-- The number of free names is the sheet's first byte, below 33.
use Rattle.products.proofs.StartSteps.{start_steps}
use Rattle.products.proofs.start.free_count.Goals as goal

pub returns-in_default : goal.returns-in_default
returns-in_default c = search start_steps

pub returns : goal.returns
returns c = search start_steps
