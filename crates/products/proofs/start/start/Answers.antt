-- The start of a run: what the sheet makes, and the free names known to the environment.
use Rattle.products.proofs.StartSteps.{start_steps}
use Rattle.products.proofs.start.start.Goals as goal

pub returns : goal.returns
returns c = search start_steps
