-- A copy is written only where it fits.
use Rattle.moving.proofs.MoveSteps.{delivering}
use Rattle.moving.proofs.deliver.Goals as goal

pub returns : goal.returns
returns c = search delivering
