-- `kept_below`: the rows that are left decide, as long as they stand deeper (KeptLeft).
use Rattle.wellformed.proofs.FenceSteps.{fence_steps}
use Rattle.wellformed.proofs.fences.kept_below.Goals as goal

pub returns-then-below-depth : goal.returns-then-below-depth
returns-then-below-depth c = search fence_steps

pub returns-then-not-list_marked : goal.returns-then-not-list_marked
returns-then-not-list_marked c = search fence_steps
