-- `keeps_within`: with nondisclose the marked groups are the fence; without it nothing is asked.
use Rattle.wellformed.proofs.FenceSteps.{fence_steps}
use Rattle.wellformed.proofs.fences.keeps_within.Goals as goal

pub returns-else-not-has_bit : goal.returns-else-not-has_bit
returns-else-not-has_bit c = search fence_steps
