-- `list_marked`: the items that are left decide (ListLeft).
use Rattle.wellformed.proofs.FenceSteps.{fence_steps}
use Rattle.wellformed.proofs.fences.list_marked.Goals.{then-group-ge64-via-then-group-ge64, then-group-ge64-via-else-group-ge64+then-not-marks-group}
use Rattle.wellformed.proofs.fences.list_marked.Goals as goal

pub returns-then-group-ge64 : goal.returns-then-group-ge64
returns-then-group-ge64 c = elim c.then-group-ge64.branch [
  | then-group-ge64-via-then-group-ge64 w ↦ search fence_steps
  | then-group-ge64-via-else-group-ge64+then-not-marks-group w ↦ search fence_steps
]
