-- `counted_list`: how many, at least one, and then the items.
use Rattle.policy.proofs.ListSteps.{counted_steps}
use Rattle.policy.proofs.read.counted_list.Goals as goal

pub returns-then-count-eq0 : goal.returns-then-count-eq0
returns-then-count-eq0 c = search counted_steps
