-- `item_at`: the group, not below the lowest, and then the count; each may be refused.
use Rattle.policy.proofs.ListSteps.{item_steps}
use Rattle.policy.proofs.read.item_at.Goals as goal

pub returns-then-group-lowest : goal.returns-then-group-lowest
returns-then-group-lowest c = search item_steps

pub returns-in_default-second : goal.returns-in_default-second
returns-in_default-second c = search item_steps

pub returns-else-is_count : goal.returns-else-is_count
returns-else-is_count c = search item_steps
