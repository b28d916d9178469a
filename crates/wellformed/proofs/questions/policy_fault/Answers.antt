-- `policy_fault`: 12 of the whole policy, then the first node that fails, then 15 of the whole.
use Rattle.wellformed.proofs.PassSteps.{fault_steps}
use Rattle.wellformed.proofs.questions.policy_fault.Goals as goal

pub returns-then-all_fenced : goal.returns-then-all_fenced
returns-then-all_fenced c = search fault_steps

pub returns-else-all_fenced : goal.returns-else-all_fenced
returns-else-all_fenced c = search fault_steps
