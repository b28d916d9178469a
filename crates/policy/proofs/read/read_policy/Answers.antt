-- `read_policy`: the count of trees, and then the trees to the end.
use Rattle.policy.proofs.TreeSteps.{policy_steps}
use Rattle.policy.proofs.read.read_policy.Goals as goal

pub returns-in_default : goal.returns-in_default
returns-in_default c = search policy_steps

pub returns : goal.returns
returns c = search policy_steps
