-- `read_opening`: the group, the permissions and the count of children, one after another; what is found fits its cells.
use Rattle.policy.proofs.OpeningSteps.{opening_steps}
use Rattle.policy.proofs.read.read_opening.Goals as goal

pub returns : goal.returns
returns c = search opening_steps

pub returns-in_default-clause-result_value : goal.returns-in_default-clause-result_value
returns-in_default-clause-result_value c = search opening_steps

pub returns-in_default-third-clause-result_value : goal.returns-in_default-third-clause-result_value
returns-in_default-third-clause-result_value c = search opening_steps
