-- `permissions_at`: the map, the list and the purposes, one after another; what is found fits its cells.
use Rattle.policy.proofs.PermissionSteps.{permission_steps}
use Rattle.policy.proofs.read.permissions_at.Goals as goal

pub returns : goal.returns
returns c = search permission_steps

pub returns-in_default-clause-result_value : goal.returns-in_default-clause-result_value
returns-in_default-clause-result_value c = search permission_steps

pub returns-in_default-second-clause-result_value : goal.returns-in_default-second-clause-result_value
returns-in_default-second-clause-result_value c = search permission_steps

pub returns-in_default-third-clause-result_value : goal.returns-in_default-third-clause-result_value
returns-in_default-third-clause-result_value c = search permission_steps
