-- `heads_fault`: the rows that are left decide, with the groups on the way down and the last node of each group (HeadsLeft).
use Rattle.wellformed.proofs.HeadSteps.{head_steps}
use Rattle.wellformed.proofs.heads.heads_fault.Goals as goal

pub loop-row-init : goal.loop-row-init
loop-row-init c = search head_steps

pub returns-then-is_some : goal.returns-then-is_some
returns-then-is_some c = search head_steps

pub loop-row-preserved : goal.loop-row-preserved
loop-row-preserved c = search head_steps

pub returns : goal.returns
returns c = search head_steps
