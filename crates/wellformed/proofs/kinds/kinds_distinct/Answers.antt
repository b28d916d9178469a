-- `kinds_distinct`: the kinds that are left decide (KindsLeft).
use Rattle.wellformed.proofs.KindSteps.{kind_steps}
use Rattle.wellformed.proofs.kinds.kinds_distinct.Goals as goal

pub returns-then-contains : goal.returns-then-contains
returns-then-contains c = search kind_steps

pub loop-t-preserved : goal.loop-t-preserved
loop-t-preserved c = search kind_steps
