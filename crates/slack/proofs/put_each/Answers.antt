-- The sums, one after the other.
use Rattle.std.proofs.Common.{◌∙◌, refl}
use Rattle.slack.proofs.SlackSteps.{slack_steps}
use Rattle.slack.proofs.put_each.Goals as goal

pub loop-sum-init : goal.loop-sum-init
loop-sum-init c = (search slack_steps, refl)

pub loop-sum-preserved : goal.loop-sum-preserved
loop-sum-preserved c = (search slack_steps, c.put_sum.ensures.lent ∙ c.loop-sum.invariant.1)

pub returns-clause-stored : goal.returns-clause-stored
returns-clause-stored c = search slack_steps
