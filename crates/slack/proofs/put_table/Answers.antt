-- Each turn stores the entries of a component.
use Rattle.std.proofs.Common.{◌∙◌, refl}
use Rattle.slack.proofs.SlackSteps.{slack_steps}
use Rattle.slack.proofs.put_table.Goals as goal

pub loop-component-init : goal.loop-component-init
loop-component-init c = (search slack_steps, refl)

pub loop-component-preserved : goal.loop-component-preserved
loop-component-preserved c = (search slack_steps, c.put_row.ensures.lent ∙ c.loop-component.invariant.1)

pub returns-clause-stored : goal.returns-clause-stored
returns-clause-stored c = search slack_steps
