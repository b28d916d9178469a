-- A sum as a number of two bytes.
use Rattle.slack.proofs.SlackSteps.{slack_steps}
use Rattle.slack.proofs.put_count.Goals as goal

pub returns-clause-stored : goal.returns-clause-stored
returns-clause-stored c = search slack_steps
