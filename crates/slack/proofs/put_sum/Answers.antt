-- A group and two sums: five bytes stored one after the other.
use Rattle.slack.proofs.SlackSteps.{slack_steps}
use Rattle.slack.proofs.put_sum.Goals as goal

pub returns-clause-stored : goal.returns-clause-stored
returns-clause-stored c = search slack_steps
