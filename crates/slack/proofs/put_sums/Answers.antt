-- How many sums, and each, where there is one.
use Rattle.slack.proofs.SlackSteps.{slack_steps}
use Rattle.slack.proofs.put_sums.Goals as goal

pub returns-then-sums-eq0-clause-stored : goal.returns-then-sums-eq0-clause-stored
returns-then-sums-eq0-clause-stored c = search slack_steps

pub returns-clause-stored : goal.returns-clause-stored
returns-clause-stored c = search slack_steps
