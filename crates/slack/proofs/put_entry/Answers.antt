-- An entry's head, and its sums in place of its list.
use Rattle.slack.proofs.SlackSteps.{slack_steps}
use Rattle.slack.proofs.put_entry.Goals as goal

pub returns-clause-stored : goal.returns-clause-stored
returns-clause-stored c = search slack_steps
