-- No entry, no bytes; else the entry with the sums of its covering.
use Rattle.slack.proofs.SlackSteps.{slack_steps}
use Rattle.slack.proofs.put_kind.Goals as goal

pub returns-then-not-has_entry-clause-stored : goal.returns-then-not-has_entry-clause-stored
returns-then-not-has_entry-clause-stored c = search slack_steps

pub returns-clause-stored : goal.returns-clause-stored
returns-clause-stored c = search slack_steps
