-- A sheet that does not read is refused; any other has its slack told with a new table that has a row for each component.
use Rattle.slack.proofs.TellSteps.{telling}
use Rattle.slack.proofs.slack.Goals as goal

pub returns-in_default : goal.returns-in_default
returns-in_default c = search telling

pub slack_by-requires : goal.slack_by-requires
slack_by-requires c = search telling

pub slack_by-requires-2 : goal.slack_by-requires-2
slack_by-requires-2 c = search telling
