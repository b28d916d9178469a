-- The questions' own number, or what is delivered: the slack, since the tables hold the interface and the charter's trees (`delivers`).
use Rattle.slack.proofs.TellSteps.{telling}
use Rattle.slack.proofs.slack_judged.Goals as goal

pub returns-in-Some : goal.returns-in-Some
returns-in-Some c = search telling

pub returns : goal.returns
returns c = search telling
