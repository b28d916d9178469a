-- Where no components share, own counts tell what classes need (`by_own`); else sums (`by_few`, `by_all`).
use Rattle.slack.proofs.TellSteps.{telling}
use Rattle.slack.proofs.deliver_slack.Goals as goal

pub returns-then-not-any_shared : goal.returns-then-not-any_shared
returns-then-not-any_shared c = search telling

pub returns-then-components-le4 : goal.returns-then-components-le4
returns-then-components-le4 c = search telling

pub returns : goal.returns
returns c = search telling
