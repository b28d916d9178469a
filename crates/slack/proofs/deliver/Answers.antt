-- The slack is written only where it fits.
use Rattle.slack.proofs.LengthSteps.{length_steps}
use Rattle.slack.proofs.deliver.Goals as goal

pub returns-then-output-len : goal.returns-then-output-len
returns-then-output-len c = search length_steps

pub returns : goal.returns
returns c = search length_steps
