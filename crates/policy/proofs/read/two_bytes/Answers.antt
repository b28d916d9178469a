-- `two_bytes`: the low byte and then the high one; bytes are small, so that the sum fits.
use Rattle.policy.proofs.ListSteps.{word_steps}
use Rattle.policy.specs.Reading.{two_bytes}
use Rattle.policy.proofs.read.two_bytes.Goals as goal

pub returns-in_default-second : goal.returns-in_default-second
unfolding two_bytes
returns-in_default-second c = search word_steps

pub returns : goal.returns
unfolding two_bytes
returns c = search word_steps
