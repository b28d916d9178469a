-- The rest of the list moved, then others put before it.
use Rattle.memory.proofs.SpliceSteps.{splice_steps}
use Rattle.memory.proofs.threads.replace.Goals as goal

pub returns : goal.returns
returns c = search splice_steps
