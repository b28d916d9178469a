-- A thread stands after those made so far, where there is room for it.
use Rattle.products.proofs.GivingSteps.{giving_steps}
use Rattle.products.proofs.giving.push.Goals as goal

pub returns-then-n-ge-MAX_THREADS : goal.returns-then-n-ge-MAX_THREADS
returns-then-n-ge-MAX_THREADS c = search giving_steps

pub returns : goal.returns
returns c = search giving_steps
