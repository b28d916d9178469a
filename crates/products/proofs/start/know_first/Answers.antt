-- The first names become known one after another. The loop's invariant: those before the index are known, the others as they
-- were. The measure is how many are left.
use Rattle.products.proofs.StartSteps.{start_steps}
use Rattle.products.proofs.start.know_first.Goals as goal

pub loop-i-init : goal.loop-i-init
loop-i-init c = search start_steps

pub loop-i-preserved : goal.loop-i-preserved
loop-i-preserved c = search start_steps
