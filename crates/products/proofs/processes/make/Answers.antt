-- The arms of the walk, or the walk itself.
use Rattle.products.proofs.MakeSteps.{make_steps}
use Rattle.products.proofs.processes.make.Goals as goal

pub returns-then-thread-eq0 : goal.returns-then-thread-eq0
returns-then-thread-eq0 c = search make_steps

pub returns-in-Nil : goal.returns-in-Nil
returns-in-Nil c = search make_steps

pub returns-in-Input : goal.returns-in-Input
returns-in-Input c = search make_steps
