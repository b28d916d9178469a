-- `move_at` reads a code, and each arm of its match is one arm of the definition (MoveSteps.antt).
use Rattle.script.proofs.MoveSteps.{move_steps}
use Rattle.running.specs.Script.{move_at}
use Rattle.script.proofs.moves.move_at.Goals as goal

pub returns-in-1 : goal.returns-in-1
unfolding move_at
returns-in-1 c = search move_steps

pub returns-in-2 : goal.returns-in-2
unfolding move_at
returns-in-2 c = search move_steps

pub returns-in-3 : goal.returns-in-3
unfolding move_at
returns-in-3 c = search move_steps

pub returns-in-4 : goal.returns-in-4
unfolding move_at
returns-in-4 c = search move_steps

pub returns-in-5 : goal.returns-in-5
unfolding move_at
returns-in-5 c = search move_steps

pub returns-in_default-value : goal.returns-in_default-value
unfolding move_at
returns-in_default-value c = search move_steps
