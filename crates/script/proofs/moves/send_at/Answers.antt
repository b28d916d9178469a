-- `send_at` reads the thread: each answer of its callee decides its own.
use Rattle.script.proofs.MoveSteps.{field_steps}
use Rattle.script.specs.Fields.{send_at}
use Rattle.script.specs.Told.{move_of}
use Rattle.script.proofs.moves.send_at.Goals as goal

pub returns : goal.returns
unfolding move_of send_at
returns c = search field_steps
