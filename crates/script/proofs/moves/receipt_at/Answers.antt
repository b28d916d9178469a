-- `receipt_at` reads the thread and then the name: the first refusal is handed on.
use Rattle.script.proofs.MoveSteps.{field_steps}
use Rattle.script.specs.Fields.{receipt_at}
use Rattle.script.specs.Told.{move_of}
use Rattle.script.proofs.moves.receipt_at.Goals as goal

pub returns-in_default-second : goal.returns-in_default-second
unfolding move_of receipt_at
returns-in_default-second c = search field_steps

pub returns : goal.returns
unfolding move_of receipt_at
returns c = search field_steps
