-- `communication_at` reads the two threads: the first refusal is handed on.
use Rattle.script.proofs.MoveSteps.{field_steps}
use Rattle.script.specs.Fields.{communication_at}
use Rattle.script.specs.Told.{move_of}
use Rattle.script.proofs.moves.communication_at.Goals as goal

pub returns-in_default-second : goal.returns-in_default-second
unfolding communication_at move_of
returns-in_default-second c = search field_steps

pub returns : goal.returns
unfolding communication_at move_of
returns c = search field_steps
