-- `environment_name_at` reads a type: its refusal is handed on.
use Rattle.script.proofs.MoveSteps.{field_steps}
use Rattle.script.specs.Fields.{environment_name_at}
use Rattle.script.specs.Told.{move_of}
use Rattle.script.proofs.moves.environment_name_at.Goals as goal

pub returns : goal.returns
unfolding environment_name_at move_of
returns c = search field_steps
