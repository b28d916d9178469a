-- `unfold_at` reads the thread: each answer of its callee decides its own.
use Rattle.script.proofs.MoveSteps.{field_steps}
use Rattle.script.specs.Fields.{unfold_at}
use Rattle.script.specs.Told.{move_of}
use Rattle.script.proofs.moves.unfold_at.Goals as goal

pub returns : goal.returns
unfolding move_of unfold_at
returns c = search field_steps
