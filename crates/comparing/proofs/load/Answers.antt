-- `load`: a charter that is too long, one that does not read, one that fails 12 to 15, and one that passes.
use Rattle.comparing.proofs.LoadSteps.{load_steps}
use Rattle.comparing.proofs.load.Goals as goal

pub returns-then-charter-gt4096 : goal.returns-then-charter-gt4096
returns-then-charter-gt4096 c = search load_steps

pub returns-in_default : goal.returns-in_default
returns-in_default c = search load_steps

pub returns-then-is_some : goal.returns-then-is_some
returns-then-is_some c = search load_steps

pub returns : goal.returns
returns c = search load_steps
