-- `no_looser`: a charter that does not pass decides, then the trees.
use Rattle.comparing.proofs.CompareSteps.{compare_steps}
use Rattle.comparing.proofs.no_looser.Goals as goal

pub returns-in_default : goal.returns-in_default
returns-in_default c = search compare_steps

pub returns-in_default-load : goal.returns-in_default-load
returns-in_default-load c = search compare_steps

pub returns : goal.returns
returns c = search compare_steps
