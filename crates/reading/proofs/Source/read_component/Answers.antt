-- `read_component` reads past a component's process: where it ends, there is one component more.
use Rattle.reading.proofs.SystemSteps.{component_steps}
use Rattle.reading.proofs.Source.read_component.Goals as goal

pub returns-in_default : goal.returns-in_default
returns-in_default c = search component_steps

pub returns : goal.returns
returns c = search component_steps
