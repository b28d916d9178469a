-- A group and its count: three bytes stored one after the other, none where the count is 0.
use Rattle.interface.proofs.InterfaceSteps.{interface_steps}
use Rattle.interface.proofs.writing.Output.put_disclosure.Goals as goal

pub returns-then-count-eq0-clause-stored : goal.returns-then-count-eq0-clause-stored
returns-then-count-eq0-clause-stored c = search interface_steps

pub returns-clause-stored : goal.returns-clause-stored
returns-clause-stored c = search interface_steps
