-- A disclose list: its length and its groups; nothing where no group is disclosed to.
use Rattle.interface.proofs.InterfaceSteps.{interface_steps}
use Rattle.interface.proofs.writing.Output.put_list.Goals as goal

pub returns-clause-stored : goal.returns-clause-stored
returns-clause-stored c = search interface_steps
