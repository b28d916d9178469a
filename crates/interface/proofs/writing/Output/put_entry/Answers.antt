-- An entry: its head and its list, stored one after the other; nothing where its kind is not marked or its map is 0.
use Rattle.interface.proofs.InterfaceSteps.{interface_steps}
use Rattle.interface.proofs.writing.Output.put_entry.Goals as goal

pub returns-clause-stored : goal.returns-clause-stored
returns-clause-stored c = search interface_steps
