-- What the entry comes to decides: 17, then 18.
use Rattle.fit.proofs.EntrySteps.{entry_steps}
use Rattle.fit.proofs.Case.tree_fault.Goals as goal

pub returns-in-Some : goal.returns-in-Some
returns-in-Some c = search entry_steps

pub returns-in-None : goal.returns-in-None
returns-in-None c = search entry_steps
