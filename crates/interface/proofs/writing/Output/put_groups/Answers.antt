-- A path's groups.
use Rattle.std.proofs.Common.{◌∙◌}
use Rattle.interface.proofs.InterfaceSteps.{interface_steps}
use Rattle.interface.proofs.writing.Output.put_groups.Goals as goal

pub loop-group-preserved : goal.loop-group-preserved
loop-group-preserved c = (search interface_steps, c.put.ensures.lent ∙ c.loop-group.invariant.1)

pub returns-clause-stored : goal.returns-clause-stored
returns-clause-stored c = search interface_steps
