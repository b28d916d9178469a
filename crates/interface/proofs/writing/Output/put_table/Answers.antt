-- The interface, component by component.
use Rattle.std.proofs.Common.{refl, ◌∙◌}
use Rattle.interface.proofs.InterfaceSteps.{interface_steps}
use Rattle.interface.proofs.writing.Output.put_table.Goals as goal

pub loop-component-init : goal.loop-component-init
loop-component-init c = (search interface_steps, refl)

pub loop-component-preserved : goal.loop-component-preserved
loop-component-preserved c = (search interface_steps, c.put_row.ensures.lent ∙ c.loop-component.invariant.1)

pub returns-clause-stored : goal.returns-clause-stored
returns-clause-stored c = search interface_steps
