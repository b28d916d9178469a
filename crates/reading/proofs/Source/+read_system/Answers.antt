-- `read_system` reads past a system, form by form (SystemSteps.antt). The invariant: what is left of the system, from the place
-- reached on, ends as all of it does, with as many components in all. The measures, of a call and of a turn, are the nesting
-- left, which falls since a form was found only where it is above 0.
use Rattle.reading.proofs.SystemSteps.{system_steps}
use Rattle.reading.proofs.Source.+read_system.Goals as goal

pub returns-in_default : goal.returns-in_default
returns-in_default t c = search system_steps

pub overflow_sub-spot : goal.overflow_sub-spot
overflow_sub-spot t c = search system_steps

pub returns-in-Nil : goal.returns-in-Nil
returns-in-Nil t c = search system_steps

pub read_system-left-requires : goal.read_system-left-requires
read_system-left-requires t c = search system_steps

pub loop-place-smaller-in-Par : goal.loop-place-smaller-in-Par
loop-place-smaller-in-Par t c = search system_steps

pub loop-place-smaller-in-Group : goal.loop-place-smaller-in-Group
loop-place-smaller-in-Group t c = search system_steps

pub overflow_add-spot : goal.overflow_add-spot
overflow_add-spot t c = search system_steps

pub loop-place-smaller : goal.loop-place-smaller
loop-place-smaller t c = search system_steps

pub read_component-requires : goal.read_component-requires
read_component-requires t c = search system_steps

pub returns-in-Component : goal.returns-in-Component
returns-in-Component t c = search system_steps

pub returns-in-Input : goal.returns-in-Input
returns-in-Input t c = rw c.at.ensures (search system_steps)
