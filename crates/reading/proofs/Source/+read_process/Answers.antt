-- `read_process` reads past a process, form by form (ProcessSteps.antt). The invariant: what is left of the process, from the
-- place reached on, ends as all of it does. The measures, of a call and of a turn, are the nesting left, which falls since a
-- form was found only where it is above 0.
use Rattle.reading.proofs.ProcessSteps.{process_steps}
use Rattle.reading.proofs.Source.+read_process.Goals as goal

pub returns-in_default : goal.returns-in_default
returns-in_default t c = search process_steps

pub overflow_sub-nest : goal.overflow_sub-nest
overflow_sub-nest t c = search process_steps

pub returns-in-Nil : goal.returns-in-Nil
returns-in-Nil t c = search process_steps

pub read_process-left-requires : goal.read_process-left-requires
read_process-left-requires t c = search process_steps

pub loop-place-smaller-in-Par : goal.loop-place-smaller-in-Par
loop-place-smaller-in-Par t c = search process_steps

pub loop-place-smaller-in-New : goal.loop-place-smaller-in-New
loop-place-smaller-in-New t c = search process_steps

pub loop-place-smaller : goal.loop-place-smaller
loop-place-smaller t c = search process_steps

pub overflow_add-names : goal.overflow_add-names
overflow_add-names t c = search process_steps

pub returns-in-Group : goal.returns-in-Group
returns-in-Group t c = rw c.at.ensures (search process_steps)
