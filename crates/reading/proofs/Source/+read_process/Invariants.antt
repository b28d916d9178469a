-- `read_process` reads past a process, form by form (ProcessSteps.antt). The invariant: what is left of the process, from the
-- place reached on, ends as all of it does. The measures, of a call and of a turn, are the nesting left, which falls since a
-- form was found only where it is above 0.
use Rattle.reading.proofs.ProcessSteps.{ProcessLeft}
use Rattle.reading.proofs.Source.+read_process.Given as goal

abbrev pub decreases-read_process : goal.decreases-read_process
decreases-read_process l = l.levels

abbrev pub invariant-loop-place : goal.invariant-loop-place
invariant-loop-place l = ProcessLeft l.self.dialect l.self.bytes.now l.from l.levels l.bound l.at l.nest l.names

abbrev pub decreases-loop-place : goal.decreases-loop-place
decreases-loop-place l = l.nest
