-- The walk over a process notes the process that the reader reads: at each turn, what is noted from there on makes the whole noted
-- (`Walking` of NoteSteps). The measure is the nesting that is left.
use Rattle.decoding.proofs.NoteSteps.{Walking}
use Rattle.decoding.proofs.noting.+note_process.Given as goal

abbrev pub decreases-note_process : goal.decreases-note_process
decreases-note_process l = l.levels

abbrev pub invariant-loop-nest : goal.invariant-loop-nest
invariant-loop-nest l = Walking l.s l.from l.levels l.initial.forms l.at l.nest l.forms

abbrev pub decreases-loop-nest : goal.decreases-loop-nest
decreases-loop-nest l = l.nest
