-- The walk over a process notes the process that the reader reads: at each turn, what is noted from there on makes the whole noted
-- (`Walking` of NoteSteps). The measure is the nesting that is left.
use borrow.Author.Rules.{rules}
use Rattle.decoding.proofs.NoteSteps.{output_on, note_steps}
use Rattle.decoding.proofs.noting.+note_process.Goals as goal

pub returns-then-s-at : goal.returns-then-s-at
returns-then-s-at t c = search note_steps

pub returns-in-0 : goal.returns-in-0
returns-in-0 t c = search note_steps

pub loop-nest-preserved-in-1 : goal.loop-nest-preserved-in-1
loop-nest-preserved-in-1 t c = search note_steps

pub returns-in_default-read : goal.returns-in_default-read
returns-in_default-read t c = search note_steps

pub loop-nest-preserved-in-3 : goal.loop-nest-preserved-in-3
loop-nest-preserved-in-3 t c = search note_steps

pub returns-in_default-read-2 : goal.returns-in_default-read-2
returns-in_default-read-2 t c = search note_steps

pub loop-nest-preserved-in-5 : goal.loop-nest-preserved-in-5
loop-nest-preserved-in-5 t c = search note_steps

pub loop-nest-preserved-in-6 : goal.loop-nest-preserved-in-6
loop-nest-preserved-in-6 t c = search (rules, output_on)

pub loop-nest-preserved : goal.loop-nest-preserved
loop-nest-preserved t c = search note_steps

pub returns-in_default : goal.returns-in_default
returns-in_default t c = search note_steps

pub returns : goal.returns
returns t c = search note_steps
