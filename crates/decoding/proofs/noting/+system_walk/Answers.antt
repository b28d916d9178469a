-- Each return is one lemma of NoteSteps.
use Rattle.decoding.proofs.NoteSteps.{system_steps}
use Rattle.decoding.proofs.noting.+system_walk.Goals as goal

pub note_system-returns-then-nest-eq0 : goal.note_system-returns-then-nest-eq0
note_system-returns-then-nest-eq0 t c = search system_steps

pub note_system-returns-in_default : goal.note_system-returns-in_default
note_system-returns-in_default t c = search system_steps

pub note_system-returns : goal.note_system-returns
note_system-returns t c = search system_steps

pub note_form-returns-in-Nil : goal.note_form-returns-in-Nil
note_form-returns-in-Nil t c = search system_steps

pub note_form-returns-in-Par : goal.note_form-returns-in-Par
note_form-returns-in-Par t c = search system_steps

pub note_form-returns-in-Group : goal.note_form-returns-in-Group
note_form-returns-in-Group t c = search system_steps

pub note_form-returns-in-Component : goal.note_form-returns-in-Component
note_form-returns-in-Component t c = search system_steps

pub note_form-returns-in-Input : goal.note_form-returns-in-Input
note_form-returns-in-Input t c = search system_steps
