-- `turn`: the next move can be read, and its step and its record go on with the run (`all_turned`). The step asks that the state fits
-- its tables, which `Going` and `Lent` tell.
use native.Mathlib.Omega.{arith}
use Rattle.transitions.proofs.OutcomeSteps.{logged_taken, logged_refused}
use Rattle.execution.proofs.RunSteps.{turn_steps, move_fits, record_room, all_turned}
use Rattle.execution.proofs.runs.turn.Goals as goal

pub returns-in_default : goal.returns-in_default
returns-in_default c = search turn_steps

pub step-requires : goal.step-requires
step-requires c = record {
  tables = record {
    few = c.requires.ongoing.going.holds.few;
    thread_room = c.requires.tables.thread_room;
    made_room = c.requires.tables.made_room;
    type_room = c.requires.tables.type_room;
    cell_room = c.requires.tables.cell_room;
  };
  known = c.requires.tables.known_room;
  fits = move_fits _ _ _ _ c.move_at-read.ensures c.in-Ok.is;
}

pub write_record-requires : goal.write_record-requires
write_record-requires c =
    let room = record_room _ _ _ _ _ _ _ _ _ _ c.requires.ongoing.going c.requires.left in omega (arith, room)

pub write_record-requires-in-Err : goal.write_record-requires-in-Err
write_record-requires-in-Err c =
    let room = record_room _ _ _ _ _ _ _ _ _ _ c.requires.ongoing.going c.requires.left in omega (arith, room)

pub returns-in-Ok-step : goal.returns-in-Ok-step
returns-in-Ok-step c =
    all_turned _ _ _ _ _ _ _ _ _ c.requires.left _ c.move_at-read.ensures _ c.in-Ok.is _ _ _ _ _ _ _
    c.requires.enough c.step.ensures (logged_taken _ _ _ c.in-Ok-step.is) c.write_record.ensures

pub returns-in-Err : goal.returns-in-Err
returns-in-Err c =
    all_turned _ _ _ _ _ _ _ _ _ c.requires.left _ c.move_at-read.ensures _ c.in-Ok.is _ _ _ _ _ _ _
    c.requires.enough c.step.ensures (logged_refused _ _ _ _ _ c.in-Err.is c.number.ensures c.refused-kept.ensures)
    c.write_record-in-Err.ensures
