-- `play_script`: a script that does not read leaves with 21, a log that is too short with 22; else the run begins at the script's first byte.
use Rattle.execution.proofs.PlaySteps.{script_fails, log_short, log_written, run_begins, counted_enough}
use Rattle.execution.proofs.opening.play_script.Goals as goal

pub returns-in_default : goal.returns-in_default
returns-in_default c = script_fails _ _ _ _ _ _ _ _ _ c.count_moves-counted.ensures.value c.in_default.not-Ok

pub returns-then-log-count : goal.returns-then-log-count
returns-then-log-count c = log_short _ _ _ _ _ _ _ _ _ c.count_moves-counted.ensures.value _ c.in-Ok.is c.if-log-count.true

pub run-requires : goal.run-requires
run-requires c = record {
  ongoing = run_begins _ _ _ _ _ _ _ _ _ c.count_moves-counted.ensures.value _ c.in-Ok.is c.if-log-count.false c.requires.standing;
  tables = c.requires.tables;
  enough = counted_enough _ _ _ _ c.count_moves-counted.ensures.upper_bound c.in-Ok.is c.requires.enough;
}

pub returns : goal.returns
returns c = log_written _ _ _ _ _ _ _ _ _ c.count_moves-counted.ensures.value _ c.in-Ok.is c.if-log-count.false _ c.run.ensures
