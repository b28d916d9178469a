-- `play_in`: new tables are blank and have their lengths.
use borrow.Author.Rules.{rules}
use Rattle.execution.proofs.PlaySteps.{new_tables, made_enough}
use Rattle.execution.proofs.opening.play_in.Goals as goal

pub play_with-requires : goal.play_with-requires
play_with-requires g c = record {
  reads = c.requires.reads;
  blank = new_tables _ _ _ c.requires.forms c.requires.cells.0 c.requires.cells.1;
  made = search rules;
  enough = made_enough _ _ c.requires.enough;
}
