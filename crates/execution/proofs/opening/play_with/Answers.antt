-- `play_with`: a start with too many threads or names fails 20; else memory holds it, and the script decides.
use borrow.Author.Rules.{rules}
use Rattle.execution.proofs.PlaySteps.{crowded, overnamed, start_stands, plays_on, tables_from, still_enough}
use Rattle.execution.proofs.opening.play_with.Goals as goal

pub returns-then-sizes-gt64 : goal.returns-then-sizes-gt64
returns-then-sizes-gt64 c = crowded _ _ _ c.requires.reads _ _ _ _ _ _ c.start-sizes.ensures c.if-sizes-gt64.true

pub returns-then-sizes-gt1024 : goal.returns-then-sizes-gt1024
returns-then-sizes-gt1024 c = overnamed _ _ _ c.requires.reads _ _ _ _ _ _ c.start-sizes.ensures c.if-sizes-gt1024.true

pub play_script-requires : goal.play_script-requires
play_script-requires c = record {
  standing = start_stands _ c.args.script.now c.args.log.now c.requires.reads _ _ _ _ _ _ c.start-sizes.ensures c.if-sizes-gt64.false c.if-sizes-gt1024.false;
  tables = tables_from _ _ _ _ _ _ _ _ _ _ _ _ c.requires.blank c.requires.made (search rules) (search rules) (search rules) (search rules) (search rules);
  enough = still_enough _ _ _ c.requires.enough (search rules);
}

pub returns : goal.returns
returns c =
    plays_on _ _ _ c.requires.reads _ _ _ _ _ _
    c.start-sizes.ensures
    c.if-sizes-gt64.false
    c.if-sizes-gt1024.false
    _ _ c.play_script.ensures
