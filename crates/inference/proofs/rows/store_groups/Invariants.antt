-- The groups of a path are stored from the least up: what is left to store makes of the table now what all of it makes of the table at first.
-- The measure is how many groups are left to look at.
use Prim.Native.Nat.{◌-◌, ◌≤◌}
use Rattle.reading.specs.Told.{path_of}
use Rattle.inference.specs.Rows.{next_group}
use Rattle.inference.proofs.GroupRows.{Rising}
use Rattle.inference.proofs.rows.store_groups.Given as goal

abbrev pub invariant-loop-group : goal.invariant-loop-group
invariant-loop-group l = record {
  low : l.from ≤ 64;
  rising : Rising l.row (path_of l.path) l.initial.table l.table l.count (next_group (path_of l.path) l.from);
}

abbrev pub decreases-loop-group : goal.decreases-loop-group
decreases-loop-group l = 64 - l.from
