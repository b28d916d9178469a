-- A path is stored group by group: what is left to store makes of the table now what all of it makes of the table at first.
use Rattle.inference.proofs.PathRows.{Storing}
use Rattle.inference.proofs.rows.store_steps.Given as goal

abbrev pub invariant-loop-place : goal.invariant-loop-place
invariant-loop-place l = Storing l.row l.groups l.initial.table l.table l.place
