-- A path is read back group by group: each place passed holds what stands in the row.
use Rattle.inference.proofs.PathRows.{Copied}
use Rattle.inference.proofs.table.Row.path.Given as goal

abbrev pub invariant-loop-place : goal.invariant-loop-place
invariant-loop-place l = Copied l.row l.self.table.now l.groups l.place
