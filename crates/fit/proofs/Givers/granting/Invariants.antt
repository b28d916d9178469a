-- The rows that grant so far, then those of the rows that are left, are those of all rows (`GiversSoFar`).
use Rattle.fit.specs.Givers.{granting_row}
use Rattle.fit.proofs.ScanSteps.{GiversSoFar}
use Rattle.fit.proofs.Givers.granting.Given as goal

abbrev pub invariant-loop-i : goal.invariant-loop-i
invariant-loop-i l = GiversSoFar (granting_row l.purpose l.nodes) l.given l.rows l.i
