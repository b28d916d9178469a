-- The rows looked up so far, then those of the groups that are left, are the rows of the whole path (`GiversSoFar`).
use Rattle.fit.specs.Givers.{row_in}
use Rattle.fit.proofs.ScanSteps.{GiversSoFar}
use Rattle.fit.proofs.grants.givers.Given as goal

abbrev pub invariant-loop-i : goal.invariant-loop-i
invariant-loop-i l = GiversSoFar (row_in l.scan.first) l.groups l.rows l.i
