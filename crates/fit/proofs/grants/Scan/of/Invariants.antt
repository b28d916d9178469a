-- The groups marked so far and those of the places that are left are the path's (`MarksSoFar`).
use Rattle.fit.proofs.ScanSteps.{MarksSoFar}
use Rattle.fit.proofs.grants.Scan.of.Given as goal

abbrev pub invariant-loop-group : goal.invariant-loop-group
invariant-loop-group l = MarksSoFar l.groups l.first l.group-index
