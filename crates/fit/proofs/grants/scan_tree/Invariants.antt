-- The rows are passed in order with the depth down to which nodes are reached; what the table does not tell of a group, the rows that
-- are left tell (`ScanSoFar`).
use Rattle.fit.proofs.ScanSteps.{ScanSoFar}
use Rattle.fit.proofs.grants.scan_tree.Given as goal

abbrev pub invariant-loop-row : goal.invariant-loop-row
invariant-loop-row l = ScanSoFar l.nodes l.fn.tree.from l.fn.tree.to l.initial.scan.first l.scan.first l.scan.limit l.row
