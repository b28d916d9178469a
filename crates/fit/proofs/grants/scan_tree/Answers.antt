-- The rows are passed in order with the depth down to which nodes are reached; what the table does not tell of a group, the rows that
-- are left tell (`ScanSoFar`).
use Rattle.fit.proofs.ScanSteps.{scan_steps}
use Rattle.fit.proofs.grants.scan_tree.Goals as goal

pub loop-row-init : goal.loop-row-init
loop-row-init c = search scan_steps

pub loop-row-preserved : goal.loop-row-preserved
loop-row-preserved c = search scan_steps

pub returns : goal.returns
returns c = search scan_steps
