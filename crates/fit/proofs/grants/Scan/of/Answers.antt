-- The groups marked so far and those of the places that are left are the path's (`MarksSoFar`).
use Rattle.fit.proofs.ScanSteps.{mark_steps}
use Rattle.fit.proofs.grants.Scan.of.Goals as goal

pub loop-group-init : goal.loop-group-init
loop-group-init c = search mark_steps

pub returns-clause-marked : goal.returns-clause-marked
returns-clause-marked c = search mark_steps
