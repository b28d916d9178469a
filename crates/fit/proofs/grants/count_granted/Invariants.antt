-- What is joined so far, with what is left to join, is the whole sum; at most eight counts are joined, so it stays small.
use Rattle.fit.proofs.GrantSteps.{SumSoFar}
use Rattle.fit.proofs.grants.count_granted.Given as goal

abbrev pub invariant-loop-row : goal.invariant-loop-row
invariant-loop-row l = SumSoFar l.group l.charter l.nodes l.rows l.total l.row-index
