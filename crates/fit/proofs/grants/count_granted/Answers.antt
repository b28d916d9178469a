-- What is joined so far, with what is left to join, is the whole sum; at most eight counts are joined, so it stays small.
use Rattle.fit.proofs.GrantSteps.{sum_next, sum_steps}
use Rattle.fit.proofs.grants.count_granted.Goals as goal

pub loop-row-preserved : goal.loop-row-preserved
loop-row-preserved c = sum_next _ _ _ _ _ _ c.loop-row.invariant
    (search sum_steps) _ c.count_at.ensures.result_value c.count_at.ensures.upper_bound _ c.add-total.ensures
