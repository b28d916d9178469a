-- The length of the slack fits, since a component has at most 848 bytes.
use Rattle.std.proofs.Common.{arith}
use Rattle.slack.proofs.LengthSteps.{counted_fits}
use Rattle.slack.proofs.lengths.slack_len.Goals as goal

pub overflow_add-len : goal.overflow_add-len
overflow_add-len c =
    counted_fits _ _ _ _ c.loop-component.invariant _ (omega arith)
    (λ x nodes trees sums. rw (c.new.ensures.same_table, c.new.ensures.same_component) at (c.row_len-len.ensures x nodes trees sums)) (omega arith)
