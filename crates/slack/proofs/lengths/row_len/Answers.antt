-- The length of a component's entries fits, since an entry has at most 53 bytes.
use Rattle.std.proofs.Common.{arith}
use Rattle.slack.proofs.LengthSteps.{row_counted_fits}
use Rattle.slack.proofs.lengths.row_len.Goals as goal

pub overflow_add-len : goal.overflow_add-len
overflow_add-len c =
    row_counted_fits _ _ _ _ c.loop-kind.invariant _ (omega arith)
    (λ x nodes trees sums. rw (c.entry.ensures.same_table, c.entry.ensures.same_component, c.entry.ensures.same_kind) at (c.entry_len-len.ensures x nodes trees sums))
