-- What is summed and what the kinds left would add are all, whatever the policy and the sums.
use Rattle.slack.proofs.LengthSteps.{RowCounted}
use Rattle.slack.proofs.lengths.row_len.Given as goal

abbrev pub invariant-loop-kind : goal.invariant-loop-kind
invariant-loop-kind l = RowCounted l.row.table.now l.row.component l.len l.kind
