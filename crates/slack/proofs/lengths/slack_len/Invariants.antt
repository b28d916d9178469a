-- What is summed and what the components left would add are all, whatever the policy and the sums.
use Rattle.slack.proofs.LengthSteps.{Counted}
use Rattle.slack.proofs.lengths.slack_len.Given as goal

abbrev pub invariant-loop-component : goal.invariant-loop-component
invariant-loop-component l = Counted l.table l.components l.len l.component
