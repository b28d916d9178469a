-- Storing the kinds left makes of the output now what storing all makes of it at first, at most 53 bytes a kind.
use Rattle.std.specs.Prelude.{◌≡◌}
use Rattle.interface.proofs.WriteLaws.{Writing}
use Rattle.slack.specs.Rows.{slack_at}
use Rattle.slack.proofs.put_row.Given as goal

abbrev pub invariant-loop-kind : goal.invariant-loop-kind
invariant-loop-kind l =
    Writing (slack_at l.case.policy.charter.now l.case.policy.nodes.now l.case.policy.trees l.row.table.now l.case.sums.now l.row.component) 53 16
    l.initial.output.bytes.now l.initial.output.next l.output.bytes.now l.output.next l.kind
    × (l.output.bytes.ghost_name ≡ l.initial.output.bytes.ghost_name)
