-- Storing the components left makes of the output now what storing all makes of it at first, at most 848 bytes a component.
use Rattle.std.specs.Prelude.{◌≡◌}
use Rattle.interface.proofs.WriteLaws.{Writing}
use Rattle.slack.specs.Rows.{slack_row}
use Rattle.slack.proofs.put_table.Given as goal

abbrev pub invariant-loop-component : goal.invariant-loop-component
invariant-loop-component l =
    Writing (slack_row l.case.policy.charter.now l.case.policy.nodes.now l.case.policy.trees l.table l.case.sums.now) 848 l.components
    l.initial.output.bytes.now l.initial.output.next l.output.bytes.now l.output.next l.component
    × (l.output.bytes.ghost_name ≡ l.initial.output.bytes.ghost_name)
