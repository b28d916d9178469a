-- Each turn stores the entry of a kind.
use Rattle.std.proofs.Common.{◌∙◌, refl, arith}
use Rattle.interface.proofs.WriteLaws.{write_next}
use Rattle.slack.proofs.SlackSteps.{slack_steps}
use Rattle.slack.proofs.put_row.Goals as goal

pub loop-kind-init : goal.loop-kind-init
loop-kind-init c = (search slack_steps, refl)

pub loop-kind-preserved : goal.loop-kind-preserved
loop-kind-preserved c = (
  write_next c.loop-kind.invariant.0 (omega arith)
      (rw (c.entry.ensures.same_table, c.entry.ensures.same_component, c.entry.ensures.same_kind) at c.put_kind.ensures.stored),
  c.put_kind.ensures.lent ∙ c.loop-kind.invariant.1,
)

pub returns-clause-stored : goal.returns-clause-stored
returns-clause-stored c = search slack_steps
