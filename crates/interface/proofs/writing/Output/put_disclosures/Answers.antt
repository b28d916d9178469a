-- The groups that are disclosed to.
use Rattle.std.proofs.Common.{◌≡◌, ◌∙◌, refl, arith}
use Rattle.inference.specs.Rows.{group_count, group_at}
use Rattle.interface.proofs.InterfaceSteps.{groups_written_next, groups_written, interface_steps}
use Rattle.interface.proofs.writing.Output.put_disclosures.Goals as goal

pub loop-place-init : goal.loop-place-init
loop-place-init c = (search interface_steps, refl)

pub loop-place-preserved : goal.loop-place-preserved
loop-place-preserved c =
    let n : c.group_count-place-end.result ≡ group_count c.args.entry.table.now c.args.entry.component =
    rw (c.row-row.ensures.same_table, c.row-row.ensures.same_component) at c.group_count-place-end.ensures.value in
    let g : c.group_at-group.result ≡ group_at c.args.entry.table.now c.args.entry.component c.loop-place.place =
    rw (c.row-row.ensures.same_table, c.row-row.ensures.same_component) at c.group_at-group.ensures in (
      groups_written_next _ _ _ _ _ _ _ _ c.loop-place.invariant.0 (omega arith) g c.count.ensures c.put_disclosure.ensures.stored,
      c.put_disclosure.ensures.lent ∙ c.loop-place.invariant.1,
    )

pub returns-clause-stored : goal.returns-clause-stored
returns-clause-stored c =
    let n : c.group_count-place-end.result ≡ group_count c.args.entry.table.now c.args.entry.component =
    rw (c.row-row.ensures.same_table, c.row-row.ensures.same_component) at c.group_count-place-end.ensures.value in
    groups_written _ _ _ _ _ c.loop-place.invariant.0 (omega arith) refl
