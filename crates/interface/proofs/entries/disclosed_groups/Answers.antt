-- How many groups are disclosed to.
use Rattle.std.proofs.Common.{◌≡◌, refl, arith}
use Rattle.inference.specs.Rows.{group_count}
use Rattle.interface.proofs.InterfaceSteps.{groups_next, groups_last, interface_steps}
use Rattle.interface.proofs.entries.disclosed_groups.Goals as goal

pub loop-place-init : goal.loop-place-init
loop-place-init c = search interface_steps

pub loop-place-preserved : goal.loop-place-preserved
loop-place-preserved c =
    let n : c.group_count-place-end.result ≡ group_count c.args.entry.table.now c.args.entry.component =
    rw (c.row.ensures.same_table, c.row.ensures.same_component) at c.group_count-place-end.ensures.value in
    groups_next _ _ _ _ _ _ _ _ c.loop-place.invariant (omega arith) c.count.ensures c.bit-disclosed.ensures.value

pub returns-clause-value : goal.returns-clause-value
returns-clause-value c =
    let n : c.group_count-place-end.result ≡ group_count c.args.entry.table.now c.args.entry.component =
    rw (c.row.ensures.same_table, c.row.ensures.same_component) at c.group_count-place-end.ensures.value in
    groups_last _ _ _ c.loop-place.invariant (omega arith) refl
