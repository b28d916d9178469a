-- The length of a component's entries.
use Rattle.std.proofs.Common.{◌≡◌, length, arith}
use Rattle.interface.specs.Writes.{entry_bytes_at}
use Rattle.interface.proofs.WriteLaws.{count_next}
use Rattle.interface.proofs.InterfaceSteps.{interface_steps}
use Rattle.interface.proofs.entries.row_len.Goals as goal

pub loop-kind-init : goal.loop-kind-init
loop-kind-init c = search interface_steps

pub loop-kind-preserved : goal.loop-kind-preserved
loop-kind-preserved c =
    let own : c.entry_len-len.result ≡ length (entry_bytes_at c.args.row.table.now c.args.row.component c.loop-kind.kind) =
    rw (c.entry.ensures.same_table, c.entry.ensures.same_component, c.entry.ensures.same_kind) at c.entry_len-len.ensures in
    count_next c.loop-kind.invariant _ (omega arith) own

pub returns : goal.returns
returns c = search interface_steps
