-- A component's entries, kind by kind.
use Rattle.std.proofs.Common.{refl, ◌∙◌, arith}
use Rattle.interface.specs.Writes.{Stored, entry_bytes_at}
use Rattle.interface.proofs.WriteLaws.{write_next}
use Rattle.interface.proofs.InterfaceSteps.{interface_steps}
use Rattle.interface.proofs.writing.Output.put_row.Goals as goal

pub loop-kind-init : goal.loop-kind-init
loop-kind-init c = (search interface_steps, refl)

pub loop-kind-preserved : goal.loop-kind-preserved
loop-kind-preserved c =
    let own : Stored c.loop-kind.self.bytes.now c.put_entry.new.self.bytes.now c.loop-kind.self.next
    (entry_bytes_at c.args.row.table.now c.args.row.component c.loop-kind.kind) c.put_entry.new.self.next =
    rw (c.entry.ensures.same_table, c.entry.ensures.same_component, c.entry.ensures.same_kind) at c.put_entry.ensures.stored in
    (write_next c.loop-kind.invariant.0 (omega arith) own, c.put_entry.ensures.lent ∙ c.loop-kind.invariant.1)

pub returns-clause-stored : goal.returns-clause-stored
returns-clause-stored c = search interface_steps
