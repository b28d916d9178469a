-- Storing the components left makes of the output now what storing all makes of it at first, at most 592 bytes a component.
use Rattle.interface.proofs.WriteLaws.{Writing}
use Rattle.interface.proofs.InterfaceLaws.{row_bytes_at}
use Rattle.std.specs.Prelude.{◌≡◌}
use Rattle.interface.proofs.writing.Output.put_table.Given as goal

abbrev pub invariant-loop-component : goal.invariant-loop-component
invariant-loop-component l =
    Writing (row_bytes_at l.table) 592 l.components l.initial.self.bytes.now l.initial.self.next l.self.bytes.now l.self.next l.component
    × (l.self.bytes.ghost_name ≡ l.initial.self.bytes.ghost_name)
