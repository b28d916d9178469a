-- Storing the kinds left makes of the output now what storing all makes of it at first, at most 37 bytes a kind.
use Rattle.interface.proofs.WriteLaws.{Writing}
use Rattle.interface.specs.Writes.{entry_bytes_at}
use Rattle.std.specs.Prelude.{◌≡◌}
use Rattle.interface.proofs.writing.Output.put_row.Given as goal

abbrev pub invariant-loop-kind : goal.invariant-loop-kind
invariant-loop-kind l =
    Writing (entry_bytes_at l.row.table.now l.row.component) 37 16 l.initial.self.bytes.now l.initial.self.next l.self.bytes.now l.self.next l.kind
    × (l.self.bytes.ghost_name ≡ l.initial.self.bytes.ghost_name)
