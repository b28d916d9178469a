-- Storing what is left makes of the output now what storing all makes of it at first, at most three bytes a group.
use Rattle.inference.specs.Rows.{group_count}
use Rattle.interface.proofs.WriteLaws.{Writing}
use Rattle.interface.proofs.InterfaceLaws.{group_bytes_at}
use Rattle.std.specs.Prelude.{◌≡◌}
use Rattle.interface.proofs.writing.Output.put_disclosures.Given as goal

abbrev pub invariant-loop-place : goal.invariant-loop-place
invariant-loop-place l =
    Writing (group_bytes_at l.entry.table.now l.entry.component l.entry.kind) 3 (group_count l.entry.table.now l.entry.component) l.initial.self.bytes.now l.initial.self.next l.self.bytes.now l.self.next l.place
    × (l.self.bytes.ghost_name ≡ l.initial.self.bytes.ghost_name)
