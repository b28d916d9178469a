-- Storing the groups left makes of the output now what storing all makes of it at first.
use Rattle.std.specs.Prelude.{◌≡◌, length}
use Rattle.interface.proofs.WriteLaws.{Writing}
use Rattle.interface.proofs.InterfaceLaws.{one_at}
use Rattle.interface.proofs.writing.Output.put_groups.Given as goal

abbrev pub invariant-loop-group : goal.invariant-loop-group
invariant-loop-group l =
    Writing (one_at l.groups) 1 (length l.groups) l.initial.self.bytes.now l.initial.self.next l.self.bytes.now l.self.next l.group-index
    × (l.self.bytes.ghost_name ≡ l.initial.self.bytes.ghost_name)
