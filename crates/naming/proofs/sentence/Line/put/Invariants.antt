-- The bytes added so far and those left are the text (`Putting`).
use Prim.Native.Nat.{◌<◌, ◌≤◌}
use lib.ListN.{length}
use Rattle.interface.proofs.InterfaceLaws.{one_at}
use Rattle.naming.proofs.SentenceSteps.{Putting}
use Rattle.naming.proofs.sentence.Line.put.Given as goal

abbrev pub invariant-loop-byte : goal.invariant-loop-byte
invariant-loop-byte l = Putting (one_at l.text) 1 (length l.text) l.initial.self l.self l.byte-index × (l.initial.self.len < 1000) × (length l.text ≤ 20)
