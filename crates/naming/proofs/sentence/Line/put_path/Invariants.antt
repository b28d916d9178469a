-- The steps added so far and those left are the path (`Putting`); there are at most eight.
use Prim.Native.Nat.{◌≤◌}
use mathlib.Core.Path.{◌≡◌}
use lib.ListN.{length}
use Rattle.naming.proofs.SentenceSteps.{Putting, step_at}
use Rattle.naming.proofs.sentence.Line.put_path.Given as goal

abbrev pub invariant-loop-i : goal.invariant-loop-i
invariant-loop-i l = Putting (step_at l.groups.file.now l.groups.places.now l.steps) 21 (length l.steps) l.initial.self l.self l.i × (l.initial.self.len ≡ 0) × (length l.steps ≤ 8)
