-- The groups added so far and those left are all (`Putting`), at most six bytes a group.
use Prim.Native.Nat.{◌<◌}
use Rattle.listing.proofs.TextLaws.{dot_at}
use Rattle.listing.proofs.ListingSteps.{Putting}
use Rattle.listing.proofs.Text.put_dots.Given as goal

abbrev pub invariant-loop-i : goal.invariant-loop-i
invariant-loop-i l = Putting (dot_at l.s l.from) 6 l.len l.initial.self l.self l.i × (l.initial.self.len < 200000)
