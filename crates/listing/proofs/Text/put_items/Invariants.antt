-- The items added so far and those left are all (`Putting`), at most 19 bytes an item.
use Prim.Native.Nat.{◌<◌}
use Rattle.listing.proofs.TextLaws.{item_part}
use Rattle.listing.proofs.ListingSteps.{Putting}
use Rattle.listing.proofs.Text.put_items.Given as goal

abbrev pub invariant-loop-i : goal.invariant-loop-i
invariant-loop-i l = Putting (item_part l.s l.from) 19 l.count l.initial.self l.self l.i × (l.initial.self.len < 100000)
