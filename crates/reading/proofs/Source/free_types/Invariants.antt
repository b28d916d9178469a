-- `free_types` reads past stored types, one a turn. The invariant: the types left, from the place reached on, end as all of
-- them do.
use Prim.Native.Nat.{◌-◌}
use Rattle.reading.proofs.SheetSteps.{TypesLeft}
use Rattle.reading.proofs.Source.free_types.Given as goal

abbrev pub invariant-loop : goal.invariant-loop
invariant-loop l = TypesLeft l.self.dialect l.self.bytes.now l.at l.count l.next (l.count - l.counter)
