-- `put_both` puts both parts in their places; that there is room bounds every sum (ExchangeSteps.antt).
use mathlib.Core.Path.{ap}
use mathlib.Core.Bool.{not}
use native.Mathlib.Omega.{arith}
use Rattle.continuations.proofs.RoomLaws.{room_few}
use borrow.Author.Rules.{rules}
use Rattle.continuations.proofs.exchanging.put_both.Goals as goal

pub overflow_add-result : goal.overflow_add-result
overflow_add-result c = let few = room_few _ _ _ c.has_room.ensures (ap not c.if-not-has_room.false) in
    record { fits = omega (arith, few) }

pub swap-requires : goal.swap-requires
swap-requires c = let few = room_few _ _ _ c.has_room.ensures (ap not c.if-not-has_room.false) in
    (search rules, search rules, search rules, search rules, omega (arith, few), omega (arith, few), omega (arith, few), search rules)
