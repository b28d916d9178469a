-- `replace`: what a process makes, put in its place, is the state with its products; that there is room bounds every sum (PlaceSteps.antt).
use mathlib.Core.Path.{ap}
use mathlib.Core.Bool.{not}
use native.Mathlib.Omega.{arith}
use borrow.Author.Rules.{rules}
use Rattle.continuations.proofs.RoomLaws.{room_few}
use Rattle.continuations.proofs.PlaceSteps.{replace_step, put_refused, put_taken}
use Rattle.continuations.proofs.placing.replace.Goals as goal

pub returns-then-not-has_room : goal.returns-then-not-has_room
returns-then-not-has_room c =
    replace_step _ _ _ _ _ _ _ _ _ _ _ _ _ _ _ _ c.requires.ordered.0 c.requires.ordered.1 c.requires.tables c.none_made-before.ensures c.make-after.ensures
    (put_refused _ _ _ _ _ _ _ c.has_room.ensures (ap not c.if-not-has_room.true))

pub splice-requires : goal.splice-requires
splice-requires c = let few = room_few _ _ _ c.has_room.ensures (ap not c.if-not-has_room.false) in
    (search rules, search rules, omega (arith, few), omega (arith, few), omega (arith, few), search rules)

pub overflow_add-result : goal.overflow_add-result
overflow_add-result c = let few = room_few _ _ _ c.has_room.ensures (ap not c.if-not-has_room.false) in
    record { fits = omega (arith, few) }

pub returns : goal.returns
returns c =
    replace_step _ _ _ _ _ _ _ _ _ _ _ _ _ _ _ _ c.requires.ordered.0 c.requires.ordered.1 c.requires.tables c.none_made-before.ensures c.make-after.ensures
    (put_taken _ _ _ _ _ _ _ c.has_room.ensures _ (ap not c.if-not-has_room.false) c.splice.ensures)
