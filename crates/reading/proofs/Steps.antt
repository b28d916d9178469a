-- How a reading goes on: the rules by which a function that takes a callee's answer apart meets its contract. A refusal is
-- handed on as it is; a value that was found goes to what is read after it; a form with no room for it is refused.
use Prim.Native.Nat.{ℕ}
use mathlib.Core.Bool.{Bool, true, false}
use mathlib.Core.Path.{◌≡◌}
use borrow.Author.Tests.{not-true, not-false}
use Rattle.reading.proofs.Tests.{tests}
use Rattle.std.specs.Prelude.{Result, Ok, Err}
use Rattle.reading.specs.Read.{Read, refused, and_then}
use Rattle.reading.specs.Forms.{limited}
use Rattle.reading.specs.Questions.{number_of}
use Rattle.reading.specs.Told.{number}
use Rattle.reading.specs.declared.Number.{Number}
use Rattle.reading.specs.declared.Refusal.{Refusal}

-- a callee's refusal is the answer
pub stops : (r : Result Number Refusal) (x : Read ℕ) (f : ℕ → ℕ → Read ℕ) (q : Refusal)
    → r ≡ Err q → number r ≡ x → number r ≡ and_then x f
unfolding and_then
stops r x f q e p = rw (← p, e)

pub stops_at : {B : Type 0} (r : Result Number Refusal) (x : Read ℕ) (f : ℕ → ℕ → Read B) (w : Refusal)
    → r ≡ Err w → number r ≡ x → refused (number_of w.question) w.at ≡ and_then x f
unfolding and_then
stops_at r x f w e p = rw (← p, e)

-- a number that was found goes to what is read after it
pub goes : {B : Type 0} {y : Read B} (r : Result Number Refusal) (x : Read ℕ) (f : ℕ → ℕ → Read B) (n : Number)
    → r ≡ Ok n → number r ≡ x → y ≡ f n.value n.next → y ≡ and_then x f
unfolding and_then
goes r x f n e p h = rw (← p, e) h

-- with room for one form more, and without
pub has_room_lem : {A : Type 0} {y : Read A} (b : Bool) (at : ℕ) (r : Read A) → b ≡ true → y ≡ r → y ≡ limited b at r
unfolding limited
has_room_lem b at r e h = rw e h

pub no_room : {A : Type 0} {y : Read A} (b : Bool) (at : ℕ) (r : Read A) → b ≡ false → y ≡ refused 5 at → y ≡ limited b at r
unfolding limited
no_room b at r e h = rw e h

pub ruleset steps = (tests, not-true, not-false, stops, stops_at, goes, has_room_lem, no_room)
