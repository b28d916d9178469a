-- Question 12, kind by kind: a kind is distinct from those after it, and then those from each other.
use Prim.Native.Nat.{ℕ, ◌+◌, ◌-◌, ◌<◌, ◌≤◌}
use mathlib.Core.Bool.{Bool, true, false, not, ◌&&◌, ◌||◌}
use mathlib.Core.List.{List, [], ◌∷◌}
use mathlib.Core.Path.{◌≡◌, refl, sym, ap}
use native.Mathlib.Numerals.{add-one}
use native.Mathlib.Omega.{arith}
use lib.Dec.{eqb}
use lib.ListN.{length, take, drop, get_or, drop_of_length-le, length-drop}
use lib.Seq.{drop-cons, take_all}
use Rattle.std.specs.List.{list_any}
use Rattle.reading.proofs.Tests.{tests}
use Rattle.reading.specs.Forms.{member}
use Rattle.policy.specs.WellFormed.{distinct}

-- What `contains` says.
pub found_among : (g : ℕ) (xs : List ℕ) → list_any (λ y. eqb y g) xs ≡ member g xs
unfolding member
found_among g [] = refl
found_among g (x ∷ xs) = ap (λ (b : Bool). eqb x g || b) (found_among g xs)

-- Whether all kinds are distinct is whether those from the t-th on are.
pub record KindsLeft (kinds : List ℕ) (t : ℕ) : Type 0 where
  pub same : distinct kinds ≡ distinct (drop t kinds)

pub kinds_start : (kinds : List ℕ) → KindsLeft kinds 0
kinds_start kinds = record { same = refl }

module _ (kinds : List ℕ) (t : ℕ) (s : KindsLeft kinds t) where
  pub kinds_end : length kinds ≤ t → true ≡ distinct kinds
  unfolding distinct
  kinds_end h = rw (drop_of_length-le kinds {i = t} h) at (sym s.same)

  module _ (h : t < length kinds) (b : Bool) (e : b ≡ list_any (λ y. eqb y (get_or kinds t 0)) (take (length kinds - (t + 1)) (drop (t + 1) kinds))) where
    abbrev kind : ℕ
    kind = get_or kinds t 0

    more_kinds : distinct kinds ≡ (not b && distinct (drop (t + 1) kinds))
    unfolding distinct
    more_kinds =
        let z : drop t kinds ≡ kind ∷ drop (t + 1) kinds = rw (add-one t) (drop-cons kinds t 0 h) in
        let l : take (length kinds - (t + 1)) (drop (t + 1) kinds) ≡ drop (t + 1) kinds =
        take_all (length kinds - (t + 1)) (drop (t + 1) kinds) (omega (arith, length-drop (t + 1) kinds)) in
        rw (s.same, z, ← found_among kind (drop (t + 1) kinds), ← rw l at e)

    pub kinds_twice : b ≡ true → false ≡ distinct kinds
    kinds_twice k = sym (rw k at more_kinds)

    pub kinds_next : b ≡ false → KindsLeft kinds (t + 1)
    kinds_next k = record { same = rw k at more_kinds }

pub ruleset kind_steps = (tests, kinds_start, kinds_end, kinds_twice, kinds_next)
