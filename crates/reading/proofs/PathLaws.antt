-- Group paths as the code keeps them, the first `len` of eight groups: how long such a path is, whether it has a group, and
-- what it is with one group more.
use Prim.Native.Nat.{ℕ, ◌+◌, ◌%◌, ◌<◌, ◌≤◌}
use mathlib.Core.Bool.{Bool, true, false}
use mathlib.Core.List.{List, [], ◌∷◌, ◌++◌}
use mathlib.Core.Path.{◌≡◌, refl, sym, ◌∙◌}
use native.Mathlib.Nat.{mod-eq_of_lt}
use native.Mathlib.Numerals.{add-one}
use native.Mathlib.Omega.{arith}
use borrow.Author.Rules.{rules}
use borrow.Author.Tests.{ltb-true, ltb-false, lt-ltb, le-ltb, eq-eqb, ne_eqb}
use lib.Dec.{ltb}
use lib.ListN.{length, take, drop, get_or, set, length-take, drop_of_length-le}
use lib.Seq.{drop-cons, take-suc-set}
use Rattle.reading.specs.Forms.{member}
use Rattle.reading.specs.Told.{path_of}
use Rattle.reading.specs.declared.Path.{Path}

-- The length of a path is `len`, or 8 where `len` is more.
pub room_for_one : (p : Path) → length p.groups ≡ 8 → ltb p.len 8 ≡ ltb (length (path_of p)) 8
room_for_one p h = go (ltb p.len 8) refl
  where
    go : (b : Bool) → ltb p.len 8 ≡ b → ltb p.len 8 ≡ ltb (length (path_of p)) 8
    go true e = e ∙ sym (lt-ltb (length (path_of p)) 8 (omega (arith, ltb-true p.len 8 e, length-take p.len p.groups)))
    go false e = e ∙ sym (le-ltb (length (path_of p)) 8 (omega (arith, ltb-false p.len 8 e, length-take p.len p.groups)))

-- With one group more at its end.
pub one_more : (l : List ℕ) (n g : ℕ) → length l ≡ 8 → n < 8 → take (n + 1) (set l n g) ≡ take n l ++ (g ∷ [])
one_more l n g h k = rw add-one (take-suc-set l n g (omega arith))

-- The same of a group, which is stored in two bytes.
pub group_more : (l : List ℕ) (n g : ℕ) → length l ≡ 8 → n < 8 → g < 65536 → take (n + 1) (set l n (g % 65536)) ≡ take n l ++ (g ∷ [])
group_more l n g h k small = rw (mod-eq_of_lt small) (one_more l n g h k)

pub no_more : (p : Path) (q : List ℕ) → length p.groups ≡ 8 → 8 ≤ p.len → ltb (length (path_of p)) 8 ≡ true
    → path_of p ≡ q
no_more p q h k e = absurd (omega (arith, ltb-true (length (path_of p)) 8 e, length-take p.len p.groups))

-- A group g in what is left of a path from place i on: at the end, at g, at another group.
pub left_none : (g : ℕ) (l : List ℕ) (i : ℕ) → length l ≤ i → member g (drop i l) ≡ false
unfolding member
left_none g l i h = rw (drop_of_length-le l h)

pub left_here : (g : ℕ) (l : List ℕ) (i : ℕ) → i < length l → get_or l i 0 ≡ g → member g (drop i l) ≡ true
unfolding member
left_here g l i h e = rw (drop-cons l i 0 h, eq-eqb (get_or l i 0) g e)

pub left_past : (g : ℕ) (l : List ℕ) (i : ℕ) → i < length l → (get_or l i 0 ≡ g → ⊥) → member g (drop i l) ≡ member g (drop (i + 1) l)
unfolding member
left_past g l i h e = rw (drop-cons l i 0 h, ne_eqb (get_or l i 0) g e, add-one)

pub ruleset path_steps = (rules, room_for_one, group_more, no_more)

pub ruleset has_steps = (left_none, left_here, left_past)
