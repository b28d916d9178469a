-- A component's path in its row: the loop that stores it and the loop that reads it back.
use Prim.Native.Nat.{ℕ, zero, suc, ◌+◌, ◌-◌, ◌*◌, ◌%◌, ◌≤◌, ◌<◌, min}
use mathlib.Core.List.{List, [], ◌∷◌}
use mathlib.Core.Path.{◌≡◌, refl, ap, ◌∙◌}
use native.Mathlib.Numerals.{add-one}
use native.Mathlib.Omega.{arith}
use borrow.Author.Count.{below_more}
use borrow.Author.Rules.{rules}
use lib.ListN.{length, take, drop, get_or, set, length-take, length-drop, length-set, drop_of_length-le}
use lib.Seq.{drop-cons, get_or-take, get_or-drop, get_or-set_same, get_or-set_other, ext_get_or}
use Rattle.reading.specs.Told.{path_of}
use Rattle.reading.specs.declared.Path.{Path}
use Rattle.inference.specs.Rows.{stored, path_at}

-- Storing: what is left to store makes of the table now what all of it makes of the table at first.
pub record Storing (row : ℕ) (groups first table : List ℕ) (i : ℕ) : Type 0 where
  pub left : stored table (row + 1 + i) (drop i groups) ≡ stored first (row + 1) groups

pub store_first : (row : ℕ) (groups t : List ℕ) → Storing row groups t t 0
store_first row groups t = record { left = let z : row + 1 + 0 ≡ row + 1 = omega arith in rw z }

pub store_next : (row i : ℕ) (groups first t u : List ℕ) → Storing row groups first t i → i < length groups
    → u ≡ set t (row + 1 + i) (get_or groups i 0 % 65536) → Storing row groups first u (i + 1)
unfolding stored
store_next row i groups first t u s h e = record { left = rw (e, lined) (rw (cut) at s.left) }
  where
    lined : row + 1 + (i + 1) ≡ row + 1 + i + 1
    lined = omega arith

    cut : drop i groups ≡ get_or groups i 0 ∷ drop (i + 1) groups
    cut = rw (drop-cons groups i 0 h, add-one)

pub store_last : (c i : ℕ) (p : Path) (groups t first u : List ℕ) → Storing (c * 211) groups first u i → length groups ≤ i
    → first ≡ set t (c * 211) (length groups % 65536) → groups ≡ path_of p → u ≡ stored t (c * 211) (length (path_of p) ∷ path_of p)
unfolding stored
store_last c i p groups t first u s h e f = rw (← f, ← e) (cut (drop_of_length-le groups {i = i} h) s.left)
  where
    cut : {l m : List ℕ} → l ≡ [] → stored u (c * 211 + 1 + i) l ≡ m → u ≡ m
    cut q r = rw q at r

-- What is taken of a list is as long as what it takes again.
pub take_own : (n : ℕ) (l : List ℕ) → take (length (take n l)) l ≡ take n l
take_own zero l = refl
take_own (suc n) [] = refl
take_own (suc n) (x ∷ l) = ap (λ (m : List ℕ). x ∷ m) (take_own n l)

-- Reading: each place passed holds what stands in the row.
pub record Copied (row : ℕ) (table groups : List ℕ) (i : ℕ) : Type 0 where
  pub within : i ≤ 8
  pub full : length groups ≡ 8
  pub same : (j : ℕ) → j < i → get_or groups j 0 ≡ get_or table (row + (1 + j)) 0

pub copy_first : (row : ℕ) (table : List ℕ) → Copied row table (0 ∷ 0 ∷ 0 ∷ 0 ∷ 0 ∷ 0 ∷ 0 ∷ 0 ∷ []) 0
copy_first row table = record { within = omega arith; full = refl; same = λ j h. absurd (omega arith) }

pub copy_next : (row i v : ℕ) (table groups : List ℕ) → Copied row table groups i → i < 8 → v ≡ get_or table (row + (1 + i)) 0
    → Copied row table (set groups i v) (i + 1)
copy_next row i v table groups s h e = record {
  within = omega arith;
  full = length-set groups i v ∙ s.full;
  same = below_more (λ j. get_or (set groups i v) j 0 ≡ get_or table (row + (1 + j)) 0) i earlier here;
}
  where
    earlier : (j : ℕ) → j < i → get_or (set groups i v) j 0 ≡ get_or table (row + (1 + j)) 0
    earlier j k = get_or-set_other groups i j v 0 (λ q. omega arith) ∙ s.same j k

    here : get_or (set groups i v) i 0 ≡ get_or table (row + (1 + i)) 0
    here = get_or-set_same groups i v 0 (omega (arith, s.full)) ∙ e

copied_at : (row n len j : ℕ) (table groups : List ℕ) → j < len → j < n → j < 8 → get_or groups j 0 ≡ get_or table (row + (1 + j)) 0
    → get_or (take len groups) j 0 ≡ get_or (take n (take 8 (drop (row + 1) table))) j 0
copied_at row n len j table groups a b d e =
    let w : row + (1 + j) ≡ row + 1 + j = omega arith in
    rw (get_or-take len groups j 0, get_or-take n, get_or-take 8, get_or-drop, ← w) e

copied : (row len i : ℕ) (table groups : List ℕ) → Copied row table groups i → 8 ≤ i
    → len ≡ min (get_or table row 0) (length table - (row + 1)) → take len groups ≡ take (get_or table row 0) (take 8 (drop (row + 1) table))
copied row len i table groups s h e =
    ext_get_or 0 (take len groups) (take (get_or table row 0) (take 8 (drop (row + 1) table))) (simp (length-take, length-drop) (omega (arith, s.full)))
    (λ j k. copied_at row (get_or table row 0) len j table groups
    (omega (arith, length-take len groups)) (omega (arith, length-take len groups)) (omega (arith, length-take len groups, s.full))
    (s.same j (omega (arith, length-take len groups, s.full))))

pub copy_last : (c len i : ℕ) (table groups : List ℕ) → Copied (c * 211) table groups i → 8 ≤ i
    → len ≡ min (get_or table (c * 211) 0) (length table - (c * 211 + 1)) → path_of (record { groups = groups; len = len }) ≡ path_at table c
unfolding path_at
copy_last c len i table groups s h e = copied (c * 211) len i table groups s h e

pub ruleset path_rows = (rules, store_first, store_next, store_last, copy_first, copy_next, copy_last)
