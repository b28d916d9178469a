-- The tables in lent memory: the types of the names in scope, and the rows of what components need. Each lemma is one return of
-- a function of scope or rows.
use Prim.Native.Nat.{ℕ, zero, suc, ◌+◌, ◌-◌, ◌*◌, ◌%◌, ◌≤◌, ◌<◌}
use mathlib.Core.Bool.{Bool, true, false, cond, and-false}
use mathlib.Core.List.{List, [], ◌∷◌}
use mathlib.Core.Option.{some, none}
use Rattle.std.specs.Prelude.{Some, None}
use mathlib.Core.Path.{◌≡◌, refl, sym}
use native.Mathlib.Omega.{arith}
use native.Mathlib.Numerals.{add-one}
use borrow.Author.Tests.{lt-ltb, le-ltb, ltb-false, eq-eqb, ne_eqb}
use lib.Dec.{ltb}
use lib.ListN.{length, take, get_or, set, get_elem?, length-take}
use lib.Seq.{set_out, get_or-take}
use Rattle.reading.proofs.Tests.{tests}
use Rattle.reading.proofs.Tables.{unset, unread}
use Rattle.needs.specs.declared.Need.{Need}
use Rattle.needs.specs.declared.Need.TheVariants as need_case
use Rattle.inference.specs.Rows.{bumped, charge_at, cell_of, charge_cell, marked, charge_column, group_at, group_count, place_from, found_place, charge, kind_of, column_of}

-- What stands at a place of a list, and that nothing stands past its end.
pub elem_in : (l : List ℕ) (i : ℕ) → i < length l → some (get_or l i 0) ≡ get_elem? l i
elem_in [] i h = absurd (omega arith)
elem_in (x ∷ l) zero h = refl
elem_in (x ∷ l) (suc i) h = elem_in l i (omega arith)

pub elem_out : (l : List ℕ) (i : ℕ) → length l ≤ i → none ≡ get_elem? l i
elem_out [] i h = refl
elem_out (x ∷ l) zero h = absurd (omega arith)
elem_out (x ∷ l) (suc i) h = elem_out l i (omega arith)

module _ (l : List ℕ) (n i : ℕ) where
  pub in_scope_lem : i < n → i < length l → some (get_or l i 0) ≡ get_elem? (take n l) i
  in_scope_lem h k = rw (← get_or-take n l i 0 h) (elem_in (take n l) i (omega (arith, length-take n l)))

  pub past_names : n ≤ i → none ≡ get_elem? (take n l) i
  past_names h = elem_out (take n l) i (omega (arith, length-take n l))

  pub past_scope : length l ≤ i → none ≡ get_elem? (take n l) i
  past_scope h = elem_out (take n l) i (omega (arith, length-take n l))

-- One more.
pub bump_repeated : (n : ℕ) (b : Bool) → b ≡ true → 65535 ≡ bumped n b
unfolding bumped
bump_repeated n b e = rw e

pub bump_once : (n : ℕ) (b : Bool) → b ≡ false → n < 65534 → n + 1 ≡ bumped n b
unfolding bumped
bump_once n b e h = rw (e, lt-ltb n 65534 h)

pub bump_full : (n : ℕ) (b : Bool) → b ≡ false → 65534 ≤ n → n ≡ bumped n b
unfolding bumped
bump_full n b e h = rw (e, le-ltb n 65534 h)

pub charge_set : (l : List ℕ) (i : ℕ) (b : Bool) (v : ℕ) → v ≡ bumped (get_or l i 0) b → set l i v ≡ charge_at l i b
unfolding charge_at
charge_set l i b v e = rw e

pub charge_out : (l : List ℕ) (i : ℕ) (b : Bool) → length l ≤ i → l ≡ charge_at l i b
unfolding charge_at
charge_out l i b h = sym (set_out l i (bumped (get_or l i 0) b) h)

pub cell_place : (c k j : ℕ) → c * 211 + (18 + (k * 12 + j)) ≡ cell_of c k j
unfolding cell_of
cell_place c k j = refl

module _ (l : List ℕ) (c k j : ℕ) (b : Bool) where
  pub charge_in_row : {y : List ℕ} (at : ℕ) → k < 16 → j < 11 → at ≡ cell_of c k j → y ≡ charge_at l at b → y ≡ charge_cell l c k j b
  unfolding charge_cell
  charge_in_row at h i e f = rw (lt-ltb k 16 h, lt-ltb j 11 i, ← e) f

  pub no_such_kind : 16 ≤ k → l ≡ charge_cell l c k j b
  unfolding charge_cell
  no_such_kind h = rw (le-ltb k 16 h)

  pub no_such_column : k < 16 → 11 ≤ j → l ≡ charge_cell l c k j b
  unfolding charge_cell
  no_such_column h i = rw (lt-ltb k 16 h, le-ltb j 11 i)

-- The mark of a kind.
module _ (l : List ℕ) (c k : ℕ) where
  pub mark_in_row : {y : List ℕ} (at : ℕ) → k < 16 → at ≡ cell_of c k 11 → y ≡ set l at (1 % 65536) → y ≡ marked l c k
  unfolding marked
  mark_in_row at h e f = rw (lt-ltb k 16 h, ← e) f

  pub no_kind_to_mark : 16 ≤ k → l ≡ marked l c k
  unfolding marked
  no_kind_to_mark h = rw (le-ltb k 16 h)

  pub column_charged : (j : ℕ) (b : Bool) (l' : List ℕ) {y : List ℕ} → l' ≡ marked l c k → y ≡ charge_cell l' c k j b → y ≡ charge_column l c k j b
  unfolding charge_column
  column_charged j b l' e f = rw (← e) f

-- The groups of a component's path.
pub few_groups : (l : List ℕ) (c n : ℕ) → n ≡ get_or l (c * 211 + 9) 0 → n < 8 → n ≡ group_count l c
unfolding group_count
few_groups l c n e h = rw (← e) (omega arith)

pub eight_groups : (l : List ℕ) (c n : ℕ) → n ≡ get_or l (c * 211 + 9) 0 → 8 ≤ n → 8 ≡ group_count l c
unfolding group_count
eight_groups l c n e h = rw (← e) (omega arith)

pub group_read : (l : List ℕ) (c i r : ℕ) → r ≡ get_or l (c * 211 + (10 + i)) 0 → r ≡ group_at l c i
unfolding group_at
group_read l c i r e = e

-- A place that is found, and none.
by_place : (P : Type 0) (t : Bool) (n p : ℕ) → Some p ≡ cond t (Some n) None → (t ≡ true → p ≡ n → P) → P
by_place P true n p e f = f refl (cc)
by_place P false n p e f = cc

pub place_is : (n p : ℕ) → Some p ≡ found_place n → p ≡ n
unfolding found_place
place_is n p e = by_place (p ≡ n) (ltb n 11) n p e (λ t q. q)

by_no_place : (t : Bool) (n : ℕ) → None ≡ cond t (Some n) None → t ≡ false
by_no_place true n e = cc
by_no_place false n e = refl

pub no_place : (n : ℕ) → None ≡ found_place n → 11 ≤ n
unfolding found_place
no_place n e = ltb-false n 11 (by_no_place (ltb n 11) n e)

-- The search for a group has come to a place.
pub record Searching (l : List ℕ) (c g n i : ℕ) : Type 0 where
  pub same : place_from l c g 0 n ≡ place_from l c g i (n - i)
  pub within : i ≤ n

pub search_first : (l : List ℕ) (c g n : ℕ) → Searching l c g n 0
search_first l c g n = record { same = let e : n - 0 ≡ n = omega arith in rw e; within = omega arith }

module _ (l : List ℕ) (c g n i v : ℕ) (s : Searching l c g n i) where
  left : i < n → n - i ≡ suc (n - suc i)
  left h = omega arith

  pub search_found : n ≡ group_count l c → n ≤ 8 → i < n → v ≡ group_at l c i → v ≡ g
      → Some i ≡ found_place (place_from l c g 0 (group_count l c))
  unfolding place_from found_place
  search_found m few h e f = rw (← m, s.same, left h, ← e, eq-eqb v g f) here
    where
      here : Some i ≡ cond (ltb i 11) (Some i) None
      here = rw (lt-ltb i 11 (omega arith))

  pub search_next : i < n → v ≡ group_at l c i → (v ≡ g → ⊥) → Searching l c g n (i + 1)
  unfolding place_from
  search_next h e f = record { same = rw add-one (rw (left h, ← e, ne_eqb v g f) at s.same); within = omega arith }

pub search_none : (l : List ℕ) (c g n i : ℕ) → Searching l c g n i → n ≡ group_count l c → n ≤ i
    → None ≡ found_place (place_from l c g 0 (group_count l c))
unfolding place_from found_place
search_none l c g n i s m h = rw (← m, s.same) (let e : n - i ≡ 0 = omega arith in rw e refl)

-- What an act needs, by its case.
module _ (l : List ℕ) (c k : ℕ) (b : Bool) where
  pub charge_nothing : charge l c need_case.Nothing b ≡ l
  unfolding charge
  charge_nothing = refl

  pub charge_read : charge l c (need_case.Read k) b ≡ charge_column l c k 8 b
  unfolding charge
  charge_read = refl

  pub charge_write : charge l c (need_case.Write k) b ≡ charge_column l c k 9 b
  unfolding charge
  charge_write = refl

  pub charge_access : charge l c (need_case.Access k) b ≡ charge_column l c k 10 b
  unfolding charge
  charge_access = refl

  module _ (g : ℕ) where
    pub charge_disclose : (p : ℕ) → Some p ≡ found_place (place_from l c g 0 (group_count l c))
        → charge l c (need_case.Disclose k g) b ≡ charge_column l c k p b
    unfolding charge
    charge_disclose p e = rw (← place_is (place_from l c g 0 (group_count l c)) p e)

    pub charge_elsewhere : None ≡ found_place (place_from l c g 0 (group_count l c)) → charge l c (need_case.Disclose k g) b ≡ marked l c k
    unfolding charge charge_column charge_cell
    charge_elsewhere e = rw (le-ltb (place_from l c g 0 (group_count l c)) 11 (no_place (place_from l c g 0 (group_count l c)) e), and-false)

-- What an act needs is counted by its kind and its column.
pub by_need : (l : List ℕ) (c : ℕ) (n : Need) (b : Bool) → charge_column l c (kind_of n) (column_of l c n) b ≡ charge l c n b
unfolding charge kind_of column_of
by_need l c need_case.Nothing b = unfold charge_column charge_cell marked in refl
by_need l c (need_case.Read k) b = refl
by_need l c (need_case.Write k) b = refl
by_need l c (need_case.Access k) b = refl
by_need l c (need_case.Disclose k g) b = refl

pub ruleset row_steps = (
  tests,
  in_scope_lem,
  past_names,
  past_scope,
  unset,
  unread,
  bump_repeated,
  bump_once,
  bump_full,
  charge_set,
  charge_out,
  cell_place,
  charge_in_row,
  no_such_kind,
  no_such_column,
  mark_in_row,
  no_kind_to_mark,
  column_charged,
  few_groups,
  eight_groups,
  group_read,
  search_first,
  search_found,
  search_next,
  search_none,
  charge_nothing,
  charge_read,
  charge_write,
  charge_access,
  charge_disclose,
  charge_elsewhere,
)
