-- The table after a sheet's walk holds the sheet's interface: components have consecutive numbers, each one's path and acts
-- change its own row alone, and a row holds its component's entries (RowLaws).
use Prim.Native.Nat.{ℕ, zero, suc, ◌+◌, ◌-◌, ◌*◌, ◌%◌, ◌<◌, ◌≤◌, min}
use mathlib.Core.Path.{◌≡◌, refl, sym, ap, ap₂, ◌∙◌}
use mathlib.Core.List.{List, [], ◌∷◌, ◌++◌}
use mathlib.Core.Bool.{true, false}
use mathlib.Core.Logic.{inl, inr}
use native.Mathlib.Omega.{arith}
use native.Mathlib.Decide.{ℕ_discrete}
use native.Mathlib.Nat.{mod-eq_of_lt}
use lib.ListN.{length, get_or, set, take, drop, length-set, length-take, length-drop}
use lib.Seq.{get_or-set_same, get_or-set_other, get_or-take, get_or-drop, ext_get_or}
use Rattle.reading.specs.Forms.{member}
use lib.Dec.{ltb}
use borrow.Author.Tests.{lt-ltb}
use Rattle.inference.specs.Lists.{every, gather, rising}
use Rattle.inference.specs.Counts.{fin, count_number}
use Rattle.inference.specs.Acts.{Located, acts_of}
use Rattle.inference.specs.Needs.{need_of, total}
use Rattle.inference.specs.Interface.{entries_of}
use Rattle.inference.specs.Rows.{Orderly, cell_of, cell, group_count, group_at, path_at, stored, rising_groups, with_groups, with_path, with_purpose, purpose_at, row_entries}
use Rattle.inference.specs.Walks.{charged, charged_all, worst, worst_all}
use Rattle.inference.proofs.WalkLaws.{worst_most, worst_all_most}
use Rattle.inference.proofs.CountLaws.{nothing_join}
use Rattle.interface.proofs.CellLaws.{lands, Places, Few, Outside, AllOf, length_charged, charged_kept, charged_count, same_count}
use Rattle.interface.proofs.MarkLaws.{charged_mark}
use Rattle.interface.proofs.GroupLaws.{group_low, groups_few, place_in, place_read}
use Rattle.interface.proofs.PathLaws.{component_inside}
use Rattle.interface.proofs.RowLaws.{Counted, orderly, row_entries_lem}

length_stored : (table : List ℕ) (at : ℕ) (xs : List ℕ) → length (stored table at xs) ≡ length table
unfolding stored
length_stored table at [] = refl
length_stored table at (x ∷ xs) = length_stored (set table at (x % 65536)) (at + 1) xs ∙ length-set table at (x % 65536)

stored_before : (table : List ℕ) (at i : ℕ) (xs : List ℕ) → i < at → get_or (stored table at xs) i 0 ≡ get_or table i 0
unfolding stored
stored_before table at i [] h = refl
stored_before table at i (x ∷ xs) h =
    stored_before (set table at (x % 65536)) (at + 1) i xs (omega arith)
    ∙ get_or-set_other table at i (x % 65536) 0 (λ e. omega arith)

stored_after : (table : List ℕ) (at i : ℕ) (xs : List ℕ) → at + length xs ≤ i → get_or (stored table at xs) i 0 ≡ get_or table i 0
unfolding stored
stored_after table at i [] h = refl
stored_after table at i (x ∷ xs) h =
    stored_after (set table at (x % 65536)) (at + 1) i xs (omega arith)
    ∙ get_or-set_other table at i (x % 65536) 0 (λ e. omega arith)

stored_in : (table : List ℕ) (at : ℕ) (xs : List ℕ) (j : ℕ) → j < length xs → at + length xs ≤ length table
    → get_or (stored table at xs) (at + j) 0 ≡ get_or xs j 0 % 65536
unfolding stored
stored_in table at [] j p q = elim p [ ]
stored_in table at (x ∷ xs) zero p q =
    let e : at + zero ≡ at = omega arith in
    rw e (stored_before (set table at (x % 65536)) (at + 1) at xs (omega arith)
    ∙ get_or-set_same table at (x % 65536) 0 (omega arith))
stored_in table at (x ∷ xs) (suc j) p q =
    let e : at + suc j ≡ (at + 1) + j = omega arith in
    rw e (stored_in (set table at (x % 65536)) (at + 1) xs j (omega arith) (rw (length-set table at (x % 65536)) (omega arith)))

-- No group stands twice in a path.
pub data NoneTwice : List ℕ → Type 0 where
  twice_none : NoneTwice []
  twice_more : {g : ℕ} {rest : List ℕ} → member g rest ≡ false → NoneTwice rest → NoneTwice (g ∷ rest)

-- A path that fits a row: at most eight groups, each below 64, none twice (question 6).
pub record FitsRow (path : List ℕ) : Type 0 where
  pub short : length path ≤ 8
  pub groups : (i : ℕ) → i < length path → get_or path i 0 < 64
  pub once : NoneTwice path

all_low_lem : (path : List ℕ) → ((i : ℕ) → i < length path → get_or path i 0 < 64) → every (λ g. ltb g 64) path ≡ true
unfolding every
all_low_lem [] h = refl
all_low_lem (g ∷ path) h = rw (lt-ltb g 64 (h 0 (omega arith)), all_low_lem path (λ i p. h (suc i) (omega arith)))

-- Two tables agree on the first nine cells of a row.
agree_path : {rows : ℕ} (table table' : List ℕ) (n : ℕ) → n < rows → length table ≡ rows * 211 → length table' ≡ rows * 211
    → ((i : ℕ) → n * 211 ≤ i → i < n * 211 + 9 → get_or table i 0 ≡ get_or table' i 0)
    → path_at table n ≡ path_at table' n
unfolding path_at
agree_path table table' n small long long' same =
    ap₂ take (same (n * 211) (omega arith) (omega arith))
    (ext_get_or 0 (take 8 (drop (n * 211 + 1) table)) (take 8 (drop (n * 211 + 1) table'))
    (simp (length-take, length-drop) (ap (λ (k : ℕ). min 8 (k - (n * 211 + 1))) (long ∙ sym long')))
    (λ i p. each i (len i p)))
  where
    len : (i : ℕ) → i < length (take 8 (drop (n * 211 + 1) table)) → i < 8
    len i p = let e : length (take 8 (drop (n * 211 + 1) table)) ≡ min 8 (length (drop (n * 211 + 1) table)) = length-take 8 (drop (n * 211 + 1) table) in omega arith

    each : (i : ℕ) → i < 8 → get_or (take 8 (drop (n * 211 + 1) table)) i 0 ≡ get_or (take 8 (drop (n * 211 + 1) table')) i 0
    each i p =
        get_or-take 8 (drop (n * 211 + 1) table) i 0 p ∙ get_or-drop (n * 211 + 1) table i 0
        ∙ same (n * 211 + 1 + i) (omega arith) (omega arith)
        ∙ sym (get_or-take 8 (drop (n * 211 + 1) table') i 0 p ∙ get_or-drop (n * 211 + 1) table' i 0)

module _ {rows : ℕ} (table : List ℕ) (n : ℕ) (small : n < rows) (long : length table ≡ rows * 211) (path : List ℕ) (fits : FitsRow path) where
  abbrev groups : List ℕ
  groups = rising_groups path

  few_groups : length groups ≤ 8
  few_groups = omega (arith, groups_few path, fits.short)

  -- the path as it stands
  abbrev first : List ℕ
  first = stored table (n * 211) (length path ∷ path)

  length_first : length first ≡ rows * 211
  length_first = length_stored table (n * 211) (length path ∷ path) ∙ long

  length_with_path : length (with_path table n path) ≡ rows * 211
  unfolding with_path with_groups
  length_with_path =
      length-set (stored first (n * 211 + 10) groups) (n * 211 + 9) (length groups % 65536) ∙ length_stored first (n * 211 + 10) groups ∙ length_first

  with_before : (i : ℕ) → i < n * 211 + 9 → get_or (with_path table n path) i 0 ≡ get_or first i 0
  unfolding with_path with_groups
  with_before i h =
      get_or-set_other (stored first (n * 211 + 10) groups) (n * 211 + 9) i (length groups % 65536) 0 (λ e. omega arith)
      ∙ stored_before first (n * 211 + 10) i groups (omega arith)

  with_after : (i : ℕ) → n * 211 + 18 ≤ i → get_or (with_path table n path) i 0 ≡ get_or table i 0
  unfolding with_path with_groups
  with_after i h =
      get_or-set_other (stored first (n * 211 + 10) groups) (n * 211 + 9) i (length groups % 65536) 0 (λ e. omega arith)
      ∙ stored_after first (n * 211 + 10) i groups (omega (arith, few_groups))
      ∙ stored_after table (n * 211) i (length path ∷ path) (omega (arith, fits.short))

  with_count : group_count (with_path table n path) n ≡ length groups
  unfolding with_path with_groups group_count
  with_count =
      rw (get_or-set_same (stored first (n * 211 + 10) groups) (n * 211 + 9) (length groups % 65536) 0
      (rw (length_stored first (n * 211 + 10) groups ∙ length_first) (omega arith)))
      (omega (arith, few_groups))

  with_group : (i : ℕ) → i < length groups → group_at (with_path table n path) n i ≡ get_or groups i 0
  unfolding with_path with_groups group_at
  with_group i h =
      get_or-set_other (stored first (n * 211 + 10) groups) (n * 211 + 9) (n * 211 + (10 + i)) (length groups % 65536) 0 (λ e. omega arith)
      ∙ ap (λ (j : ℕ). get_or (stored first (n * 211 + 10) groups) j 0) lined
      ∙ stored_in first (n * 211 + 10) groups i h (rw length_first (omega (arith, few_groups)))
      ∙ mod-eq_of_lt (omega (arith, group_low path i h))
    where
      lined : n * 211 + (10 + i) ≡ n * 211 + 10 + i
      lined = omega arith

  with_places : Places (with_path table n path) n (λ g. place_in groups g 0)
  unfolding Places
  with_places g = rw with_count (place_read (with_path table n path) n g groups 0 (λ j h. let z : 0 + j ≡ j = omega arith in rw z (with_group j h)))

  stored_length : get_or (with_path table n path) (n * 211) 0 ≡ length path
  stored_length =
      let e : n * 211 + 0 ≡ n * 211 = omega arith in
      let h : get_or first (n * 211 + 0) 0 ≡ length path % 65536 =
      stored_in table (n * 211) (length path ∷ path) 0 (omega arith) (rw long (omega (arith, fits.short))) in
      with_before (n * 211) (omega arith) ∙ ap (λ (i : ℕ). get_or first i 0) (sym e) ∙ h
      ∙ mod-eq_of_lt (omega (arith, fits.short))

  stored_group : (i : ℕ) → i < length path → get_or (with_path table n path) (n * 211 + 1 + i) 0 ≡ get_or path i 0
  stored_group i p =
      let e : n * 211 + 1 + i ≡ n * 211 + suc i = omega arith in
      let h : get_or first (n * 211 + suc i) 0 ≡ get_or path i 0 % 65536 =
      stored_in table (n * 211) (length path ∷ path) (suc i) (omega arith) (rw long (omega (arith, fits.short))) in
      with_before (n * 211 + 1 + i) (omega (arith, fits.short)) ∙ ap (λ (j : ℕ). get_or first j 0) e ∙ h
      ∙ mod-eq_of_lt (omega (arith, fits.groups i p))

  path_back : path_at (with_path table n path) n ≡ path
  unfolding path_at
  path_back =
      ap (λ (k : ℕ). take k (take 8 (drop (n * 211 + 1) (with_path table n path)))) stored_length
      ∙ ext_get_or 0 (take (length path) (take 8 (drop (n * 211 + 1) (with_path table n path)))) path len each
    where
      l8 : length (drop (n * 211 + 1) (with_path table n path)) ≡ rows * 211 - (n * 211 + 1)
      l8 = length-drop (n * 211 + 1) (with_path table n path) ∙ ap (λ (k : ℕ). k - (n * 211 + 1)) length_with_path

      len : length (take (length path) (take 8 (drop (n * 211 + 1) (with_path table n path)))) ≡ length path
      len =
          let a : length (take (length path) (take 8 (drop (n * 211 + 1) (with_path table n path))))
          ≡ min (length path) (length (take 8 (drop (n * 211 + 1) (with_path table n path))))
          = length-take (length path) (take 8 (drop (n * 211 + 1) (with_path table n path))) in
          let b : length (take 8 (drop (n * 211 + 1) (with_path table n path))) ≡ min 8 (length (drop (n * 211 + 1) (with_path table n path)))
          = length-take 8 (drop (n * 211 + 1) (with_path table n path)) in
          omega (arith, l8, fits.short)

      each : (i : ℕ) → i < length (take (length path) (take 8 (drop (n * 211 + 1) (with_path table n path))))
          → get_or (take (length path) (take 8 (drop (n * 211 + 1) (with_path table n path)))) i 0 ≡ get_or path i 0
      each i p =
          let q : i < length path = rw len at p in
          get_or-take (length path) (take 8 (drop (n * 211 + 1) (with_path table n path))) i 0 q
          ∙ get_or-take 8 (drop (n * 211 + 1) (with_path table n path)) i 0 (omega (arith, fits.short))
          ∙ get_or-drop (n * 211 + 1) (with_path table n path) i 0
          ∙ stored_group i q

-- Nothing is stored yet from a row on.
unfoldable pub Clear : ℕ → List ℕ → Type 0
Clear n table = (i : ℕ) → n * 211 ≤ i → get_or table i 0 ≡ 0

-- A component that can be stored: its path fits, its purpose is one of sixteen, its acts are its own and few.
pub record Storable (n : ℕ) (l : Located) : Type 0 where
  pub number : l.component.number ≡ n
  pub fits : FitsRow l.component.path
  pub purpose_low : l.component.purpose < 16
  pub own : AllOf n (acts_of l)
  pub few : length (acts_of l) ≤ 65000

-- Components with consecutive numbers from n on.
pub data AllStorable : ℕ → List Located → Type 0 where
  store_none : {n : ℕ} → AllStorable n []
  store_more : {n : ℕ} {l : Located} {rest : List Located} → Storable n l → AllStorable (suc n) rest → AllStorable n (l ∷ rest)

-- one component's row
unfoldable pub row_of : List ℕ → ℕ → Located → List ℕ
row_of table n l = charged (with_path (with_purpose table n l.component.purpose) n l.component.path) (acts_of l)

module _ {rows : ℕ} (table : List ℕ) (n : ℕ) (small : n < rows) (long : length table ≡ rows * 211) (l : Located) (ok : Storable n l) where
  -- the table with its purpose in it
  abbrev based : List ℕ
  based = with_purpose table n l.component.purpose

  based_long : length based ≡ rows * 211
  unfolding with_purpose
  based_long = length-set table (n * 211 + 210) (l.component.purpose % 65536) ∙ long

  based_same : (i : ℕ) → (i ≡ n * 211 + 210 → ⊥) → get_or based i 0 ≡ get_or table i 0
  unfolding with_purpose
  based_same i h = get_or-set_other table (n * 211 + 210) i (l.component.purpose % 65536) 0 h

  length_row : length (row_of table n l) ≡ rows * 211
  unfolding row_of
  length_row =
      length_charged (with_path based n l.component.path) (acts_of l)
      ∙ length_with_path based n small based_long l.component.path ok.fits

  row_path : path_at (row_of table n l) n ≡ l.component.path
  unfolding row_of
  row_path =
      agree_path (charged (with_path based n l.component.path) (acts_of l)) (with_path based n l.component.path) n small
      (unfold row_of in length_row) (length_with_path based n small based_long l.component.path ok.fits)
      (λ i p q. charged_kept n i (unfold Outside in inl (omega arith)) (with_path based n l.component.path) ok.own)
      ∙ path_back based n small based_long l.component.path ok.fits

  -- the rows before are as they were
  row_before : (i : ℕ) → i < n * 211 → get_or (row_of table n l) i 0 ≡ get_or table i 0
  unfolding row_of
  row_before i p =
      charged_kept n i (unfold Outside in inl (omega arith)) (with_path based n l.component.path) ok.own
      ∙ with_before based n small based_long l.component.path ok.fits i (omega arith)
      ∙ stored_before based (n * 211) i (length l.component.path ∷ l.component.path) p
      ∙ based_same i (λ e. omega arith)

  -- the rows after it are as they were
  row_after : (i : ℕ) → suc n * 211 ≤ i → get_or (row_of table n l) i 0 ≡ get_or table i 0
  unfolding row_of
  row_after i p =
      charged_kept n i (unfold Outside in inr (omega arith)) (with_path based n l.component.path) ok.own
      ∙ with_after based n small based_long l.component.path ok.fits i (omega arith) ∙ based_same i (λ e. omega arith)

  -- its purpose
  row_purpose : purpose_at (row_of table n l) n ≡ l.component.purpose
  unfolding row_of purpose_at with_purpose
  row_purpose =
      charged_kept n (n * 211 + 210) (unfold Outside in inr (omega arith)) (with_path based n l.component.path) ok.own
      ∙ with_after based n small based_long l.component.path ok.fits (n * 211 + 210) (omega arith)
      ∙ get_or-set_same table (n * 211 + 210) (l.component.purpose % 65536) 0 (omega (arith, long))
      ∙ mod-eq_of_lt (omega (arith, ok.purpose_low))

  -- the groups of its path, and their columns
  abbrev path : List ℕ
  path = l.component.path

  abbrev at : ℕ → ℕ
  at g = place_in (rising_groups path) g 0

  row_head : (i : ℕ) → n * 211 ≤ i → i < n * 211 + 18 → get_or (row_of table n l) i 0 ≡ get_or (with_path based n path) i 0
  unfolding row_of
  row_head i p q = charged_kept n i (unfold Outside in inl q) (with_path based n path) ok.own

  row_groups_lem : (i : ℕ) → i < length (rising_groups path) → group_at (row_of table n l) n i ≡ get_or (rising_groups path) i 0
  unfolding group_at
  row_groups_lem i p =
      row_head (n * 211 + (10 + i)) (omega arith) (omega (arith, few_groups based n small based_long path ok.fits))
      ∙ unfold group_at in with_group based n small based_long path ok.fits i p

  row_number : group_count (row_of table n l) n ≡ length (rising_groups path)
  row_number = same_count (with_path based n path) (row_of table n l) n row_head ∙ with_count based n small based_long path ok.fits

  row_count : Clear n table → (k c : ℕ) → k < 16 → c < 11
      → get_or (row_of table n l) (cell_of n k c) 0 ≡ count_number (total (λ a. lands at k c (need_of a)) (acts_of l))
  unfolding row_of Clear
  row_count clear k c p q =
      charged_count n small at k c p q (with_path based n path) (length_with_path based n small based_long path ok.fits)
      (with_places based n small based_long path ok.fits) (fin 0)
      (unfold count_number in (with_after based n small based_long path ok.fits (cell_of n k c) past ∙ based_same (cell_of n k c) inside ∙ clear (cell_of n k c) beyond))
      ok.own (unfold Few in omega (arith, ok.few))
      ∙ ap count_number (nothing_join (total (λ a. lands at k c (need_of a)) (acts_of l)))
    where
      past : n * 211 + 18 ≤ cell_of n k c
      past = unfold cell_of in omega arith

      inside : cell_of n k c ≡ n * 211 + 210 → ⊥
      inside e = let h : n * 211 + (18 + (k * 12 + c)) ≡ n * 211 + 210 = unfold cell_of in e in omega arith

      beyond : n * 211 ≤ cell_of n k c
      beyond = unfold cell_of in omega arith

  row_mark : (k c : ℕ) → k < 16 → get_or (row_of table n l) (cell_of n k 11) 0 ≡ 0 → total (λ a. lands at k c (need_of a)) (acts_of l) ≡ fin 0
  unfolding row_of
  row_mark k c p h =
      (charged_mark n small k p at c (with_path based n path) (length_with_path based n small based_long path ok.fits) ok.own h).0

  row_counted : Clear n table → worst (acts_of l) ≡ 11 → Counted (row_of table n l) n path (acts_of l)
  unfolding cell count_number
  row_counted clear typed = record {
    few = ok.few;
    short = ok.fits.short;
    inside = component_inside l typed;
    number = row_number;
    groups = row_groups_lem;
    cells = row_count clear;
    unmarked = λ k c p q h. row_count clear k c p q ∙ ap count_number (row_mark k c p h);
  }

  row_clear : Clear n table → Clear (suc n) (row_of table n l)
  unfolding Clear
  row_clear clear i p = row_after i p ∙ clear i (omega arith)

charged_row : (table : List ℕ) (n : ℕ) (l : Located) (rest : List Located) → l.component.number ≡ n
    → charged_all table (l ∷ rest) ≡ charged_all (row_of table n l) rest
unfolding charged_all row_of
charged_row table n l rest e =
    ap (λ (m : ℕ). charged_all (charged (with_path (with_purpose table m l.component.purpose) m l.component.path) (acts_of l)) rest) e

-- the table keeps its length, and later components leave earlier rows as they are
length_all : {rows : ℕ} (ls : List Located) (n : ℕ) → AllStorable n ls → n + length ls ≤ rows → (table : List ℕ) → length table ≡ rows * 211
    → length (charged_all table ls) ≡ rows * 211
length_all [] n store_none h table long = unfold charged_all in long
length_all (l ∷ rest) n (store_more ok more) h table long =
    rw (charged_row table n l rest ok.number)
    (length_all rest (suc n) more (omega arith) (row_of table n l) (length_row table n (omega arith) long l ok))

rows_kept : {rows : ℕ} (ls : List Located) (n : ℕ) → AllStorable n ls → n + length ls ≤ rows → (table : List ℕ) → length table ≡ rows * 211
    → (i : ℕ) → i < n * 211 → get_or (charged_all table ls) i 0 ≡ get_or table i 0
rows_kept [] n store_none h table long i p = unfold charged_all in refl
rows_kept (l ∷ rest) n (store_more ok more) h table long i p =
    rw (charged_row table n l rest ok.number)
    (rows_kept rest (suc n) more (omega arith) (row_of table n l) (length_row table n (omega arith) long l ok) i (omega arith)
    ∙ row_before table n (omega arith) long l ok i p)

-- one component's row, in the whole table
module _ {rows : ℕ} (table : List ℕ) (n : ℕ) (l : Located) (rest : List Located) (ok : Storable n l) (more : AllStorable (suc n) rest)
    (h : suc n + length rest ≤ rows) (long : length table ≡ rows * 211) (clear : Clear n table) (typed : worst (acts_of l) ≡ 11) where
  abbrev whole : List ℕ
  whole = charged_all (row_of table n l) rest

  small : n < rows
  small = omega arith

  long' : length (row_of table n l) ≡ rows * 211
  long' = length_row table n small long l ok

  kept : (i : ℕ) → i < suc n * 211 → get_or whole i 0 ≡ get_or (row_of table n l) i 0
  kept i p = rows_kept rest (suc n) more h (row_of table n l) long' i p

  head : (i : ℕ) → n * 211 ≤ i → i < n * 211 + 18 → get_or whole i 0 ≡ get_or (row_of table n l) i 0
  head i p q = kept i (omega arith)

  below : (k c : ℕ) → k < 16 → c < 12 → cell_of n k c < suc n * 211
  below k c p q = unfold cell_of in omega arith

  same : (k c : ℕ) → k < 16 → c < 12 → cell whole n k c ≡ cell (row_of table n l) n k c
  same k c p q = unfold cell in kept (cell_of n k c) (below k c p q)

  row : Counted (row_of table n l) n l.component.path (acts_of l)
  row = row_counted table n small long l ok clear typed

  counted : Counted whole n l.component.path (acts_of l)
  counted = record {
    few = row.few;
    short = row.short;
    inside = row.inside;
    number = same_count (row_of table n l) whole n head ∙ row.number;
    groups = λ i p. same_group i (omega (arith, groups_few l.component.path, row.short)) ∙ row.groups i p;
    cells = λ k c p q. same k c p (omega arith) ∙ row.cells k c p q;
    unmarked = λ k c p q u. same k c p (omega arith) ∙ row.unmarked k c p q (sym (same k 11 p (omega arith)) ∙ u);
  }
    where
      same_group : (i : ℕ) → i < 8 → group_at whole n i ≡ group_at (row_of table n l) n i
      same_group i p = unfold group_at in head (n * 211 + (10 + i)) (omega arith) (omega arith)

  path_there : path_at whole n ≡ l.component.path
  path_there =
      agree_path whole (row_of table n l) n small (length_all rest (suc n) more h (row_of table n l) long') long'
      (λ i p q. kept i (omega arith)) ∙ row_path table n small long l ok

  purpose_there : purpose_at whole n ≡ l.component.purpose
  purpose_there = unfold purpose_at in (kept (n * 211 + 210) (omega arith) ∙ unfold purpose_at in row_purpose table n small long l ok)

  row_in_table : row_entries whole n ≡ entries_of l
  unfolding entries_of
  row_in_table = row_entries_lem whole n l.component.path (acts_of l) counted l.component ok.number (sym path_there) (sym purpose_there)

  row_orderly : Orderly whole n
  row_orderly = orderly whole n l.component.path (acts_of l) counted path_there (all_low_lem l.component.path ok.fits.groups) (omega (arith, purpose_there, ok.purpose_low))

-- All pass questions 7 to 10: the first does, and the others do.
module _ (l : Located) (rest : List Located) (typed : worst_all (l ∷ rest) ≡ 11) where
  typed_first : worst (acts_of l) ≡ 11
  typed_first = let e : min (worst (acts_of l)) (worst_all rest) ≡ 11 = unfold worst_all in typed in omega (arith, worst_most (acts_of l))

  typed_rest : worst_all rest ≡ 11
  typed_rest = let e : min (worst (acts_of l)) (worst_all rest) ≡ 11 = unfold worst_all in typed in omega (arith, worst_all_most rest)

-- The table of components that are stored one after another holds their entries.
pub table_from : {rows : ℕ} (ls : List Located) (n : ℕ) → AllStorable n ls → n + length ls ≤ rows → (table : List ℕ) → length table ≡ rows * 211
    → Clear n table → worst_all ls ≡ 11 → gather (row_entries (charged_all table ls)) (rising n (length ls)) ≡ gather entries_of ls
unfolding gather rising
table_from [] n store_none h table long clear typed = refl
table_from (l ∷ rest) n (store_more ok more) h table long clear typed =
    ap (λ t. gather (row_entries t) (rising n (suc (length rest)))) (charged_row table n l rest ok.number)
    ∙ (ap₂ ◌++◌ (row_in_table table n l rest ok more (omega arith) long clear (typed_first l rest typed))
    (table_from rest (suc n) more (omega arith) (row_of table n l) (length_row table n (omega arith) long l ok)
    (row_clear table n (omega arith) long l ok clear) (typed_rest l rest typed)))

-- Its rows have their groups in order.
pub table_orderly : {rows : ℕ} (ls : List Located) (n : ℕ) → AllStorable n ls → n + length ls ≤ rows → (table : List ℕ) → length table ≡ rows * 211
    → Clear n table → worst_all ls ≡ 11 → (m : ℕ) → n ≤ m → m < n + length ls → Orderly (charged_all table ls) m
table_orderly [] n store_none h table long clear typed m p q = absurd (omega arith)
table_orderly (l ∷ rest) n (store_more ok more) h table long clear typed m p q =
    rw (charged_row table n l rest ok.number) (go (ℕ_discrete n m)
    (λ r. table_orderly rest (suc n) more (omega arith) (row_of table n l) (length_row table n (omega arith) long l ok)
    (row_clear table n (omega arith) long l ok clear) (typed_rest l rest typed) m r (omega arith))
    (row_orderly table n l rest ok more (omega arith) long clear (typed_first l rest typed)))
  where
    go : Dec (n ≡ m) → (suc n ≤ m → Orderly (charged_all (row_of table n l) rest) m) → Orderly (charged_all (row_of table n l) rest) n
        → Orderly (charged_all (row_of table n l) rest) m
    go (yes e) later here = rw (← e) here
    go (no f) later here = later (omega (arith, f))
