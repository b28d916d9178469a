-- The definitions of an interface's entries and bytes as parts that a loop takes one by one, and how long they are.
use Prim.Native.Nat.{ℕ, zero, suc, ◌+◌, ◌-◌, ◌*◌, ◌≤◌, min}
use mathlib.Core.Bool.{Bool, true, false, cond, not, ◌||◌}
use mathlib.Core.List.{List, [], ◌∷◌, ◌++◌, map, append_assoc}
use mathlib.Core.Path.{◌≡◌, refl, sym, ap, ◌∙◌}
use native.Mathlib.Nat.{mul-suc}
use native.Mathlib.Omega.{arith}
use borrow.Author.Tests.{eqb-true}
use lib.Dec.{eqb, eqb-suc-zero}
use lib.ListN.{length, take, drop, get_or, length-append, length-take}
use lib.Seq.{drop-cons}
use Rattle.inference.specs.Lists.{only, gather, rising}
use Rattle.inference.specs.Counts.{fin, unlimited, is_zero, count_number}
use Rattle.inference.specs.Interface.{Disclosure, Entry, is_empty, holds_any, bit, map_of, disclosure_bytes, head_then, list_bytes, entry_bytes, interface_bytes}
use Rattle.inference.specs.Rows.{path_at, cell, count_of, is_set, group_count, group_at, disclosures_at, entry_at, used_kinds, row_entries, table_entries}
use Rattle.inference.proofs.GatherLaws.{gather_append}
use Rattle.interface.specs.Writes.{group_bytes, entry_bytes_at}
use Rattle.interface.proofs.WriteLaws.{parts_from}

-- Parts gathered of parts.
module _ {A B : Type 0} (h : A → List B) where
  pub gather_gather : {K : Type 0} (f : K → List A) (ks : List K) → gather h (gather f ks) ≡ gather (λ k. gather h (f k)) ks
  unfolding gather
  gather_gather f [] = refl
  gather_gather f (k ∷ ks) = gather_append h (f k) (gather f ks) ∙ ap (λ (l : List B). gather h (f k) ++ l) (gather_gather f ks)

  pub gather_few : (b : ℕ) → ((x : A) → length (h x) ≤ b) → (xs : List A) → length (gather h xs) ≤ b * length xs
  unfolding gather
  gather_few b k [] = omega arith
  gather_few b k (x ∷ xs) =
      rw (mul-suc, length-append) (let q : length (gather h xs) ≤ b * length xs = gather_few b k xs in omega (arith, k x))

  pub gather_only : {K : Type 0} (p : A → Bool) (f : K → A) (ks : List K) → gather h (only p (map f ks)) ≡ gather (λ k. cond (p (f k)) (h (f k)) []) ks
  unfolding gather only
  gather_only p f [] = refl
  gather_only p f (k ∷ ks) = go (p (f k)) (only p (map f ks)) (gather_only p f ks)
    where
      go : (b : Bool) (l : List A) {m : List B} → gather h l ≡ m → gather h (cond b (f k ∷ l) l) ≡ cond b (h (f k)) [] ++ m
      go true l e = ap (λ (z : List B). h (f k) ++ z) e
      go false l e = e

pub gather_chosen : {A B : Type 0} (p : A → Bool) (f : A → List B) (xs : List A) → gather f (only p xs) ≡ gather (λ x. cond (p x) (f x) []) xs
unfolding gather only
gather_chosen p f [] = refl
gather_chosen p f (x ∷ xs) = go (p x) (only p xs) (gather_chosen p f xs)
  where
    go : (b : Bool) (l : List _) {m : List _} → gather f l ≡ m → gather f (cond b (x ∷ l) l) ≡ cond b (f x) [] ++ m
    go true l e = ap (λ (z : List _). f x ++ z) e
    go false l e = e

gather_one : {A : Type 0} (xs : List A) → gather (λ x. x ∷ []) xs ≡ xs
unfolding gather
gather_one [] = refl
gather_one (x ∷ xs) = ap (λ (l : List _). x ∷ l) (gather_one xs)

pub rising_length : (n i : ℕ) → length (rising i n) ≡ n
unfolding rising
rising_length zero i = refl
rising_length (suc n) i = ap suc (rising_length n (suc i))

pub chosen_few : {A : Type 0} (q : A → Bool) (f : ℕ → A) (start n : ℕ) → length (only q (map f (rising start n))) ≤ n
unfolding only rising
chosen_few q f start zero = omega arith
chosen_few {A} q f start (suc n) = go (q (f start)) (only q (map f (rising (suc start) n))) (chosen_few q f (suc start) n)
  where
    go : (b : Bool) (l : List A) → length l ≤ n → length (cond b (f start ∷ l) l) ≤ suc n
    go true l h = omega arith
    go false l h = omega arith

pub parts_few : {A : Type 0} (f : ℕ → List A) (b n : ℕ) → ((j : ℕ) → length (f j) ≤ b) → length (parts_from f n 0) ≤ b * n
unfolding parts_from
parts_few f b n k =
    let e : length (rising 0 (n - 0)) ≡ n = rising_length (n - 0) 0 ∙ omega arith in rw e at (gather_few f b k (rising 0 (n - 0)))

pub cond_few : {A : Type 0} (b : Bool) (xs : List A) (n : ℕ) → length xs ≤ n → length (cond b xs []) ≤ n
cond_few true xs n h = h
cond_few false xs n h = omega arith

-- A list's elements one by one.
abbrev pub one_at : List ℕ → ℕ → List ℕ
one_at l i = get_or l i 0 ∷ []

ones_from : (l : List ℕ) (n i : ℕ) → i + n ≤ length l → gather (one_at l) (rising i n) ≡ take n (drop i l)
unfolding gather rising
ones_from l zero i h = refl
ones_from l (suc n) i h = rw (drop-cons l i 0 (omega arith)) (ap (λ (m : List ℕ). get_or l i 0 ∷ m) (ones_from l n (suc i) (omega arith)))

pub ones_are : (l : List ℕ) (n : ℕ) → n ≤ length l → parts_from (one_at l) n 0 ≡ take n l
unfolding parts_from
ones_are l n h = let z : n - 0 ≡ n = omega arith in rw z (ones_from l n 0 (omega arith))

-- Counts in cells.
pub set_count : (n : ℕ) → not (is_zero (count_of n)) ≡ is_set n
unfolding count_of is_set is_zero
set_count zero = refl
set_count (suc n) = rw (eqb-suc-zero n) (go (eqb (suc n) 65535))
  where
    go : (b : Bool) → not (is_zero (cond b unlimited (fin (suc n)))) ≡ true
    go true = refl
    go false = refl

pub count_number_lem : (n : ℕ) → count_number (count_of n) ≡ n
unfolding count_of count_number
count_number_lem n = go (eqb n 65535) refl
  where
    go : (b : Bool) → eqb n 65535 ≡ b → count_number (cond b unlimited (fin n)) ≡ n
    go true e = sym (eqb-true n 65535 e)
    go false e = refl

-- What a component discloses to the group at a place.
module _ (table : List ℕ) (component kind : ℕ) where
  unfoldable pub disclosed_to : ℕ → List Disclosure
  disclosed_to i = cond (is_set (cell table component kind i)) (record { group = group_at table component i; count = count_of (cell table component kind i) } ∷ []) []

  unfoldable pub group_bytes_at : ℕ → List ℕ
  group_bytes_at i = group_bytes (group_at table component i) (cell table component kind i)

  pub disclosed_few : (i : ℕ) → length (disclosed_to i) ≤ 1
  unfolding disclosed_to
  disclosed_few i =
      cond_few (is_set (cell table component kind i)) (record { group = group_at table component i; count = count_of (cell table component kind i) } ∷ []) 1 (omega arith)

  pub group_few : (i : ℕ) → length (group_bytes_at i) ≤ 3
  unfolding group_bytes_at group_bytes disclosure_bytes
  group_few i = cond_few (is_set (cell table component kind i)) _ 3 (omega arith)

  disclosed_parts : {B : Type 0} (h : Disclosure → List B) → gather h (disclosures_at table component kind)
      ≡ parts_from (λ i. cond (is_set (cell table component kind i)) (h (record { group = group_at table component i; count = count_of (cell table component kind i) })) [])
      (group_count table component) 0
  unfolding disclosures_at parts_from
  disclosed_parts h =
      let z : group_count table component - 0 ≡ group_count table component = omega arith in
      rw z (simp set_count at
      (gather_only h (λ d. not (is_zero d.count)) (λ i. record { group = group_at table component i; count = count_of (cell table component kind i) })
      (rising 0 (group_count table component))))

  pub disclosures_are : disclosures_at table component kind ≡ parts_from disclosed_to (group_count table component) 0
  unfolding disclosed_to
  disclosures_are = sym (gather_one (disclosures_at table component kind)) ∙ disclosed_parts (λ d. d ∷ [])

  pub group_bytes_are : gather disclosure_bytes (disclosures_at table component kind) ≡ parts_from group_bytes_at (group_count table component) 0
  unfolding group_bytes_at group_bytes
  group_bytes_are = disclosed_parts disclosure_bytes

  pub disclosures_few : length (disclosures_at table component kind) ≤ 8
  unfolding group_count
  disclosures_few = rw disclosures_are (omega (arith, parts_few disclosed_to 1 (min (get_or table (component * 211 + 9) 0) 8) disclosed_few))

-- A disclose list is as long as its groups make it.
pub list_bytes_lem : (ds : List Disclosure) → (length ds ≡ 0 → ⊥) → list_bytes ds ≡ length ds ∷ gather disclosure_bytes ds
unfolding list_bytes
list_bytes_lem [] h = absurd (h refl)
list_bytes_lem (d ∷ ds) h = refl

pub no_list : (ds : List Disclosure) → length ds ≡ 0 → list_bytes ds ≡ []
unfolding list_bytes
no_list [] h = refl
no_list (d ∷ ds) h = absurd (omega arith)

three_each : (ds : List Disclosure) → length (gather disclosure_bytes ds) ≡ 3 * length ds
unfolding gather disclosure_bytes
three_each [] = refl
three_each (d ∷ ds) = omega (arith, three_each ds)

pub list_length : (ds : List Disclosure) → (length ds ≡ 0 → ⊥) → length (list_bytes ds) ≡ 1 + 3 * length ds
list_length ds h = rw (list_bytes_lem ds h) (omega (arith, three_each ds))

pub list_most : (ds : List Disclosure) → length (list_bytes ds) ≤ 1 + 3 * length ds
unfolding list_bytes
list_most [] = omega arith
list_most (d ∷ ds) = omega (arith, three_each (d ∷ ds))

list_few : (ds : List Disclosure) → length ds ≤ 8 → length (list_bytes ds) ≤ 25
list_few ds h = omega (arith, list_most ds)

-- Entries: their map is 0 where they hold no permission.
none_held : (a b c d : Bool) → bit a 1 + (bit b 2 + (bit c 4 + bit d 16)) ≡ 0 → ((a || b) || (c || d)) ≡ false
unfolding bit
none_held true b c d h = absurd (omega arith)
none_held false true c d h = absurd (omega arith)
none_held false false true d h = absurd (omega arith)
none_held false false false true h = absurd (omega arith)
none_held false false false false h = refl

some_held : (a b c d : Bool) → (bit a 1 + (bit b 2 + (bit c 4 + bit d 16)) ≡ 0 → ⊥) → ((a || b) || (c || d)) ≡ true
unfolding bit
some_held true b c d h = refl
some_held false true c d h = refl
some_held false false true d h = refl
some_held false false false true h = refl
some_held false false false false h = absurd (h refl)

pub map_none : (e : Entry) → map_of e ≡ 0 → holds_any e ≡ false
unfolding map_of holds_any
map_none e h = none_held e.read e.write e.access (not (is_empty e.disclose)) h

pub map_some : (e : Entry) → (map_of e ≡ 0 → ⊥) → holds_any e ≡ true
unfolding map_of holds_any
map_some e h = some_held e.read e.write e.access (not (is_empty e.disclose)) h

pub path_few : (table : List ℕ) (component : ℕ) → length (path_at table component) ≤ 8
unfolding path_at
path_few table component =
    omega (
      arith,
      length-take (get_or table (component * 211) 0) (take 8 (drop (component * 211 + 1) table)),
      length-take 8 (drop (component * 211 + 1) table),
    )

-- An entry up to its map, and what follows.
pub head_then_lem : (e : Entry) (rest : List ℕ) → head_then e [] ++ rest ≡ head_then e rest
head_then_lem e rest = ap (λ (l : List ℕ). e.kind ∷ length e.component.path ∷ l) (append_assoc e.component.path (e.component.purpose ∷ map_of e ∷ []) rest)

pub head_length : (e : Entry) (rest : List ℕ) → length (head_then e rest) ≡ 4 + (length e.component.path + length rest)
head_length e rest = omega (arith, length-append e.component.path (e.component.purpose ∷ map_of e ∷ rest))

pub entry_length : (e : Entry) → length (entry_bytes e) ≡ 4 + (length e.component.path + length (list_bytes e.disclose))
unfolding entry_bytes
entry_length e = head_length e (list_bytes e.disclose)

module _ (table : List ℕ) (component : ℕ) where
  pub entry_few : (kind : ℕ) → length (entry_bytes_at table component kind) ≤ 37
  unfolding entry_bytes_at entry_at
  entry_few kind =
      cond_few (is_set (cell table component kind 11)) (cond (holds_any (entry_at table component kind)) (entry_bytes (entry_at table component kind)) []) 37
      (cond_few (holds_any (entry_at table component kind)) (entry_bytes (entry_at table component kind)) 37 few)
    where
      few : length (entry_bytes (entry_at table component kind)) ≤ 37
      few = omega (
        arith,
        entry_length (entry_at table component kind),
        path_few table component,
        list_few (disclosures_at table component kind) (disclosures_few table component kind),
      )

  -- What a component's entries make together, kind by kind.
  pub row_parts : {A : Type 0} (f : Entry → List A) → gather f (row_entries table component)
      ≡ parts_from (λ k. cond (is_set (cell table component k 11)) (cond (holds_any (entry_at table component k)) (f (entry_at table component k)) []) []) 16 0
  unfolding row_entries parts_from
  row_parts f =
      gather_only f holds_any (entry_at table component) (used_kinds table component)
      ∙ unfold used_kinds in gather_chosen (λ k. is_set (cell table component k 11))
      (λ k. cond (holds_any (entry_at table component k)) (f (entry_at table component k)) []) (rising 0 16)

  pub row_bytes_are : interface_bytes (row_entries table component) ≡ parts_from (entry_bytes_at table component) 16 0
  unfolding interface_bytes entry_bytes_at
  row_bytes_are = row_parts entry_bytes

  pub row_few : length (interface_bytes (row_entries table component)) ≤ 592
  row_few = rw row_bytes_are (parts_few (entry_bytes_at table component) 37 16 entry_few)

-- The interface, component by component.
abbrev pub row_bytes_at : List ℕ → ℕ → List ℕ
row_bytes_at table component = interface_bytes (row_entries table component)

pub table_parts : {A : Type 0} (f : Entry → List A) (table : List ℕ) (n : ℕ)
    → gather f (table_entries table n) ≡ parts_from (λ component. gather f (row_entries table component)) n 0
unfolding table_entries parts_from
table_parts f table n = let z : n - 0 ≡ n = omega arith in rw z (gather_gather f (row_entries table) (rising 0 n))

pub table_bytes_are : (table : List ℕ) (n : ℕ) → interface_bytes (table_entries table n) ≡ parts_from (row_bytes_at table) n 0
unfolding interface_bytes
table_bytes_are table n = table_parts entry_bytes table n
