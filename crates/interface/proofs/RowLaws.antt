-- A component's row, after its path was stored and its acts were charged, holds the component's entries: each cell is the
-- count of the acts that land in it, and the entry of a kind is read off the cells as the definition reads it off the acts.
use Prim.Native.Nat.{ℕ, zero, suc, ◌+◌, ◌-◌, ◌<◌, ◌≤◌}
use mathlib.Core.Path.{◌≡◌, refl, sym, ap, ap₂, ◌∙◌}
use mathlib.Core.List.{List, [], ◌∷◌, map}
use mathlib.Core.Bool.{Bool, true, false, cond, not, ◌&&◌, ◌||◌}
use mathlib.Core.Logic.{◌⊎◌, ⊎_elim}
use native.Mathlib.Omega.{arith}
use lib.ListN.{length, get_or}
use lib.Dec.{ltb, eqb, eqb-suc-zero}
use borrow.Author.Tests.{eq-eqb, ne_eqb}
use Rattle.needs.specs.declared.Need.{Need}
use Rattle.needs.specs.declared.Need.TheVariants.{Nothing, Read, Write, Access, Disclose}
use Rattle.inference.specs.Lists.{every, any, only, rising}
use Rattle.inference.specs.Counts.{Count, fin, unlimited, ◌⊕◌, repeatedly, count_number, is_zero}
use Rattle.inference.specs.Acts.{Act, Component}
use Rattle.inference.specs.Needs.{need_of, is_read, is_write, is_access, disclosures, weigh, total, disclosed}
use Rattle.inference.specs.Interface.{Disclosure, disclosures_of, entry_of, is_empty, holds_any}
use Rattle.inference.specs.Rows.{Orderly, cell, count_of, is_set, group_count, group_at, row_groups, rising_groups, disclosures_at, entry_at, path_at, purpose_at, used_kinds, row_entries}
use Rattle.inference.proofs.CountLaws.{join_comm}
use Rattle.reading.specs.Forms.{member}
use Rattle.interface.proofs.PathLaws.{Inside}
use Rattle.interface.proofs.GroupLaws.{group_low, group_rises, groups_few, place_in, place_column, place_is}
use Rattle.interface.proofs.CellLaws.{lands_in, lands, lands_off_column, lands_few, Few, few_weigh}

-- which needs land in which column
lands_on : (t column k : ℕ) → lands_in t column k column ≡ cond (eqb t k) 1 0
unfolding lands_in
lands_on t column k = rw (eq-eqb column column refl) (go (eqb t k))
  where
    go : (b : Bool) → ◌≡◌ {A = ℕ} (cond (b && true) 1 0) (cond b 1 0)
    go true = refl
    go false = refl

-- Columns of groups: 7 at most, or 11.
unfoldable pub Columns : (ℕ → ℕ) → Type 0
Columns at = (g : ℕ) → (at g < 8) ⊎ (at g ≡ 11)

off_column : (at : ℕ → ℕ) → Columns at → (t g k c : ℕ) → 8 ≤ c → c < 11 → lands_in t (at g) k c ≡ 0
unfolding Columns
off_column at cols t g k c p q = lands_off_column t (at g) k c (λ e. ⊎_elim (λ h. omega arith) (λ h. omega arith) (cols g))

module _ (at : ℕ → ℕ) (cols : Columns at) (k : ℕ) where
  lands_read : (n : Need) → lands at k 8 n ≡ cond (is_read k n) 1 0
  unfolding lands is_read
  lands_read Nothing = refl
  lands_read (Read t) = lands_on t 8 k
  lands_read (Write t) = lands_off_column t 9 k 8 (λ e. omega arith)
  lands_read (Access t) = lands_off_column t 10 k 8 (λ e. omega arith)
  lands_read (Disclose t g) = off_column at cols t g k 8 (omega arith) (omega arith)

  lands_write : (n : Need) → lands at k 9 n ≡ cond (is_write k n) 1 0
  unfolding lands is_write
  lands_write Nothing = refl
  lands_write (Read t) = lands_off_column t 8 k 9 (λ e. omega arith)
  lands_write (Write t) = lands_on t 9 k
  lands_write (Access t) = lands_off_column t 10 k 9 (λ e. omega arith)
  lands_write (Disclose t g) = off_column at cols t g k 9 (omega arith) (omega arith)

  lands_access : (n : Need) → lands at k 10 n ≡ cond (is_access k n) 1 0
  unfolding lands is_access
  lands_access Nothing = refl
  lands_access (Read t) = lands_off_column t 8 k 10 (λ e. omega arith)
  lands_access (Write t) = lands_off_column t 9 k 10 (λ e. omega arith)
  lands_access (Access t) = lands_on t 10 k
  lands_access (Disclose t g) = off_column at cols t g k 10 (omega arith) (omega arith)

  lands_disclose : (i h : ℕ) → i < 8 → ((g : ℕ) → eqb (at g) i ≡ eqb g h) → (n : Need) → lands at k i n ≡ disclosures k h n
  unfolding lands disclosures lands_in
  lands_disclose i h p same Nothing = refl
  lands_disclose i h p same (Read t) = unfold lands_in in lands_off_column t 8 k i (λ e. omega arith)
  lands_disclose i h p same (Write t) = unfold lands_in in lands_off_column t 9 k i (λ e. omega arith)
  lands_disclose i h p same (Access t) = unfold lands_in in lands_off_column t 10 k i (λ e. omega arith)
  lands_disclose i h p same (Disclose t g) = rw (same g)

total_cong : (v w : Act → ℕ) → ((a : Act) → v a ≡ w a) → (acts : List Act) → total v acts ≡ total w acts
unfolding total
total_cong v w e [] = refl
total_cong v w e (a ∷ rest) = ap₂ ◌⊕◌ (ap (weigh a.repeated) (e a)) (total_cong v w e rest)

set_join : (x y : Count) → is_set (count_number (x ⊕ y)) ≡ (is_set (count_number x) || is_set (count_number y))
unfolding is_set count_number ◌⊕◌
set_join (fin zero) (fin n) = let e : zero + n ≡ n = omega arith in ap (λ (v : ℕ). not (eqb v 0)) e
set_join (fin (suc m)) (fin n) = rw (ne_eqb (suc m + n) 0 (λ e. omega arith), ne_eqb (suc m) 0 (λ e. omega arith)) refl
set_join (fin zero) unlimited = refl
set_join (fin (suc m)) unlimited = rw (ne_eqb (suc m) 0 (λ e. omega arith)) refl
set_join unlimited (fin n) = refl
set_join unlimited unlimited = refl

set_weigh : (repeated b : Bool) → is_set (count_number (weigh repeated (cond b 1 0))) ≡ b
unfolding is_set count_number weigh repeatedly
set_weigh true true = refl
set_weigh true false = refl
set_weigh false true = refl
set_weigh false false = refl

-- acts of which some weigh 1 weigh something together
any_total : (p : Act → Bool) (w : Act → ℕ) → ((a : Act) → w a ≡ cond (p a) 1 0) → (acts : List Act)
    → is_set (count_number (total w acts)) ≡ any p acts
unfolding total any
any_total p w e [] = unfold is_set count_number in refl
any_total p w e (a ∷ rest) =
    set_join (weigh a.repeated (w a)) (total w rest)
    ∙ ap₂ ◌||◌ (ap (λ (n : ℕ). is_set (count_number (weigh a.repeated n))) (e a) ∙ set_weigh a.repeated (p a)) (any_total p w e rest)

total_few : (w : Act → ℕ) → ((a : Act) → (w a ≡ 0) ⊎ (w a ≡ 1)) → (acts : List Act) (more : ℕ) → length acts + more ≤ 65000
    → Few (total w acts) more
unfolding total
total_few w e [] more h = unfold Few in h
total_few w e (a ∷ rest) more h =
    let inner : Few (total w rest) (suc more) = total_few w e rest (suc more) (omega arith) in
    let outer : Few (total w rest ⊕ weigh a.repeated (w a)) more = few_weigh (total w rest) more (w a) a.repeated (e a) inner in
    rw (join_comm (weigh a.repeated (w a)) (total w rest)) outer

-- a count that is few is read back as it was stored
pub count_back : (x : Count) → Few x 0 → count_of (count_number x) ≡ x
unfolding count_of count_number Few
count_back (fin n) h = rw (ne_eqb n 65535 (λ e. omega arith)) refl
count_back unlimited h = refl

number_small : (x : Count) → Few x 0 → count_number x < 65536
unfolding count_number Few
number_small (fin n) h = omega arith
number_small unlimited h = omega arith

pub map_rising : {A : Type 0} (f g : ℕ → A) (start n : ℕ) → ((i : ℕ) → start ≤ i → i < start + n → f i ≡ g i)
    → map f (rising start n) ≡ map g (rising start n)
unfolding rising
map_rising f g start zero e = refl
map_rising f g start (suc n) e =
    ap₂ ◌∷◌ (e start (omega arith) (omega arith)) (map_rising f g (suc start) n (λ i p q. e i (omega arith) (omega arith)))

none_counted : not (is_zero (count_of 0)) ≡ false
unfolding is_zero count_of
none_counted = refl

no_count : not (is_zero (fin 0)) ≡ false
unfolding is_zero
no_count = refl

pub unset : (n : ℕ) → is_set n ≡ false → n ≡ 0
unfolding is_set
unset zero e = refl
unset (suc n) e = let f = rw (eqb-suc-zero n) at e in let z : ◌≡◌ {A = ℕ} 0 1 = cc in absurd (omega arith)

-- what is not wanted need not be chosen
only_chosen : {A : Type 0} (p : ℕ → Bool) (q : A → Bool) (f : ℕ → A) (start n : ℕ)
    → ((i : ℕ) → start ≤ i → i < start + n → p i ≡ false → q (f i) ≡ false)
    → only q (map f (only p (rising start n))) ≡ only q (map f (rising start n))
unfolding only rising
only_chosen p q f start zero off = refl
only_chosen p q f start (suc n) off =
    go (p start) refl (only_chosen p q f (suc start) n (λ i a b. off i (omega arith) (omega arith))) (off start (omega arith) (omega arith))
  where
    go : (b : Bool) → p start ≡ b → only q (map f (only p (rising (suc start) n))) ≡ only q (map f (rising (suc start) n))
        → (p start ≡ false → q (f start) ≡ false)
        → only q (map f (cond b (start ∷ only p (rising (suc start) n)) (only p (rising (suc start) n))))
        ≡ cond (q (f start)) (f start ∷ only q (map f (rising (suc start) n))) (only q (map f (rising (suc start) n)))
    go true e rest none = rw rest
    go false e rest none = rw (none e, rest)

-- a list's elements, place by place
map_places : {A : Type 0} (f : ℕ → A) (xs : List ℕ) (start : ℕ) → map (λ i. f (get_or xs (i - start) 0)) (rising start (length xs)) ≡ map f xs
unfolding rising
map_places f [] start = refl
map_places f (x ∷ xs) start =
    let z : start - start ≡ 0 = omega arith in
    ap₂ ◌∷◌ (rw z)
    (map_rising (λ i. f (get_or (x ∷ xs) (i - start) 0)) (λ i. f (get_or xs (i - suc start) 0)) (suc start) (length xs)
    (λ i p q. let e : i - start ≡ suc (i - suc start) = omega arith in rw e)
    ∙ map_places f xs (suc start))

map_same : (xs : List ℕ) → map (λ x. x) xs ≡ xs
map_same [] = refl
map_same (x ∷ xs) = ap (λ (l : List ℕ). x ∷ l) (map_same xs)

none_set : {A : Type 0} (q : A → Bool) (f : ℕ → A) (start n : ℕ) → ((i : ℕ) → start ≤ i → i < start + n → q (f i) ≡ false) → only q (map f (rising start n)) ≡ []
unfolding only rising
none_set q f start zero off = refl
none_set q f start (suc n) off = rw (off start (omega arith) (omega arith)) (none_set q f (suc start) n (λ i a b. off i (omega arith) (omega arith)))

-- A component's row holds its path's groups, rising, and its cells are the counts of its acts; a kind that is not marked has none.
pub record Counted (table : List ℕ) (n : ℕ) (path : List ℕ) (acts : List Act) : Type 0 where
  pub few : length acts ≤ 65000
  pub short : length path ≤ 8
  pub inside : Inside path acts
  pub number : group_count table n ≡ length (rising_groups path)
  pub groups : (i : ℕ) → i < length (rising_groups path) → group_at table n i ≡ get_or (rising_groups path) i 0
  pub cells : (k c : ℕ) → k < 16 → c < 11 → cell table n k c ≡ count_number (total (λ a. lands (λ g. place_in (rising_groups path) g 0) k c (need_of a)) acts)
  pub unmarked : (k c : ℕ) → k < 16 → c < 11 → cell table n k 11 ≡ 0 → cell table n k c ≡ 0

module _ (table : List ℕ) (n : ℕ) (path : List ℕ) (acts : List Act) (h : Counted table n path acts) where
  abbrev at : ℕ → ℕ
  at g = place_in (rising_groups path) g 0

  columns : Columns at
  unfolding Columns
  columns g = place_column (rising_groups path) g 0 (omega (arith, groups_few path, h.short))

  -- the groups in the row are those of the path
  groups_back : row_groups table n ≡ rising_groups path
  unfolding row_groups
  groups_back =
      ap (λ (m : ℕ). map (group_at table n) (rising 0 m)) h.number
      ∙ map_rising (group_at table n) (λ i. get_or (rising_groups path) (i - 0) 0) 0 (length (rising_groups path))
      (λ i p r. let z : i - 0 ≡ i = omega arith in rw z (h.groups i (omega arith)))
      ∙ map_places (λ g. g) (rising_groups path) 0
      ∙ map_same (rising_groups path)

  pub orderly : path_at table n ≡ path → every (λ g. ltb g 64) path ≡ true → purpose_at table n < 16 → Orderly table n
  orderly same small purpose = record {
    low = λ i p. rw (h.groups i (omega (arith, h.number))) (group_low path i (omega (arith, h.number)));
    rises = λ i j p q.
        rw (h.groups i (omega (arith, h.number)), h.groups j (omega (arith, h.number))) (group_rises path i j p (omega (arith, h.number)));
    groups = groups_back ∙ ap rising_groups (sym same);
    path_low = ap (every (λ g. ltb g 64)) same ∙ small;
    purpose_low = purpose;
    counts = λ k i p q. rw (h.cells k i p (omega arith))
        (number_small (total (λ a. lands at k i (need_of a)) acts)
        (total_few (λ a. lands at k i (need_of a)) (λ a. lands_few at k i (need_of a)) acts 0 (omega (arith, h.few))));
    unmarked = λ k i p q e. h.unmarked k i p (omega arith) e;
  }

  flag_cell : (k c : ℕ) → k < 16 → c < 11 → (p : Need → Bool) → ((a : Act) → lands at k c (need_of a) ≡ cond (p (need_of a)) 1 0)
      → is_set (cell table n k c) ≡ any (λ a. p (need_of a)) acts
  flag_cell k c q r p e =
      ap is_set (h.cells k c q r) ∙ any_total (λ a. p (need_of a)) (λ a. lands at k c (need_of a)) e acts

  disclosure_cell : (k i : ℕ) → k < 16 → i < length (rising_groups path) → count_of (cell table n k i) ≡ disclosed k (get_or (rising_groups path) i 0) acts
  unfolding disclosed
  disclosure_cell k i q r =
      ap count_of (h.cells k i q (omega (arith, groups_few path, h.short)))
      ∙ count_back (total (λ a. lands at k i (need_of a)) acts)
      (total_few (λ a. lands at k i (need_of a)) (λ a. lands_few at k i (need_of a)) acts 0 (omega (arith, h.few)))
      ∙ total_cong (λ a. lands at k i (need_of a)) (λ a. disclosures k (get_or (rising_groups path) i 0) (need_of a))
      (λ a. lands_disclose at columns k i (get_or (rising_groups path) i 0) (omega (arith, groups_few path, h.short)) (λ g. place_is path g i h.short r) (need_of a)) acts

  abbrev wanted : Disclosure → Bool
  wanted d = not (is_zero d.count)

  abbrev into : ℕ → ℕ → Disclosure
  into k g = record { group = g; count = disclosed k g acts }

  nothing : (k g : ℕ) → member g path ≡ false → disclosed k g acts ≡ fin 0
  nothing = unfold Inside in h.inside

  -- place by place, group by group of the path, and group by group
  disclosures_cells : (k : ℕ) → k < 16 → disclosures_at table n k ≡ disclosures_of k acts
  unfolding disclosures_at disclosures_of
  disclosures_cells k q =
      ap (λ (m : ℕ). only wanted (map (λ i. record { group = group_at table n i; count = count_of (cell table n k i) }) (rising 0 m))) h.number
      ∙ ap (only wanted)
      (map_rising (λ i. record { group = group_at table n i; count = count_of (cell table n k i) }) (λ i. into k (get_or (rising_groups path) (i - 0) 0)) 0
      (length (rising_groups path))
      (λ i p r. let z : i - 0 ≡ i = omega arith in rw z (λ j. record { group = h.groups i (omega arith) j; count = disclosure_cell k i q (omega arith) j }))
      ∙ map_places (into k) (rising_groups path) 0)
      ∙ unfold rising_groups in only_chosen (λ g. member g path) wanted (into k) 0 64 (λ g p r e. rw (nothing k g e) no_count)

  entry_cells : (k : ℕ) → k < 16 → (c : Component) → c.number ≡ n → c.path ≡ path_at table n → c.purpose ≡ purpose_at table n
      → entry_at table n k ≡ entry_of c acts k
  unfolding entry_at entry_of
  entry_cells k q c e f g = λ i. record {
    component = record { number = sym e i; path = sym f i; purpose = sym g i };
    kind = k;
    read = flag_cell k 8 q (omega arith) (is_read k) (λ a. lands_read at columns k (need_of a)) i;
    write = flag_cell k 9 q (omega arith) (is_write k) (λ a. lands_write at columns k (need_of a)) i;
    access = flag_cell k 10 q (omega arith) (is_access k) (λ a. lands_access at columns k (need_of a)) i;
    disclose = disclosures_cells k q i;
  }

  -- a kind that is not marked has no entry
  unmarked_none : (k : ℕ) → k < 16 → is_set (cell table n k 11) ≡ false → holds_any (entry_at table n k) ≡ false
  unfolding holds_any entry_at disclosures_at is_set is_empty
  unmarked_none k q e =
      let z = unset (cell table n k 11) e in
      rw (
        h.unmarked k 8 q (omega arith) z,
        h.unmarked k 9 q (omega arith) z,
        h.unmarked k 10 q (omega arith) z,
        none_set wanted (λ i. record { group = group_at table n i; count = count_of (cell table n k i) }) 0 (group_count table n)
            (λ i p r. rw (h.unmarked k i q (omega (arith, h.number, groups_few path, h.short)) z) none_counted),
      )

  -- a row whose cells are the counts of acts holds their entries
  pub row_entries_lem : (c : Component) → c.number ≡ n → c.path ≡ path_at table n → c.purpose ≡ purpose_at table n
      → row_entries table n ≡ only holds_any (map (entry_of c acts) (rising 0 16))
  unfolding row_entries used_kinds
  row_entries_lem c e f g =
      only_chosen (λ k. is_set (cell table n k 11)) holds_any (entry_at table n) 0 16 (λ k p q u. unmarked_none k (omega arith) u)
      ∙ ap (only holds_any) (map_rising (entry_at table n) (entry_of c acts) 0 16 (λ k p q. entry_cells k (omega arith) c e f g))
