-- The sums are what classes need: in clear memory, a component's sum for a kind and a group is what the components that share with it
-- need together, by the entries that the table holds.
use Prim.Native.Nat.{ℕ, zero, suc, ◌+◌, ◌*◌, ◌%◌, ◌<◌, ◌≤◌}
use mathlib.Core.Path.{◌≡◌, refl, sym, ap, ap₂, ◌∙◌}
use mathlib.Core.List.{List, [], map}
use mathlib.Core.Bool.{Bool, true, false, cond, ◌&&◌, ◌||◌}
use native.Mathlib.Omega.{arith}
use native.Mathlib.Decide.{ℕ_discrete}
use native.Mathlib.Nat.{mod-eq_of_lt}
use lib.Dec.{ltb, eqb}
use lib.ListN.{length, length-map, get_or}
use borrow.Author.Tests.{lt-ltb, ltb-true, ltb-false, eqb-true, eqb-false, eq-eqb, ne_eqb}
use Rattle.inference.specs.Classes.{shares}
use Rattle.inference.specs.Counts.{Count, fin, ◌⊕◌}
use Rattle.inference.specs.Interface.{count_in, needed_by, needed}
use Rattle.inference.specs.Lists.{gather, rising}
use Rattle.inference.specs.Rows.{Orderly, cell, is_set, count_of, group_count, group_at, row_groups, entry_at, used_kinds, row_entries, table_entries, table_required}
use Rattle.inference.proofs.ClassLaws.{needed_append}
use Rattle.inference.proofs.CountLaws.{join_assoc, join_nothing, nothing_join, join_unlimited, unlimited_join}
use Rattle.inference.proofs.KindLaws.{kinds_needed}
use Rattle.inference.proofs.RequiredLaws.{listed_cells}
use Rattle.interface.proofs.CellLaws.{count_few}
use Rattle.interface.proofs.InterfaceLaws.{rising_length}
use Rattle.interface.proofs.RowLaws.{unset}
use Rattle.sharing.specs.Sums.{row_key, class_of, added, sum_cell, add_row, add_rows, any_shared, sum_at, needed_at, sum_count, Summed}
use Rattle.sharing.proofs.KeyLaws.{component_of, key_groups, shares_key}
use Rattle.sharing.proofs.ClassSums.{class_high, same_class, same_key, length_row, row_noted, row_kept, row_off, row_on}

-- A sum of at most so many counts.
pub record Small (n sum : ℕ) : Type 0 where
  pub low : sum < 4000000 → sum ≤ n * 65535
  pub top : sum < 4100000

pub record Joined (n sum count : ℕ) : Type 0 where
  pub same : sum_count (added sum count) ≡ sum_count sum ⊕ count_of count
  pub small : Small (suc n) (added sum count)

-- A count joined to such a sum.
pub join_small : (n sum count : ℕ) → n < 32 → count < 65536 → Small n sum → Joined n sum count
unfolding added sum_count count_of ◌⊕◌
join_small n sum count few c s = go (ltb count 65535) refl (ltb sum 4000000) refl
  where
    go : (a : Bool) → ltb count 65535 ≡ a → (b : Bool) → ltb sum 4000000 ≡ b → Joined n sum count
    go true p true q =
        let l : count < 65535 = ltb-true count 65535 p in
        let m : sum < 4000000 = ltb-true sum 4000000 q in
        let t : sum + count < 4000000 = omega (arith, s.low m) in
        record {
          same = rw (p, q, lt-ltb (sum + count) 4000000 t, ne_eqb count 65535 (λ e. omega arith)) refl;
          small = rw (p, q) (record { low = λ h. omega (arith, s.low m); top = omega arith });
        }
    go true p false q =
        let l : count < 65535 = ltb-true count 65535 p in
        let m : 4000000 ≤ sum = ltb-false sum 4000000 q in
        record {
          same = rw (p, q, ne_eqb count 65535 (λ e. omega arith)) (rw q (sym (unlimited_join (fin count))));
          small = rw (p, q) (record { low = λ h. absurd (omega arith); top = s.top });
        }
    go false p b q =
        let e : count ≡ 65535 = omega (arith, ltb-false count 65535 p) in
        record {
          same = rw (p, eq-eqb count 65535 e) (sym (join_unlimited (sum_count sum)));
          small = rw p (record { low = λ h. absurd (omega arith); top = omega arith });
        }

-- Rows with one key have the same groups at the same places.
rising_at : (f : ℕ → ℕ) (start n i : ℕ) → i < n → get_or (map f (rising start n)) i 0 ≡ f (start + i)
unfolding rising
rising_at f start zero i h = absurd (omega arith)
rising_at f start (suc n) zero h = let z : start + 0 ≡ start = omega arith in rw z
rising_at f start (suc n) (suc i) h = let z : start + suc i ≡ suc start + i = omega arith in rw z (rising_at f (suc start) n i (omega arith))

module _ (table : List ℕ) (m n : ℕ) (same : row_groups table m ≡ row_groups table n) where
  count_of_lem : (k : ℕ) → length (row_groups table k) ≡ group_count table k
  unfolding row_groups
  count_of_lem k = length-map (rising 0 (group_count table k)) (group_at table k) ∙ rising_length (group_count table k) 0

  same_number : group_count table m ≡ group_count table n
  same_number = sym (count_of_lem m) ∙ ap length same ∙ count_of_lem n

  group_of : (k i : ℕ) → i < group_count table k → get_or (row_groups table k) i 0 ≡ group_at table k i
  unfolding row_groups
  group_of k i h = rising_at (group_at table k) 0 (group_count table k) i h ∙ ap (group_at table k) (omega arith)

  same_group : (i : ℕ) → i < group_count table m → group_at table m i ≡ group_at table n i
  same_group i h = sym (group_of m i h) ∙ ap (λ (l : List ℕ). get_or l i 0) same ∙ group_of n i (omega (arith, same_number))

-- What a row adds to the sum of a component's class, for a kind and a group.
adds : List ℕ → ℕ → ℕ → ℕ → ℕ → Count
adds table own k p n = cond (eqb (row_key table own) (row_key table n) && is_set (cell table n k 11)) (count_of (cell table n k p)) (fin 0)

row_adds : (table : List ℕ) (components : ℕ) → ((m : ℕ) → m < components → Orderly table m) → (own : ℕ) → own < components → (k p : ℕ) → k < 16 → p < group_count table own
    → (n : ℕ) → n < components → needed_by (shares (component_of table own)) k (group_at table own p) (row_entries table n) ≡ adds table own k p n
unfolding row_entries used_kinds adds
row_adds table components up own there k p kind place n h =
    kinds_needed (shares (component_of table own)) k (group_at table own p) (entry_at table n) (component_of table n) (λ q. unfold entry_at in refl) (λ q. unfold entry_at in refl)
    (λ q. is_set (cell table n q 11)) kind
    ∙ ap (λ (b : Bool). cond (b && is_set (cell table n k 11)) (count_in (group_at table own p) (entry_at table n k).disclose) (fin 0)) (shares_key table own n (up own there) (up n h))
    ∙ go (eqb (row_key table own) (row_key table n)) refl
  where
    go : (b : Bool) → eqb (row_key table own) (row_key table n) ≡ b
        → cond (b && is_set (cell table n k 11)) (count_in (group_at table own p) (entry_at table n k).disclose) (fin 0)
        ≡ cond (b && is_set (cell table n k 11)) (count_of (cell table n k p)) (fin 0)
    go true e =
        let same : row_groups table own ≡ row_groups table n = key_groups table own n (up own there) (up n h) (eqb-true (row_key table own) (row_key table n) e) in
        let g : group_at table own p ≡ group_at table n p = same_group table own n same p place in
        let l : p < group_count table n = omega (arith, same_number table own n same) in
        ap (λ (x : Count). cond (is_set (cell table n k 11)) x (fin 0)) (ap (λ (j : ℕ). count_in j (entry_at table n k).disclose) g ∙ listed_cells table n k p l (up n h))
    go false e = refl

-- The sum, row after row.
module _ (table : List ℕ) (components rows : ℕ) (room : components ≤ rows) (few : rows ≤ 32) (up : (m : ℕ) → m < components → Orderly table m)
    (own : ℕ) (there : own < components) (k p : ℕ) (kind : k < 16) (place : p < group_count table own) where
  abbrev at : ℕ
  at = sum_cell (class_of table own) k p

  eight : p < 8
  eight = omega (arith, count_few table own)

  record After (n : ℕ) (sums : List ℕ) : Type 0 where
    same : sum_count (get_or (add_row sums (class_of table n) table n) at 0) ≡ sum_count (get_or sums at 0) ⊕ adds table own k p n
    small : Small (suc n) (get_or (add_row sums (class_of table n) table n) at 0)

  one_row : (n : ℕ) (sums : List ℕ) → n < components → length sums ≡ rows * 129 → Small n (get_or sums at 0) → After n sums
  one_row n sums h long s = go (eqb (row_key table own) (row_key table n)) refl
    where
      next : List ℕ
      next = add_row sums (class_of table n) table n

      wider : Small (suc n) (get_or sums at 0)
      wider = record { low = λ l. omega (arith, s.low l); top = s.top }

      inside : sum_cell (class_of table own) k p < length sums
      inside = unfold sum_cell in omega (arith, class_high table own, long, eight)

      unchanged : get_or next at 0 ≡ get_or sums at 0 → adds table own k p n ≡ fin 0 → After n sums
      unchanged e z = record { same = rw (e, z) (sym (join_nothing (sum_count (get_or sums at 0)))); small = rw e wider }

      changed : (b : Bool) → is_set (cell table n k 11) ≡ b
          → get_or next at 0 ≡ cond (is_set (cell table n k 11)) (added (get_or sums at 0) (cell table n k p) % 4294967296) (get_or sums at 0)
          → eqb (row_key table own) (row_key table n) ≡ true → After n sums
      changed true u e q =
          let j : Joined n (get_or sums at 0) (cell table n k p) = join_small n (get_or sums at 0) (cell table n k p) (omega arith) ((up n h).counts k p kind eight) s in
          let f : get_or next at 0 ≡ added (get_or sums at 0) (cell table n k p) = (rw u at e) ∙ mod-eq_of_lt (omega (arith, j.small.top)) in
          let z : adds table own k p n ≡ count_of (cell table n k p) = unfold adds in rw (q, u) in
          record { same = rw (f, z) j.same; small = rw f j.small }
      changed false u e q = unchanged (rw u at e) (unfold adds in rw (q, u))

      go : (b : Bool) → eqb (row_key table own) (row_key table n) ≡ b → After n sums
      go true q =
          let key : row_key table own ≡ row_key table n = eqb-true (row_key table own) (row_key table n) q in
          let class : class_of table own ≡ class_of table n = same_class table own n key in
          let same : row_groups table own ≡ row_groups table n = key_groups table own n (up own there) (up n h) key in
          let l : p < group_count table n = omega (arith, same_number table own n same) in
          let r : sum_cell (class_of table n) k p < length sums = rw (← class) inside in
          changed (is_set (cell table n k 11)) refl (rw class (row_on (class_of table n) table n sums k p kind l r)) q
      go false q =
          unchanged (row_off (class_of table n) table n sums (class_of table own) k p kind eight (λ e. eqb-false (row_key table own) (row_key table n) q (same_key table own n e)))
          (unfold adds in rw q)

  all_rows_lem : (left n : ℕ) (sums : List ℕ) → n + left ≤ components → length sums ≡ rows * 129 → Small n (get_or sums at 0)
      → sum_count (get_or (add_rows sums table n left) at 0)
      ≡ sum_count (get_or sums at 0) ⊕ needed_by (shares (component_of table own)) k (group_at table own p) (gather (row_entries table) (rising n left))
  unfolding add_rows gather rising needed_by
  all_rows_lem zero n sums h long s = sym (join_nothing (sum_count (get_or sums at 0)))
  all_rows_lem (suc left) n sums h long s =
      let a : After n sums = one_row n sums (omega arith) long s in
      all_rows_lem left (suc n) (add_row sums (class_of table n) table n) (omega arith) (length_row (class_of table n) table n sums ∙ long) a.small
      ∙ ap (λ (x : Count). x ⊕ later) a.same
      ∙ join_assoc (sum_count (get_or sums at 0)) (adds table own k p n) later
      ∙ ap (λ (x : Count). sum_count (get_or sums at 0) ⊕ x)
      (ap (λ (x : Count). x ⊕ later) (sym (row_adds table components up own there k p kind place n (omega arith)))
      ∙ sym (needed_append (shares (component_of table own)) k (group_at table own p) (row_entries table n) (gather (row_entries table) (rising (suc n) left))))
    where
      later : Count
      later = needed_by (shares (component_of table own)) k (group_at table own p) (gather (row_entries table) (rising (suc n) left))

-- The class of a component is noted.
module _ (table : List ℕ) (rows : ℕ) (few : rows ≤ 32) where
  noted_kept : (m left n : ℕ) (sums : List ℕ) → m < n → get_or (add_rows sums table n left) (m * 129) 0 ≡ get_or sums (m * 129) 0
  unfolding add_rows
  noted_kept m zero n sums h = refl
  noted_kept m (suc left) n sums h =
      noted_kept m left (suc n) (add_row sums (class_of table n) table n) (omega arith) ∙ row_kept (class_of table n) table n sums m (λ e. omega arith)

  noted : (m left n : ℕ) (sums : List ℕ) → n ≤ m → m < n + left → n + left ≤ rows → length sums ≡ rows * 129
      → get_or (add_rows sums table n left) (m * 129) 0 ≡ class_of table m
  unfolding add_rows
  noted m zero n sums l h r long = absurd (omega arith)
  noted m (suc left) n sums l h r long = go (ℕ_discrete n m) (λ j. noted m left (suc n) next j (omega arith) (omega arith) (length_row (class_of table n) table n sums ∙ long))
    where
      next : List ℕ
      next = add_row sums (class_of table n) table n

      go : Dec (n ≡ m) → (suc n ≤ m → get_or (add_rows next table (suc n) left) (m * 129) 0 ≡ class_of table m) → get_or (add_rows next table (suc n) left) (m * 129) 0 ≡ class_of table m
      go (yes e) rest =
          noted_kept m left (suc n) next (omega arith)
          ∙ rw (← e) (row_noted (class_of table n) table n sums (omega (arith, class_high table n)) (omega (arith, long)))
      go (no f) rest = rest (omega (arith, f))

-- The table of sums keeps its length.
length_rows : (sums table : List ℕ) (n left : ℕ) → length (add_rows sums table n left) ≡ length sums
unfolding add_rows
length_rows sums table n zero = refl
length_rows sums table n (suc left) = length_rows (add_row sums (class_of table n) table n) table (suc n) left ∙ length_row (class_of table n) table n sums

-- The sums of a table of components whose rows are in order, made in clear memory.
pub class_sums : (table sums : List ℕ) (components rows : ℕ) → components ≤ rows → rows ≤ 32 → length sums ≡ rows * 129 → ((i : ℕ) → get_or sums i 0 ≡ 0)
    → ((m : ℕ) → m < components → Orderly table m)
    → (n kind : ℕ) → n < components → kind < 16 → Summed table (add_rows sums table 0 components) (table_required table components) n kind
unfolding sum_count
class_sums table sums components rows room few long clear up n kind h l = record { holds = λ place r. told place r ∙ ap sum_count (sym (made place)) }
  where
    told : (place : ℕ) → place < group_count table n
        → needed (table_required table components) (entry_at table n kind) (group_at table n place) ≡ sum_count (sum_at (add_rows sums table 0 components) n kind place)
    told place r = sym (unfold sum_at needed table_required table_entries entry_at in
        (ap (λ (c : ℕ). sum_count (get_or (add_rows sums table 0 components) (sum_cell c kind place) 0)) (noted table rows few n components 0 sums (omega arith) (omega arith) (omega arith) long)
        ∙ all_rows_lem table components rows room few up n h kind place l r components 0 sums (omega arith) long (rw (clear (sum_cell (class_of table n) kind place)) (record { low = λ q. omega arith; top = omega arith }))
        ∙ ap (λ (v : ℕ). sum_count v ⊕ needed_by (shares (component_of table n)) kind (group_at table n place) (table_entries table components)) (clear (sum_cell (class_of table n) kind place))
        ∙ nothing_join (needed_by (shares (component_of table n)) kind (group_at table n place) (table_entries table components))))

    made : (place : ℕ) → needed_at (add_rows sums table 0 components) table n kind place ≡ sum_at (add_rows sums table 0 components) n kind place
    made place = unfold needed_at in rw (ne_eqb (length (add_rows sums table 0 components)) 0 (λ e. omega (arith, length_rows sums table 0 components, long)))

-- Where no components share, no row but a component's own adds to what its class needs, and no sums are made.
none_shared : (table : List ℕ) (left at n : ℕ) → any_shared table at left ≡ false → at ≤ n → n < at + left → n ≤ class_of table n
unfolding any_shared
none_shared table zero at n e l h = absurd (omega arith)
none_shared table (suc left) at n e l h = go (ℕ_discrete at n) (ltb (class_of table at) at) refl e (λ f m. none_shared table left (suc at) n f m (omega arith))
  where
    go : Dec (at ≡ n) → (b : Bool) → ltb (class_of table at) at ≡ b → (b || any_shared table (suc at) left) ≡ false
        → (any_shared table (suc at) left ≡ false → suc at ≤ n → n ≤ class_of table n) → n ≤ class_of table n
    go d true q f rest = let z : ◌≡◌ {A = ℕ} 0 1 = cc in absurd (omega arith)
    go (yes z) false q f rest = rw (← z) (ltb-false (class_of table at) at q)
    go (no z) false q f rest = rest f (omega (arith, z))

module _ (table : List ℕ) (components : ℕ) (alone : any_shared table 0 components ≡ false) (up : (m : ℕ) → m < components → Orderly table m)
    (own : ℕ) (there : own < components) (k p : ℕ) (kind : k < 16) (place : p < group_count table own) where
  few_components : (m : ℕ) → m < components → row_key table own ≡ row_key table m → m ≡ own
  few_components m h e =
      omega (
        arith,
        none_shared table components 0 m alone (omega arith) (omega arith),
        none_shared table components 0 own alone (omega arith) (omega arith),
        class_high table m,
        class_high table own,
        same_class table own m e,
      )

  abbrev own_count : Count
  own_count = count_of (cell table own k p)

  own_adds : adds table own k p own ≡ own_count
  unfolding adds
  own_adds = rw (eq-eqb (row_key table own) (row_key table own) refl) (go (is_set (cell table own k 11)) refl)
    where
      go : (b : Bool) → is_set (cell table own k 11) ≡ b → cond b (count_of (cell table own k p)) (fin 0) ≡ count_of (cell table own k p)
      go true e = refl
      go false e = unfold count_of in rw ((up own there).unmarked k p kind (omega (arith, count_few table own)) (unset (cell table own k 11) e)) refl

  other_adds : (m : ℕ) → m < components → (m ≡ own → ⊥) → adds table own k p m ≡ fin 0
  unfolding adds
  other_adds m h f = rw (ne_eqb (row_key table own) (row_key table m) (λ e. f (few_components m h e)))

  later_rows : (left n : ℕ) → n + left ≤ components → own < n
      → needed_by (shares (component_of table own)) k (group_at table own p) (gather (row_entries table) (rising n left)) ≡ fin 0
  unfolding gather rising needed_by
  later_rows zero n h l = refl
  later_rows (suc left) n h l =
      needed_append (shares (component_of table own)) k (group_at table own p) (row_entries table n) (gather (row_entries table) (rising (suc n) left))
      ∙ ap₂ ◌⊕◌ (row_adds table components up own there k p kind place n (omega arith) ∙ other_adds n (omega arith) (λ e. omega arith)) (later_rows left (suc n) (omega arith) (omega arith))
      ∙ nothing_join (fin 0)

  own_row : (left n : ℕ) → n + left ≤ components → n ≤ own → own < n + left
      → needed_by (shares (component_of table own)) k (group_at table own p) (gather (row_entries table) (rising n left)) ≡ own_count
  unfolding gather rising needed_by
  own_row zero n h l u = absurd (omega arith)
  own_row (suc left) n h l u =
      needed_append (shares (component_of table own)) k (group_at table own p) (row_entries table n) (gather (row_entries table) (rising (suc n) left))
      ∙ ap (λ (x : Count). x ⊕ needed_by (shares (component_of table own)) k (group_at table own p) (gather (row_entries table) (rising (suc n) left))) (row_adds table components up own there k p kind place n (omega arith))
      ∙ go (ℕ_discrete n own) (later_rows left (suc n) (omega arith)) (λ m. own_row left (suc n) (omega arith) m (omega arith))
    where
      rest : Count
      rest = needed_by (shares (component_of table own)) k (group_at table own p) (gather (row_entries table) (rising (suc n) left))

      go : Dec (n ≡ own) → (own < suc n → rest ≡ fin 0) → (suc n ≤ own → rest ≡ own_count) → adds table own k p n ⊕ rest ≡ own_count
      go (yes e) none more = rw (none (omega arith), e, own_adds) (join_nothing own_count)
      go (no f) none more = rw (other_adds n (omega arith) f) (nothing_join rest ∙ more (omega (arith, f)))

pub lone_sums : (table : List ℕ) (components : ℕ) → components ≤ 32 → any_shared table 0 components ≡ false → ((m : ℕ) → m < components → Orderly table m)
    → (n kind : ℕ) → n < components → kind < 16 → Summed table [] (table_required table components) n kind
unfolding sum_count
lone_sums table components few alone up n kind h l = record { holds = told }
  where
    told : (place : ℕ) → place < group_count table n
        → needed (table_required table components) (entry_at table n kind) (group_at table n place) ≡ sum_count (needed_at [] table n kind place)
    told place r = unfold needed table_required table_entries entry_at needed_at in
        (own_row table components alone up n h kind place l r components 0 (omega arith) (omega arith) (omega arith)
        ∙ sym (nothing_join (count_of (cell table n kind place)))
        ∙ sym (join_small 0 0 (cell table n kind place) (omega arith) ((up n h).counts kind place l (omega (arith, count_few table n))) (record { low = λ q. omega arith; top = omega arith })).same)
