-- The table of sums, cell by cell: which component is the first of a class, and what joining the counts of a component's row leaves in
-- each cell.
use Prim.Native.Nat.{ℕ, zero, suc, ◌+◌, ◌*◌, ◌%◌, ◌<◌, ◌≤◌}
use mathlib.Core.Path.{◌≡◌, refl, sym, ap, ◌∙◌}
use mathlib.Core.List.{List}
use mathlib.Core.Bool.{Bool, true, false, cond}
use native.Mathlib.Omega.{arith}
use native.Mathlib.Decide.{ℕ_discrete, dec_lt}
use native.Mathlib.Nat.{mod-eq_of_lt}
use lib.Dec.{eqb}
use lib.ListN.{length, get_or, set, length-set}
use lib.Seq.{get_or-set_same, get_or-set_other}
use borrow.Author.Tests.{eqb-true, eqb-false}
use Rattle.sharing.specs.Sums.{row_key, class_from, class_of, added, sum_cell, add_at, add_places, add_kind, add_kinds, add_row}
use Rattle.inference.specs.Rows.{cell, is_set, group_count}
use Rattle.interface.proofs.CellLaws.{count_few}

-- The first component with a key: it has the key, and none before it has.
module _ (table : List ℕ) (key : ℕ) where
  from_low : (at left : ℕ) → at ≤ class_from key table at left
  unfolding class_from
  from_low at zero = omega arith
  from_low at (suc left) = go (eqb (row_key table at) key) (from_low (suc at) left)
    where
      go : (b : Bool) → suc at ≤ class_from key table (suc at) left → at ≤ cond b at (class_from key table (suc at) left)
      go true h = omega arith
      go false h = omega arith

  from_high : (at left : ℕ) → class_from key table at left ≤ at + left
  unfolding class_from
  from_high at zero = omega arith
  from_high at (suc left) = go (eqb (row_key table at) key) (from_high (suc at) left)
    where
      go : (b : Bool) → class_from key table (suc at) left ≤ suc at + left → cond b at (class_from key table (suc at) left) ≤ at + suc left
      go true h = omega arith
      go false h = omega arith

  from_key : (at left : ℕ) → row_key table (at + left) ≡ key → row_key table (class_from key table at left) ≡ key
  unfolding class_from
  from_key at zero e = let z : at + 0 ≡ at = omega arith in rw z at e
  from_key at (suc left) e = go (eqb (row_key table at) key) refl (from_key (suc at) left (let z : suc at + left ≡ at + suc left = omega arith in rw z e))
    where
      go : (b : Bool) → eqb (row_key table at) key ≡ b → row_key table (class_from key table (suc at) left) ≡ key
          → row_key table (cond b at (class_from key table (suc at) left)) ≡ key
      go true q h = eqb-true (row_key table at) key q
      go false q h = h

  from_first : (at left j : ℕ) → at ≤ j → j < class_from key table at left → row_key table j ≡ key → ⊥
  unfolding class_from
  from_first at zero j l h e = omega arith
  from_first at (suc left) j l h e = go (eqb (row_key table at) key) refl h (λ m n. from_first (suc at) left j m n e)
    where
      go : (b : Bool) → eqb (row_key table at) key ≡ b → j < cond b at (class_from key table (suc at) left)
          → (suc at ≤ j → j < class_from key table (suc at) left → ⊥) → ⊥
      go true q h rest = omega arith
      go false q h rest = split (ℕ_discrete at j)
        where
          split : Dec (at ≡ j) → ⊥
          split (yes z) = eqb-false (row_key table at) key q (rw z e)
          split (no f) = rest (omega (arith, f)) h

module _ (table : List ℕ) where
  pub class_high : (n : ℕ) → class_of table n ≤ n
  unfolding class_of
  class_high n = omega (arith, from_high table (row_key table n) 0 n)

  class_key : (n : ℕ) → row_key table (class_of table n) ≡ row_key table n
  unfolding class_of
  class_key n = from_key table (row_key table n) 0 n (let z : 0 + n ≡ n = omega arith in rw z)

  class_first : (n j : ℕ) → j < class_of table n → row_key table j ≡ row_key table n → ⊥
  unfolding class_of
  class_first n j h e = from_first table (row_key table n) 0 n j (omega arith) h e

  -- Components have one class exactly if they have one key.
  pub same_class : (m n : ℕ) → row_key table m ≡ row_key table n → class_of table m ≡ class_of table n
  same_class m n e = go (dec_lt (class_of table m) (class_of table n)) (dec_lt (class_of table n) (class_of table m))
    where
      go : Dec (class_of table m < class_of table n) → Dec (class_of table n < class_of table m) → class_of table m ≡ class_of table n
      go (yes h) k = absurd (class_first n (class_of table m) h (class_key m ∙ e))
      go (no h) (yes k) = absurd (class_first m (class_of table n) k (class_key n ∙ sym e))
      go (no h) (no k) = omega (arith, h, k)

  pub same_key : (m n : ℕ) → class_of table m ≡ class_of table n → row_key table m ≡ row_key table n
  same_key m n e = sym (class_key m) ∙ ap (row_key table) e ∙ class_key n

-- What joining a component's counts leaves in a cell.
length_places : (sums : List ℕ) (class : ℕ) (table : List ℕ) (n kind place left : ℕ) → length (add_places sums class table n kind place left) ≡ length sums
unfolding add_places add_at
length_places sums class table n kind place zero = refl
length_places sums class table n kind place (suc left) =
    length_places (add_at sums (sum_cell class kind place) (cell table n kind place)) class table n kind (suc place) left ∙ length-set sums (sum_cell class kind place) _

places_off : (i class : ℕ) (table : List ℕ) (n kind place left : ℕ) (sums : List ℕ) → ((q : ℕ) → place ≤ q → q < place + left → i ≡ sum_cell class kind q → ⊥)
    → get_or (add_places sums class table n kind place left) i 0 ≡ get_or sums i 0
unfolding add_places add_at
places_off i class table n kind place zero sums off = refl
places_off i class table n kind place (suc left) sums off =
    places_off i class table n kind (suc place) left (add_at sums (sum_cell class kind place) (cell table n kind place)) (λ q l h. off q (omega arith) (omega arith))
    ∙ get_or-set_other sums (sum_cell class kind place) i _ 0 (off place (omega arith) (omega arith))

places_apart : (class kind p q : ℕ) → sum_cell class kind p ≡ sum_cell class kind q → q ≡ p
unfolding sum_cell
places_apart class kind p q e = omega arith

abbrev joined : List ℕ → ℕ → ℕ → ℕ
joined sums at count = added (get_or sums at 0) count % 4294967296

places_on : (class : ℕ) (table : List ℕ) (n kind p place left : ℕ) (sums : List ℕ) → place ≤ p → p < place + left → sum_cell class kind p < length sums
    → get_or (add_places sums class table n kind place left) (sum_cell class kind p) 0 ≡ joined sums (sum_cell class kind p) (cell table n kind p)
places_on class table n kind p place zero sums l h k = absurd (omega arith)
places_on class table n kind p place (suc left) sums l h k =
    go (ℕ_discrete place p) (λ m. places_on class table n kind p (suc place) left (add_at sums (sum_cell class kind place) (cell table n kind place)) m (omega arith) (unfold add_at in rw (length-set sums (sum_cell class kind place) _) k))
  where
    next : List ℕ
    next = add_at sums (sum_cell class kind place) (cell table n kind place)

    apart : (q : ℕ) → (q ≡ p → ⊥) → sum_cell class kind p ≡ sum_cell class kind q → ⊥
    apart q f e = f (places_apart class kind p q e)

    go : Dec (place ≡ p)
        → (suc place ≤ p → get_or (add_places next class table n kind (suc place) left) (sum_cell class kind p) 0 ≡ joined next (sum_cell class kind p) (cell table n kind p))
        → get_or (add_places sums class table n kind place (suc left)) (sum_cell class kind p) 0 ≡ joined sums (sum_cell class kind p) (cell table n kind p)
    go (yes e) rest = unfold add_places in
        places_off (sum_cell class kind p) class table n kind (suc place) left next (λ q m f. apart q (λ z. omega arith))
        ∙ unfold add_at in rw e (get_or-set_same sums (sum_cell class kind p) _ 0 k)
    go (no f) rest = unfold add_places in
        rest (omega (arith, f))
        ∙ ap (λ (v : ℕ). added v (cell table n kind p) % 4294967296) (unfold add_at in get_or-set_other sums (sum_cell class kind place) (sum_cell class kind p) _ 0 (λ e. apart place f e))

module _ (class : ℕ) (table : List ℕ) (n : ℕ) where
  length_kind : (sums : List ℕ) (kind : ℕ) → length (add_kind sums class table n kind) ≡ length sums
  unfolding add_kind
  length_kind sums kind = go (is_set (cell table n kind 11))
    where
      go : (b : Bool) → length (cond b (add_places sums class table n kind 0 (group_count table n)) sums) ≡ length sums
      go true = length_places sums class table n kind 0 (group_count table n)
      go false = refl

  kind_off : (i : ℕ) (sums : List ℕ) (kind : ℕ) → ((q : ℕ) → q < group_count table n → i ≡ sum_cell class kind q → ⊥)
      → get_or (add_kind sums class table n kind) i 0 ≡ get_or sums i 0
  unfolding add_kind
  kind_off i sums kind off = go (is_set (cell table n kind 11))
    where
      go : (b : Bool) → get_or (cond b (add_places sums class table n kind 0 (group_count table n)) sums) i 0 ≡ get_or sums i 0
      go true = places_off i class table n kind 0 (group_count table n) sums (λ q l h. off q (omega arith))
      go false = refl

  kind_on : (sums : List ℕ) (kind p : ℕ) → p < group_count table n → sum_cell class kind p < length sums
      → get_or (add_kind sums class table n kind) (sum_cell class kind p) 0
      ≡ cond (is_set (cell table n kind 11)) (joined sums (sum_cell class kind p) (cell table n kind p)) (get_or sums (sum_cell class kind p) 0)
  unfolding add_kind
  kind_on sums kind p h k = go (is_set (cell table n kind 11))
    where
      go : (b : Bool) → get_or (cond b (add_places sums class table n kind 0 (group_count table n)) sums) (sum_cell class kind p) 0
          ≡ cond b (joined sums (sum_cell class kind p) (cell table n kind p)) (get_or sums (sum_cell class kind p) 0)
      go true = places_on class table n kind p 0 (group_count table n) sums (omega arith) (omega arith) k
      go false = refl

  length_kinds : (sums : List ℕ) (kind left : ℕ) → length (add_kinds sums class table n kind left) ≡ length sums
  unfolding add_kinds
  length_kinds sums kind zero = refl
  length_kinds sums kind (suc left) = length_kinds (add_kind sums class table n kind) (suc kind) left ∙ length_kind sums kind

  kinds_off : (i kind left : ℕ) (sums : List ℕ) → ((k q : ℕ) → kind ≤ k → k < kind + left → q < group_count table n → i ≡ sum_cell class k q → ⊥)
      → get_or (add_kinds sums class table n kind left) i 0 ≡ get_or sums i 0
  unfolding add_kinds
  kinds_off i kind zero sums off = refl
  kinds_off i kind (suc left) sums off =
      kinds_off i (suc kind) left (add_kind sums class table n kind) (λ k q l h g. off k q (omega arith) (omega arith) g)
      ∙ kind_off i sums kind (λ q g. off kind q (omega arith) (omega arith) g)

  kinds_apart : (k m p q : ℕ) → p < 8 → q < 8 → sum_cell class k p ≡ sum_cell class m q → k ≡ m
  unfolding sum_cell
  kinds_apart k m p q l h e = omega arith

  kinds_on : (k p kind left : ℕ) (sums : List ℕ) → kind ≤ k → k < kind + left → p < group_count table n → sum_cell class k p < length sums
      → get_or (add_kinds sums class table n kind left) (sum_cell class k p) 0
      ≡ cond (is_set (cell table n k 11)) (joined sums (sum_cell class k p) (cell table n k p)) (get_or sums (sum_cell class k p) 0)
  unfolding add_kinds
  kinds_on k p kind zero sums l h g r = absurd (omega arith)
  kinds_on k p kind (suc left) sums l h g r =
      go (ℕ_discrete kind k) (λ m. kinds_on k p (suc kind) left (add_kind sums class table n kind) m (omega arith) g (rw (length_kind sums kind) r))
    where
      here : List ℕ
      here = add_kind sums class table n kind

      go : Dec (kind ≡ k)
          → (suc kind ≤ k → get_or (add_kinds here class table n (suc kind) left) (sum_cell class k p) 0
          ≡ cond (is_set (cell table n k 11)) (joined here (sum_cell class k p) (cell table n k p)) (get_or here (sum_cell class k p) 0))
          → get_or (add_kinds here class table n (suc kind) left) (sum_cell class k p) 0
          ≡ cond (is_set (cell table n k 11)) (joined sums (sum_cell class k p) (cell table n k p)) (get_or sums (sum_cell class k p) 0)
      go (yes e) rest =
          kinds_off (sum_cell class k p) (suc kind) left here
          (λ m q a b c z. let y : k ≡ m = kinds_apart k m p q (omega (arith, count_few table n, g)) (omega (arith, count_few table n)) z in omega (arith, e))
          ∙ rw e (kind_on sums k p g r)
      go (no f) rest =
          rest (omega (arith, f))
          ∙ ap (λ (v : ℕ). cond (is_set (cell table n k 11)) (added v (cell table n k p) % 4294967296) v)
          (kind_off (sum_cell class k p) sums kind (λ q a z. f (sym (kinds_apart k kind p q (omega (arith, count_few table n, g)) (omega (arith, count_few table n)) z))))

-- Cells of rows of 129: a row and a place below 129 are told by the cell.
same_row : (m n a b : ℕ) → a < 129 → b < 129 → m * 129 + a ≡ n * 129 + b → m ≡ n
same_row m n a b h l e = go (dec_lt m n) (dec_lt n m)
  where
    go : Dec (m < n) → Dec (n < m) → m ≡ n
    go (yes p) q = absurd (omega arith)
    go (no p) (yes q) = absurd (omega arith)
    go (no p) (no q) = omega (arith, p, q)

-- a note is no sum
not_noted : (m class k p : ℕ) → k < 16 → p < 8 → m * 129 ≡ sum_cell class k p → ⊥
unfolding sum_cell
not_noted m class k p h l e =
    let z : m * 129 + 0 ≡ class * 129 + (1 + (k * 8 + p)) = omega arith in
    let y : m ≡ class = same_row m class 0 (1 + (k * 8 + p)) (omega arith) (omega arith) z in
    omega arith

classes_apart : (m n k j p q : ℕ) → k < 16 → j < 16 → p < 8 → q < 8 → sum_cell m k p ≡ sum_cell n j q → m ≡ n
unfolding sum_cell
classes_apart m n k j p q a b c d e = same_row m n (1 + (k * 8 + p)) (1 + (j * 8 + q)) (omega arith) (omega arith) e

-- One row: its class is noted, and its counts are joined to the sums of its class.
module _ (class : ℕ) (table : List ℕ) (n : ℕ) (sums : List ℕ) where
  pub length_row : length (add_row sums class table n) ≡ length sums
  unfolding add_row
  length_row = length_kinds class table n (set sums (n * 129) (class % 4294967296)) 0 16 ∙ length-set sums (n * 129) (class % 4294967296)

  pub row_noted : class < 4294967296 → n * 129 < length sums → get_or (add_row sums class table n) (n * 129) 0 ≡ class
  unfolding add_row
  row_noted h l =
      kinds_off class table n (n * 129) 0 16 (set sums (n * 129) (class % 4294967296)) (λ k q a b c e. not_noted n class k q (omega arith) (omega (arith, count_few table n)) e)
      ∙ get_or-set_same sums (n * 129) (class % 4294967296) 0 l
      ∙ mod-eq_of_lt h

  pub row_kept : (m : ℕ) → (m ≡ n → ⊥) → get_or (add_row sums class table n) (m * 129) 0 ≡ get_or sums (m * 129) 0
  unfolding add_row
  row_kept m f =
      kinds_off class table n (m * 129) 0 16 (set sums (n * 129) (class % 4294967296)) (λ k q a b c e. not_noted m class k q (omega arith) (omega (arith, count_few table n)) e)
      ∙ get_or-set_other sums (n * 129) (m * 129) (class % 4294967296) 0 (λ e. f (omega arith))

  -- the sum of another class
  pub row_off : (other k p : ℕ) → k < 16 → p < 8 → (other ≡ class → ⊥) → get_or (add_row sums class table n) (sum_cell other k p) 0 ≡ get_or sums (sum_cell other k p) 0
  unfolding add_row
  row_off other k p h l f =
      kinds_off class table n (sum_cell other k p) 0 16 (set sums (n * 129) (class % 4294967296))
      (λ m q a b c e. f (classes_apart other class k m p q h (omega arith) l (omega (arith, count_few table n)) e))
      ∙ get_or-set_other sums (n * 129) (sum_cell other k p) (class % 4294967296) 0 (λ e. not_noted n other k p h l (sym e))

  -- the sum of its own
  pub row_on : (k p : ℕ) → k < 16 → p < group_count table n → sum_cell class k p < length sums
      → get_or (add_row sums class table n) (sum_cell class k p) 0
      ≡ cond (is_set (cell table n k 11)) (joined sums (sum_cell class k p) (cell table n k p)) (get_or sums (sum_cell class k p) 0)
  unfolding add_row
  row_on k p h l r =
      kinds_on class table n k p 0 16 (set sums (n * 129) (class % 4294967296)) (omega arith) (omega arith) l (rw (length-set sums (n * 129) (class % 4294967296)) r)
      ∙ ap (λ (v : ℕ). cond (is_set (cell table n k 11)) (added v (cell table n k p) % 4294967296) v)
      (get_or-set_other sums (n * 129) (sum_cell class k p) (class % 4294967296) 0 (λ e. not_noted n class k p h (omega (arith, count_few table n)) (sym e)))
