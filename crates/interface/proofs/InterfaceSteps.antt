-- The returns and the turns of the loops of interface: each lemma is one of them.
use Prim.Native.Nat.{ℕ, ◌+◌, ◌*◌, ◌/◌, ◌%◌, ◌≤◌, ◌<◌}
use mathlib.Core.Bool.{Bool, true, false, cond, not}
use mathlib.Core.List.{List, [], ◌∷◌}
use mathlib.Core.Path.{◌≡◌, refl, sym, ap, ◌∙◌}
use native.Mathlib.Nat.{mod-mod}
use native.Mathlib.Omega.{arith}
use borrow.Author.Tests.{eq-eqb, ne_eqb, not-true, not-false}
use borrow.Author.Rules.{rules}
use mir.Syntax.{w64}
use mir.Val.{Fits}
use lib.Dec.{eqb, eqb-suc-zero}
use lib.ListN.{length, get_or, set, length-take}
use lib.Seq.{take_all}
use Rattle.reading.specs.Told.{path_of}
use Rattle.reading.specs.declared.Path.{Path}
use Rattle.inference.specs.Lists.{gather}
use Rattle.inference.specs.Interface.{Disclosure, is_empty, bit, map_of, disclosure_bytes, head_then, list_bytes, entry_bytes, interface_bytes}
use Rattle.inference.specs.Rows.{path_at, purpose_at, cell_of, cell, is_set, group_count, group_at, disclosures_at, entry_at, row_entries, table_entries}
use Rattle.interface.specs.Writes.{store_bytes, Stored, group_bytes, entry_bytes_at}
use Rattle.reading.proofs.Tables.{unset}
use Rattle.interface.proofs.WriteLaws.{
  parts_from,
  stored_none,
  stored_more,
  Writing,
  write_first,
  write_next,
  write_last,
  Counting,
  count_first,
  count_next,
  count_last,
  count_fits,
}
use Rattle.interface.proofs.InterfaceLaws.{
  one_at,
  ones_are,
  count_number_lem,
  disclosed_to,
  group_bytes_at,
  disclosed_few,
  group_few,
  disclosures_are,
  group_bytes_are,
  list_bytes_lem,
  no_list,
  list_length,
  map_none,
  map_some,
  path_few,
  head_then_lem,
  entry_length,
  entry_few,
  row_bytes_are,
  row_bytes_at,
  row_few,
  table_bytes_are,
}

pub cell_is : {r : ℕ} (t : List ℕ) (c k j at : ℕ) → at ≡ cell_of c k j → r ≡ get_or t at 0 → r ≡ cell t c k j
unfolding cell
cell_is t c k j at e f = rw (← e) f

-- A kind that is marked.
pub used_so : (t : List ℕ) (c k x : ℕ) → x ≡ cell t c k 11 → not (eqb x 0) ≡ is_set (cell t c k 11)
unfolding is_set
used_so t c k x e = rw e

-- A flag of a count.
pub bit_unset : (n v : ℕ) → n ≡ 0 → 0 ≡ bit (is_set n) v
unfolding is_set bit
bit_unset n v h = rw (eq-eqb n 0 h)

pub bit_set : (n v : ℕ) → (n ≡ 0 → ⊥) → v ≡ bit (is_set n) v
unfolding is_set bit
bit_set n v h = rw (ne_eqb n 0 h)

-- How many groups are disclosed to.
module _ (t : List ℕ) (c k : ℕ) where
  pub groups_first : (m : ℕ) → Counting (disclosed_to t c k) 1 m 0 0
  groups_first m = count_first (disclosed_to t c k) 1 m (disclosed_few t c k)

  pub groups_next : (m n g x v : ℕ) → Counting (disclosed_to t c k) 1 m n g → g < m → x ≡ cell t c k g → v ≡ bit (is_set x) 1
      → Counting (disclosed_to t c k) 1 m (n + v) (g + 1)
  unfolding disclosed_to bit
  groups_next m n g x v w h e f = count_next w v h (rw (f, e) (go (is_set (cell t c k g)) _))
    where
      go : (b : Bool) (d : Disclosure) → bit b 1 ≡ length (cond b (d ∷ []) [])
      go true d = refl
      go false d = refl

  pub groups_last : {m n g : ℕ} → Counting (disclosed_to t c k) 1 m n g → m ≤ g → m ≡ group_count t c → n ≡ length (disclosures_at t c k)
  groups_last w h e = rw (disclosures_are t c k, ← e) (count_last w h)

-- The permission map.
not_empty : {A : Type 0} (l : List A) → not (is_empty l) ≡ is_set (length l)
unfolding is_empty is_set
not_empty [] = refl
not_empty (x ∷ l) = rw (eqb-suc-zero (length l))

pub map_is : (t : List ℕ) (c k x y z n a b d e : ℕ) → x ≡ cell t c k 8 → a ≡ bit (is_set x) 1 → y ≡ cell t c k 9 → b ≡ bit (is_set y) 2
    → z ≡ cell t c k 10 → d ≡ bit (is_set z) 4 → n ≡ length (disclosures_at t c k) → e ≡ bit (is_set n) 16
    → a + (b + (d + e)) ≡ map_of (entry_at t c k)
unfolding map_of entry_at
map_is t c k x y z n a b d e p p' q q' s s' u u' = rw (p', q', s', u', p, q, s, u, not_empty)

-- The length of a list.
pub list_len_none : (n : ℕ) → n ≡ 0 → (ds : List Disclosure) → n ≡ length ds → 0 ≡ length (list_bytes ds)
list_len_none n h ds e = rw (no_list ds (sym e ∙ h))

pub list_len_some : (n : ℕ) → (n ≡ 0 → ⊥) → (ds : List Disclosure) → n ≡ length ds → 1 + 3 * n ≡ length (list_bytes ds)
list_len_some n h ds e = rw (list_length ds (λ q. h (e ∙ q)), e)

-- The lengths of an entry's parts and of an entry.
module _ (t : List ℕ) (c k : ℕ) where
  pub path_size_is : {r : ℕ} (p : Path) → path_of p ≡ path_at t c → r ≡ length (path_of p) → r ≡ length (path_at t c)
  path_size_is p e h = h ∙ ap length e

  pub path_size_few : {r : ℕ} (p : Path) → path_of p ≡ path_at t c → r ≡ length (path_of p) → r ≤ 8
  path_size_few p e h = rw (h, e) (path_few t c)

  -- A kind that is marked or not.
  module _ (u : Bool) (is : u ≡ is_set (cell t c k 11)) where
    pub unused : not u ≡ true → entry_bytes_at t c k ≡ []
    unfolding entry_bytes_at
    unused h = rw (← is, not-true u h)

    pub entry_none : (m : ℕ) → not u ≡ false → m ≡ map_of (entry_at t c k) → m ≡ 0 → entry_bytes_at t c k ≡ []
    unfolding entry_bytes_at
    entry_none m i e h = rw (← is, not-false u i, map_none (entry_at t c k) (sym e ∙ h))

    pub entry_some : (m : ℕ) → not u ≡ false → m ≡ map_of (entry_at t c k) → (m ≡ 0 → ⊥) → entry_bytes_at t c k ≡ entry_bytes (entry_at t c k)
    unfolding entry_bytes_at
    entry_some m i e h = rw (← is, not-false u i, map_some (entry_at t c k) (λ q. h (e ∙ q)))

    pub entry_len_unused : not u ≡ true → 0 ≡ length (entry_bytes_at t c k)
    entry_len_unused h = rw (unused h)

    pub entry_len_none : (m : ℕ) → not u ≡ false → m ≡ map_of (entry_at t c k) → m ≡ 0 → 0 ≡ length (entry_bytes_at t c k)
    entry_len_none m i e h = rw (entry_none m i e h)

    pub entry_len_some : (m n p l : ℕ) → not u ≡ false → m ≡ map_of (entry_at t c k) → (m ≡ 0 → ⊥) → p ≡ length (path_at t c)
        → n ≡ length (disclosures_at t c k) → ((ds : List Disclosure) → n ≡ length ds → l ≡ length (list_bytes ds))
        → 4 + (p + l) ≡ length (entry_bytes_at t c k)
    unfolding entry_at
    entry_len_some m n p l i e h f d g = rw (entry_some m i e h, entry_length (entry_at t c k), f, g (disclosures_at t c k) d)

-- The length of a component's entries.
module _ (t : List ℕ) (c : ℕ) where
  pub row_first : Counting (entry_bytes_at t c) 37 16 0 0
  row_first = count_first (entry_bytes_at t c) 37 16 (entry_few t c)

  pub row_fits : {v n k : ℕ} → Counting (entry_bytes_at t c) 37 16 n k → k < 16 → v ≡ length (entry_bytes_at t c k) → Fits w64 (n + v)
  row_fits {v} w h e = count_fits w v h e (omega arith)

  pub row_last : {n k : ℕ} → Counting (entry_bytes_at t c) 37 16 n k → 16 ≤ k → n ≡ length (interface_bytes (row_entries t c))
  row_last w h = rw (row_bytes_are t c) (count_last w h)

-- The length of the interface.
module _ (t : List ℕ) (m : ℕ) where
  pub table_first : Counting (row_bytes_at t) 592 m 0 0
  table_first = count_first (row_bytes_at t) 592 m (row_few t)

  pub table_fits : {v n c : ℕ} → Counting (row_bytes_at t) 592 m n c → c < m → v ≡ length (interface_bytes (row_entries t c)) → m ≤ 32
      → Fits w64 (n + v)
  table_fits {v} w h e l = count_fits w v h e (omega arith)

  pub table_last : {n c : ℕ} → Counting (row_bytes_at t) 592 m n c → m ≤ c → n ≡ length (interface_bytes (table_entries t m))
  table_last w h = rw (table_bytes_are t m) (count_last w h)

-- Bytes stored, one, and those of a path.
pub put_is : (o o' : List ℕ) (at v : ℕ) → o' ≡ set o at (v % 256) → Stored o o' at (v ∷ []) (at + 1)
unfolding store_bytes
put_is o o' at v e = record { next = refl; left = e }

pub path_at_most : (p : Path) (n : ℕ) → length p.groups ≡ 8 → n ≡ length (path_of p) → n ≤ 8
path_at_most p n h e = omega (arith, length-take p.len p.groups)

module _ (o : List ℕ) (at : ℕ) where
  pub path_first : (l : List ℕ) (n : ℕ) → Writing (one_at l) 1 n o at o at 0
  path_first l n = write_first (one_at l) 1 n o at (λ j. omega arith)

  pub path_last : {o₁ : List ℕ} {m i : ℕ} (l : List ℕ) → Writing (one_at l) 1 (length l) o at o₁ m i → length l ≤ i → Stored o o₁ at l m
  path_last l w h = rw (ones_are l (length l) (omega arith), take_all (length l) l (omega arith)) at (write_last w h)

  pub path_written : {o₁ o₂ : List ℕ} {m r : ℕ} (n : ℕ) (path groups : List ℕ) → groups ≡ path → n ≡ length path
      → Stored o o₁ at (n ∷ []) m → Stored o₁ o₂ m groups r → Stored o o₂ at (length path ∷ path) r
  path_written n path groups e f s u = rw (← e) (rw (f, ← e) at (stored_more s u))

  -- A group and its count.
  pub no_group : (g n : ℕ) → n ≡ 0 → Stored o o at (group_bytes g n) at
  unfolding group_bytes is_set
  no_group g n h = rw (eq-eqb n 0 h) (stored_none o at)

  pub group_written : {o₁ o₂ o₃ : List ℕ} {a b r : ℕ} (g n : ℕ) → (n ≡ 0 → ⊥) → Stored o o₁ at (g ∷ []) a → Stored o₁ o₂ a (n ∷ []) b
      → Stored o₂ o₃ b (n / 256 ∷ []) r → Stored o o₃ at (group_bytes g n) r
  unfolding group_bytes is_set disclosure_bytes store_bytes
  group_written g n h s u v = rw (ne_eqb n 0 h, count_number_lem n) (reduced (stored_more s (stored_more u v)))
    where
      reduced : {o' : List ℕ} {r : ℕ} → Stored o o' at (g ∷ n ∷ n / 256 ∷ []) r → Stored o o' at (g ∷ n % 256 ∷ n / 256 % 256 ∷ []) r
      reduced w = record { next = w.next; left = simp mod-mod w.left }

  -- The groups that data is disclosed to, and the list of them.
  module _ (t : List ℕ) (c k : ℕ) where
    pub groups_written_first : (e : ℕ) → Writing (group_bytes_at t c k) 3 e o at o at 0
    groups_written_first e = write_first (group_bytes_at t c k) 3 e o at (group_few t c k)

    pub groups_written_next : {o₁ o₂ : List ℕ} {e m r : ℕ} (i g n : ℕ) → Writing (group_bytes_at t c k) 3 e o at o₁ m i → i < e → g ≡ group_at t c i
        → n ≡ cell t c k i → Stored o₁ o₂ m (group_bytes g n) r → Writing (group_bytes_at t c k) 3 e o at o₂ r (i + 1)
    unfolding group_bytes_at
    groups_written_next i g n w h f e s = write_next w h (rw (f, e) at s)

    pub groups_written : {o₁ : List ℕ} {e m g : ℕ} → Writing (group_bytes_at t c k) 3 e o at o₁ m g → e ≤ g → e ≡ group_count t c
        → Stored o o₁ at (gather disclosure_bytes (disclosures_at t c k)) m
    groups_written w h e = rw (group_bytes_are t c k, ← e) (write_last w h)

    pub list_unwritten : (n : ℕ) → n ≡ length (disclosures_at t c k) → n ≡ 0 → Stored o o at (list_bytes (disclosures_at t c k)) at
    list_unwritten n e h = rw (no_list (disclosures_at t c k) (sym e ∙ h)) (stored_none o at)

    pub list_written : {o₁ o₂ : List ℕ} {m r : ℕ} (n : ℕ) → n ≡ length (disclosures_at t c k) → (n ≡ 0 → ⊥) → Stored o o₁ at (n ∷ []) m
        → Stored o₁ o₂ m (gather disclosure_bytes (disclosures_at t c k)) r → Stored o o₂ at (list_bytes (disclosures_at t c k)) r
    list_written n e h s u = rw (list_bytes_lem (disclosures_at t c k) (λ q. h (e ∙ q)), ← e) (stored_more s u)

    -- An entry up to its map.
    pub head_written : {o₁ o₂ o₃ o₄ : List ℕ} {a b d r : ℕ} (p m : ℕ) → p ≡ purpose_at t c → m ≡ map_of (entry_at t c k)
        → Stored o o₁ at (k ∷ []) a → Stored o₁ o₂ a (length (path_at t c) ∷ path_at t c) b → Stored o₂ o₃ b (p ∷ []) d → Stored o₃ o₄ d (m ∷ []) r
        → Stored o o₄ at (head_then (entry_at t c k) []) r
    unfolding entry_at
    head_written p m f e s v x w = rw (f, e) at (stored_more s (stored_more v (stored_more x w)))

    -- An entry.
    module _ (u : Bool) (is : u ≡ is_set (cell t c k 11)) where
      pub unused_unwritten : not u ≡ true → Stored o o at (entry_bytes_at t c k) at
      unused_unwritten h = rw (unused t c k u is h) (stored_none o at)

      pub entry_unwritten : (m : ℕ) → not u ≡ false → m ≡ map_of (entry_at t c k) → m ≡ 0 → Stored o o at (entry_bytes_at t c k) at
      entry_unwritten m i e h = rw (entry_none t c k u is m i e h) (stored_none o at)

      pub entry_written : {o₁ o₂ : List ℕ} {a r : ℕ} (m : ℕ) → not u ≡ false → m ≡ map_of (entry_at t c k) → (m ≡ 0 → ⊥)
          → Stored o o₁ at (head_then (entry_at t c k) []) a → Stored o₁ o₂ a (list_bytes (disclosures_at t c k)) r → Stored o o₂ at (entry_bytes_at t c k) r
      unfolding entry_bytes entry_at
      entry_written m i e h s v =
          rw (entry_some t c k u is m i e h) (rw (head_then_lem (entry_at t c k) (list_bytes (disclosures_at t c k))) at (stored_more s v))

  -- A component's entries, and the interface.
  module _ (t : List ℕ) (c : ℕ) where
    pub row_written_first : Writing (entry_bytes_at t c) 37 16 o at o at 0
    row_written_first = write_first (entry_bytes_at t c) 37 16 o at (entry_few t c)

    pub row_written : {o₁ : List ℕ} {m k : ℕ} → Writing (entry_bytes_at t c) 37 16 o at o₁ m k → 16 ≤ k
        → Stored o o₁ at (interface_bytes (row_entries t c)) m
    row_written w h = rw (row_bytes_are t c) (write_last w h)

  module _ (t : List ℕ) (n : ℕ) where
    pub table_written_first : Writing (row_bytes_at t) 592 n o at o at 0
    table_written_first = write_first (row_bytes_at t) 592 n o at (row_few t)

    pub table_written : {o₁ : List ℕ} {m c : ℕ} → Writing (row_bytes_at t) 592 n o at o₁ m c → n ≤ c
        → Stored o o₁ at (interface_bytes (table_entries t n)) m
    table_written w h = rw (table_bytes_are t n) (write_last w h)

pub ruleset interface_steps = (
  rules,
  unset,
  cell_is,
  used_so,
  bit_unset,
  bit_set,
  groups_first,
  groups_next,
  groups_last,
  map_is,
  path_size_is,
  path_size_few,
  list_len_none,
  list_len_some,
  entry_len_unused,
  entry_len_none,
  entry_len_some,
  row_first,
  row_fits,
  row_last,
  table_first,
  table_fits,
  table_last,
  put_is,
  path_at_most,
  path_first,
  path_last,
  path_written,
  no_group,
  group_written,
  groups_written_first,
  groups_written_next,
  groups_written,
  list_unwritten,
  list_written,
  unused_unwritten,
  entry_unwritten,
  head_written,
  entry_written,
  row_written_first,
  row_written,
  table_written_first,
  table_written,
  count_next,
  write_next,
)
