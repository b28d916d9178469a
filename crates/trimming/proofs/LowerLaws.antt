-- What lowering leaves of a list, of permissions and of nodes. Bits 0 to 3 of a map stay, since only bit 4 may go; a list has no new
-- groups, its other groups keep their counts, and the lowered group keeps its count less what is taken away.
use Prim.Native.Nat.{ℕ, ◌+◌, ◌-◌, ◌/◌, ◌%◌, ◌≤◌}
use mathlib.Core.Bool.{Bool, true, false, cond}
use mathlib.Core.List.{List, [], ◌∷◌, ◌++◌, map, map-append}
use mathlib.Core.Path.{◌≡◌, refl, sym, ap, ap₂, ◌∙◌}
use native.Mathlib.Omega.{arith}
use lib.Dec.{eqb}
use borrow.Author.Tests.{eqb-true, eqb-false, eq-eqb, ne_eqb, not-true, le-leb}
use Rattle.reading.proofs.FormLaws.{both_true}
use Rattle.inference.specs.Lists.{every}
use Rattle.inference.specs.Counts.{Count, fin, unlimited, ◌⊕◌, at_most}
use Rattle.inference.specs.Interface.{is_empty}
use Rattle.policy.specs.Syntax.{Granted, Permissions, Nodes, none, more, Head, heads_of, has_bit}
use Rattle.policy.specs.WellFormed.{groups_at}
use Rattle.fit.specs.Grants.{stored_count, listed}
use Rattle.trimming.specs.Trim.{lowered, item_then, lower_list, without_list, map_for, lower_permissions, lower_at, lower_nodes}
use Rattle.trimming.proofs.TestLaws.{cond_ind}

-- The bit of a value below 16 does not see 16 taken away.
abbrev pub Low : ℕ → Type 0
Low v = (m : ℕ) → 16 ≤ m → (m - 16) / v % 2 ≡ m / v % 2

pub low_1 : Low 1
low_1 m l = omega arith

pub low_2 : Low 2
low_2 m l = omega arith

pub low_4 : Low 4
low_4 m l = omega arith

pub low_8 : Low 8
low_8 m l = omega arith

has_list : (m : ℕ) → has_bit 16 m ≡ true → 16 ≤ m
unfolding has_bit
has_list m e = omega (arith, eqb-false (m / 16 % 2) 0 (not-true (eqb (m / 16 % 2) 0) e))

without_bit : (v : ℕ) → Low v → (m : ℕ) → has_bit v (without_list m) ≡ has_bit v m
unfolding without_list
without_bit v low m = cond_ind (λ n. has_bit v n ≡ has_bit v m) (has_bit 16 m) (m - 16) m (λ e. unfold has_bit in rw (low m (has_list m e))) (λ e. refl)

pub bit_kept : (v : ℕ) → Low v → (g h by n : ℕ) (p : Permissions) → has_bit v (lower_at g h by n p).map ≡ has_bit v p.map
unfolding lower_at lower_permissions map_for
bit_kept v low g h by n p =
    cond_ind (λ q. has_bit v q.map ≡ has_bit v p.map) (eqb n g) (lower_permissions h by p) p
    (λ e. cond_ind (λ m. has_bit v m ≡ has_bit v p.map) (is_empty (lower_list h by p.list)) (without_list p.map) p.map (λ f. without_bit v low p.map) (λ f. refl))
    (λ e. refl)

-- A list item by item: what is true of the list and of it with the item lowered is true of the list lowered. An item that comes to 0
-- leaves, and so the rest alone is asked of too.
module _ (h by : ℕ) (d : Granted) (l : List Granted) where
  abbrev item : Granted
  item = record { group = d.group; count = lowered by d.count }

  by_item : (P : List Granted → Type 0) → (eqb d.group h ≡ true → item.count ≡ 0 → P (lower_list h by l)) → (eqb d.group h ≡ true → P (item ∷ lower_list h by l))
      → (eqb d.group h ≡ false → P (d ∷ lower_list h by l)) → P (lower_list h by (d ∷ l))
  unfolding lower_list item_then
  by_item P gone less same =
      cond_ind P (eqb d.group h) _ _
      (λ e. cond_ind P (eqb item.count 0) (lower_list h by l) (item ∷ lower_list h by l) (λ f. gone e (eqb-true item.count 0 f)) (λ f. less e)) same

-- The count of another group.
pub other_listed : (h by i : ℕ) → (i ≡ h → ⊥) → (l : List Granted) → listed i (lower_list h by l) ≡ listed i l
unfolding listed
other_listed h by i ne [] = unfold lower_list in refl
other_listed h by i ne (d ∷ l) =
    let rest = other_listed h by i ne l in
    let other : eqb d.group h ≡ true → eqb d.group i ≡ false = λ e. ne_eqb d.group i (λ z. ne (sym z ∙ eqb-true d.group h e)) in
    by_item h by d l (λ m. listed i m ≡ cond (eqb d.group i) (stored_count d.count) (listed i l))
    (λ e f. rw (other e) rest) (λ e. rw (other e) rest) (λ e. rw rest)

-- A count less what is taken away: 65,535 stays.
lowered_least : (by n : ℕ) → n ≤ by + lowered by n
unfolding lowered
lowered_least by n = cond_ind (λ m. n ≤ by + m) (eqb n 65535) _ _ (λ e. omega arith) (λ e. omega arith)

lowered_free : (by n : ℕ) → n ≡ 65535 → lowered by n ≡ n
unfolding lowered
lowered_free by n e = rw (eq-eqb n 65535 e)

pub kept_within : (n by : ℕ) (c : Count) → n ≤ by → at_most (fin n) (fin by ⊕ c) ≡ true
unfolding at_most ◌⊕◌
kept_within n by (fin m) l = le-leb n (by + m) (omega arith)
kept_within n by unlimited l = refl

stored_kept : (by n m : ℕ) → n ≤ by + m → (n ≡ 65535 → m ≡ n) → at_most (stored_count n) (fin by ⊕ stored_count m) ≡ true
unfolding stored_count at_most ◌⊕◌
stored_kept by n m l free =
    cond_ind (λ c. at_most c (fin by ⊕ stored_count m) ≡ true) (eqb n 65535) unlimited (fin n)
    (λ e. rw (free (eqb-true n 65535 e), e))
    (λ e. cond_ind (λ c. at_most (fin n) (fin by ⊕ c) ≡ true) (eqb m 65535) unlimited (fin m) (λ f. refl) (λ f. le-leb n (by + m) l))

pub listed_kept : (h by : ℕ) (l : List Granted) → at_most (listed h l) (fin by ⊕ listed h (lower_list h by l)) ≡ true
unfolding listed
listed_kept h by [] = kept_within 0 by (listed h (lower_list h by [])) (omega arith)
listed_kept h by (d ∷ l) =
    by_item h by d l (λ m. at_most (cond (eqb d.group h) (stored_count d.count) (listed h l)) (fin by ⊕ listed h m) ≡ true)
    (λ e z. rw (e, left z) (kept_within d.count by (listed h (lower_list h by l)) (omega (arith, lowered_least by d.count))))
    (λ e. rw e (stored_kept by d.count (lowered by d.count) (lowered_least by d.count) (lowered_free by d.count)))
    (λ e. rw e (listed_kept h by l))
  where
    -- what leaves was not unlimited
    left : lowered by d.count ≡ 0 → stored_count d.count ≡ fin d.count
    left z = unfold stored_count in rw (ne_eqb d.count 65535 (λ e. omega (arith, lowered_free by d.count e)))

-- A list has no groups that it did not have.
list_groups : (q : ℕ → Bool) (h by : ℕ) (l : List Granted) → every q (map (λ d. d.group) l) ≡ true → every q (map (λ d. d.group) (lower_list h by l)) ≡ true
unfolding every
list_groups q h by [] e = unfold lower_list in refl
list_groups q h by (d ∷ l) e =
    let o = both_true (q d.group) (every q (map (λ c. c.group) l)) e in
    let rest = list_groups q h by l o.1 in
    by_item h by d l (λ m. every q (map (λ c. c.group) m) ≡ true) (λ t z. rest) (λ t. rw (o.0, rest)) (λ t. rw (o.0, rest))

pub groups_fewer : (q : ℕ → Bool) (g h by n : ℕ) (p : Permissions) → every q (map (λ d. d.group) p.list) ≡ true
    → every q (map (λ d. d.group) (lower_at g h by n p).list) ≡ true
unfolding lower_at lower_permissions
groups_fewer q g h by n p e =
    cond_ind (λ r. every q (map (λ d. d.group) r.list) ≡ true) (eqb n g) (lower_permissions h by p) p (λ t. list_groups q h by p.list e) (λ t. e)

-- Nodes: each head is lowered by itself.
unfoldable pub lower_head : ℕ → ℕ → ℕ → Head → Head
lower_head g h by a = record { group = a.group; permissions = lower_at g h by a.group a.permissions }

pub heads_lowered : (g h by : ℕ) (ns : Nodes) → heads_of (lower_nodes g h by ns) ≡ map (lower_head g h by) (heads_of ns)
unfolding heads_of lower_nodes lower_head
heads_lowered g h by none = refl
heads_lowered g h by (more n p below rest) =
    ap (λ (l : List Head). record { group = n; permissions = lower_at g h by n p } ∷ l)
    (ap₂ ◌++◌ (heads_lowered g h by below) (heads_lowered g h by rest) ∙ sym (map-append (lower_head g h by) (heads_of below) (heads_of rest)))

pub groups_lowered : (g h by : ℕ) (hs : List Head) → groups_at (map (lower_head g h by) hs) ≡ groups_at hs
unfolding groups_at lower_head
groups_lowered g h by [] = refl
groups_lowered g h by (a ∷ hs) = ap (λ (l : List ℕ). a.group ∷ l) (groups_lowered g h by hs)
