-- The same permissions: item by item, list by list, and the purposes.
use Prim.Native.Nat.{ℕ, ◌+◌, ◌-◌, ◌*◌, ◌<◌, ◌≤◌}
use mathlib.Core.Bool.{Bool, true, false, not, ◌&&◌, and-true, and-false}
use mathlib.Core.List.{List, [], ◌∷◌}
use mathlib.Core.Path.{◌≡◌, refl, sym, ap, ap₂, ◌∙◌}
use native.Mathlib.Omega.{arith}
use borrow.Author.Tests.{not-true, not-false, eq-eqb, ne_eqb, eqb-true}
use lib.Dec.{eqb}
use lib.ListN.{length, get_or}
use Rattle.policy.proofs.NodeLaws.{node_steps}
use Rattle.reading.proofs.FormLaws.{both_true}
use Rattle.policy.proofs.RowLaws.{items_more, items_none, items_all, items_count}
use Rattle.policy.specs.Syntax.{Granted, Permissions as Granting}
use Rattle.policy.specs.WellFormed.{same_list, same_permissions}
use Rattle.policy.specs.Rows.{word_in, items_at, permissions_of}
use Rattle.policy.specs.declared.Permissions.{Permissions}

-- Two items, their bytes and words as they were read.
module _ (c : List ℕ) (a b x y : ℕ) (p : x ≡ get_or c a 0) (q : y ≡ get_or c b 0) where
  pub item_differs : (x ≡ y → ⊥) → false ≡ (eqb (get_or c a 0) (get_or c b 0) && eqb (word_in c (a + 1)) (word_in c (b + 1)))
  item_differs h = rw (← p, ← q, ne_eqb x y h)

  pub words_decide : (u v : ℕ) → x ≡ y → u ≡ word_in c (a + 1) → v ≡ word_in c (b + 1)
      → eqb u v ≡ (eqb (get_or c a 0) (get_or c b 0) && eqb (word_in c (a + 1)) (word_in c (b + 1)))
  words_decide u v h k l = rw (← p, ← q, eq-eqb x y h, k, l)

-- Whether two lists have the same items is whether they have from the i-th on.
pub record ItemsLeft (c : List ℕ) (a b n i : ℕ) : Type 0 where
  pub same : same_list (items_at n c a) (items_at n c b) ≡ same_list (items_at (n - i) c (a + 3 * i)) (items_at (n - i) c (b + 3 * i))

pub items_start : (c : List ℕ) (a b n : ℕ) → ItemsLeft c a b n 0
items_start c a b n = record { same = rw (items_all c n a, items_all c n b) }

module _ (c : List ℕ) (a b n i : ℕ) (s : ItemsLeft c a b n i) where
  pub items_end : n ≤ i → true ≡ same_list (items_at n c a) (items_at n c b)
  unfolding same_list
  items_end h = rw (items_none c n a i h, items_none c n b i h) at (sym s.same)

  module _ (h : i < n) (r : Bool) (e : r ≡ (eqb (get_or c (a + 3 * i) 0) (get_or c (b + 3 * i) 0) && eqb (word_in c (a + 3 * i + 1)) (word_in c (b + 3 * i + 1)))) where
    pub items_differ : not r ≡ true → false ≡ same_list (items_at n c a) (items_at n c b)
    unfolding same_list
    items_differ k = sym (rw (items_more c n a i h, items_more c n b i h, ← e, not-true r k) at s.same)

    pub items_next : not r ≡ false → ItemsLeft c a b n (i + 1)
    unfolding same_list
    items_next k = record { same = rw (items_more c n a i h, items_more c n b i h, ← e, not-false r k) at s.same }

-- What is the same is equal.
granted_equal : (x y : Granted) → x.group ≡ y.group → x.count ≡ y.count → x ≡ y
granted_equal x y e f = ap₂ (λ (g n : ℕ). record { group = g; count = n }) e f

granting_equal : (p q : Granting) → p.map ≡ q.map → p.list ≡ q.list → p.purposes ≡ q.purposes → p ≡ q
granting_equal p q e f g =
    ap₂ (λ (m : ℕ) (l : List Granted). record { map = m; list = l; purposes = p.purposes }) e f
    ∙ ap (λ (n : ℕ). record { map = q.map; list = q.list; purposes = n }) g

list_equal : (l m : List Granted) → same_list l m ≡ true → l ≡ m
unfolding same_list
list_equal [] [] e = refl
list_equal [] (y ∷ m) e = let z : ◌≡◌ {A = ℕ} 0 1 = cc in absurd (omega arith)
list_equal (x ∷ l) [] e = let z : ◌≡◌ {A = ℕ} 0 1 = cc in absurd (omega arith)
list_equal (x ∷ l) (y ∷ m) e =
    let h = both_true (eqb x.group y.group && eqb x.count y.count) (same_list l m) e in
    let k = both_true (eqb x.group y.group) (eqb x.count y.count) h.0 in
    ap₂ ◌∷◌ (granted_equal x y (eqb-true x.group y.group k.0) (eqb-true x.count y.count k.1)) (list_equal l m h.1)

pub permissions_equal : (p q : Granting) → same_permissions p q ≡ true → p ≡ q
unfolding same_permissions
permissions_equal p q e =
    let h = both_true (eqb p.map q.map) (same_list p.list q.list && eqb p.purposes q.purposes) e in
    let k = both_true (same_list p.list q.list) (eqb p.purposes q.purposes) h.1 in
    granting_equal p q (eqb-true p.map q.map h.0) (list_equal p.list q.list k.0) (eqb-true p.purposes q.purposes k.1)

module _ (c : List ℕ) (p q : Permissions) where
  pub map_differs : (p.map ≡ q.map → ⊥) → false ≡ same_permissions (permissions_of c p) (permissions_of c q)
  unfolding same_permissions permissions_of
  map_differs h = rw (ne_eqb p.map q.map h)

  -- Whether the lists are the same.
  abbrev lists : Bool
  lists = same_list (items_at p.count c p.list) (items_at q.count c q.list)

  pub purposes_differ : p.map ≡ q.map → (p.purposes ≡ q.purposes → ⊥) → false ≡ same_permissions (permissions_of c p) (permissions_of c q)
  unfolding same_permissions permissions_of
  purposes_differ e h = rw (eq-eqb p.map q.map e, ne_eqb p.purposes q.purposes h, and-false lists)

  lists_differ : (p.count ≡ q.count → ⊥) → lists ≡ false
  lists_differ h = go lists refl
    where
      go : (t : Bool) → lists ≡ t → t ≡ false
      go true k = absurd (h (rw (items_count p.count c p.list, items_count q.count c q.list) at (ap length (list_equal (items_at p.count c p.list) (items_at q.count c q.list) k))))
      go false k = refl

  pub count_differs : p.map ≡ q.map → (p.count ≡ q.count → ⊥) → false ≡ same_permissions (permissions_of c p) (permissions_of c q)
  unfolding same_permissions permissions_of
  count_differs e h = rw (eq-eqb p.map q.map e, lists_differ h)

  pub list_decides : (r : Bool) → p.map ≡ q.map → p.purposes ≡ q.purposes → p.count ≡ q.count
      → r ≡ same_list (items_at p.count c p.list) (items_at p.count c q.list) → r ≡ same_permissions (permissions_of c p) (permissions_of c q)
  unfolding same_permissions permissions_of
  list_decides r e i h k = rw (eq-eqb p.map q.map e, eq-eqb p.purposes q.purposes i, and-true lists, ← h) k

pub ruleset agree_steps = (
  node_steps,
  item_differs,
  words_decide,
  items_start,
  items_end,
  items_differ,
  items_next,
  map_differs,
  purposes_differ,
  count_differs,
  list_decides,
)
