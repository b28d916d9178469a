-- The trees of a policy in the table: where the kinds, the ends and the rows are those of a list of trees, the table holds that
-- list. And there is room: a node that is read stands in the first 64 rows with all nodes below it.
use Prim.Native.Nat.{ℕ, zero, suc, ◌+◌, ◌-◌, ◌<◌, ◌≤◌}
use mathlib.Core.List.{List, [], ◌∷◌, ◌++◌, append_assoc, append-nil}
use mathlib.Core.Path.{◌≡◌, refl, sym, ap, ◌∙◌}
use native.Mathlib.Numerals.{add-one}
use native.Mathlib.Nat.{add-zero, add_assoc}
use native.Mathlib.Omega.{arith}
use borrow.Author.Tests.{ltb-true}
use lib.Dec.{ltb}
use lib.ListN.{length, take, drop, get_or, set, length-append}
use lib.Seq.{take_at, drop_at}
use Rattle.inference.specs.Lists.{rising}
use Rattle.reading.proofs.Parts.{never, parts}
use Rattle.reading.specs.Read.{got, and_then}
use Rattle.policy.proofs.RowLaws.{kinds_more}
use Rattle.policy.proofs.ListLaws.{held}
use Rattle.policy.proofs.NodeSteps.{node_suc, children_suc, more_heads}
use Rattle.policy.proofs.StoreLaws.{flats_append}
use Rattle.policy.specs.Syntax.{Permissions, Node, Nodes, none, more, Tree, alone, heads, heads_of}
use Rattle.policy.specs.Reading.{children, read_node_in, read_node}
use Rattle.policy.specs.Rows.{Flat, flats, flatten}
use Rattle.policy.specs.Loads.{read_opening, children_read, start_of, Holds, AllHeld, held_none, held_more}
use Rattle.policy.specs.declared.Trees.{Trees}

-- Room for children where there is room for each.
abbrev pub Roomy : ℕ → List ℕ → Type 0
Roomy level c = (used at : ℕ) (root : Node) (k : ℕ) → read_node level c used at ≡ got root k → used + length (heads_of (alone root)) ≤ 64

children_room : (level : ℕ) (c : List ℕ) → Roomy level c → (n used at : ℕ) (ns : Nodes) (k : ℕ) → used ≤ 64 → children_read level c n used at ≡ got ns k
    → used + length (heads_of ns) ≤ 64
unfolding children_read children heads_of heads alone
children_room level c r zero used at ns k l e = let z : none ≡ ns = cc in rw (← z) (no_heads used l)
  where
    no_heads : (u : ℕ) → u ≤ 64 → u + length (heads_of none) ≤ 64
    no_heads u l = omega arith
children_room level c r (suc n) used at ns k l e =
    let s = children_suc level c n used at in
    let h = parts (read_node level c used at) (λ first m.
    and_then (children_read level c n (used + length (heads first)) m) (λ rest i. got (more first.group first.permissions first.below rest) i)) (sym s ∙ e) in
    let i = parts (children_read level c n (used + length (heads h.value)) h.place)
    (λ rest j. got (more h.value.group h.value.permissions h.value.below rest) j) h.rest in
    let f = r used at h.value h.place h.first in
    let z : more h.value.group h.value.permissions h.value.below i.value ≡ ns = cc in
    let g = children_room level c r n (used + length (heads h.value)) h.place i.value i.place f i.first in
    rw (← z) (together h.value i.value g)
  where
    together : (first : Node) (rest : Nodes) → used + length (heads first) + length (heads_of rest) ≤ 64
        → used + length (heads_of (more first.group first.permissions first.below rest)) ≤ 64
    together first rest g = omega (arith, more_heads first.group first.permissions first.below rest)

one_above : (g : ℕ) (p : Permissions) (ns : Nodes) → length (heads_of (alone (record { group = g; permissions = p; below = ns }))) ≡ 1 + length (heads_of ns)
unfolding alone heads_of
one_above g p ns = let z : length (heads_of ns ++ []) ≡ length (heads_of ns) = ap length (append-nil (heads_of ns)) in omega arith

never_deep : (c : List ℕ) (used at : ℕ) {root : Node} {k : ℕ} {P : Type 0} → read_node 0 c used at ≡ got root k → P
unfolding read_node_in
never_deep c used at e = never e

pub node_room : (level : ℕ) (c : List ℕ) → Roomy level c
node_room zero c used at root k e = never_deep c used at e
node_room (suc level) c used at root k e =
    let s = node_suc level c used at in
    let t = held (ltb used 64) at (and_then (read_opening c at) (λ o m.
    and_then (children_read level c o.children (used + 1) m) (λ ns end. got (record { group = o.head.group; permissions = o.head.permissions; below = ns }) end))) (sym s ∙ e) in
    let h = parts (read_opening c at) (λ o m.
    and_then (children_read level c o.children (used + 1) m) (λ ns end. got (record { group = o.head.group; permissions = o.head.permissions; below = ns }) end)) t.then in
    let i = parts (children_read level c h.value.children (used + 1) h.place)
    (λ ns end. got (record { group = h.value.head.group; permissions = h.value.head.permissions; below = ns }) end) h.rest in
    let z : record { group = h.value.head.group; permissions = h.value.head.permissions; below = i.value } ≡ root = cc in
    let low : used < 64 = ltb-true used 64 t.test in
    let g = children_room level c (node_room level c) h.value.children (used + 1) h.place i.value i.place (omega arith) i.first in
    rw (← z) (above h.value.head.group h.value.head.permissions i.value g)
  where
    above : (g : ℕ) (p : Permissions) (ns : Nodes) → used + 1 + length (heads_of ns) ≤ 64 → used + length (heads_of (alone (record { group = g; permissions = p; below = ns }))) ≤ 64
    above g p ns l = omega (arith, one_above g p ns)

-- What a list of trees leaves in the table: how many rows, the kinds, the rows' ends, the rows.
unfoldable pub size : Tree → ℕ
size t = length (heads_of (alone t.root))

unfoldable pub rows_of : List Tree → ℕ
rows_of [] = 0
rows_of (t ∷ rest) = size t + rows_of rest

unfoldable pub kinds_of : List Tree → List ℕ
kinds_of [] = []
kinds_of (t ∷ rest) = t.kind ∷ kinds_of rest

unfoldable pub ends_of : ℕ → List Tree → List ℕ
ends_of used [] = []
ends_of used (t ∷ rest) = (used + size t) ∷ ends_of (used + size t) rest

unfoldable pub all_rows : List Tree → List Flat
all_rows [] = []
all_rows (t ∷ rest) = flatten 0 (alone t.root) ++ all_rows rest

-- One tree more at the end.
module _ (t : Tree) where
  pub rows_of_end : (l : List Tree) → rows_of (l ++ (t ∷ [])) ≡ rows_of l + size t
  unfolding rows_of
  rows_of_end [] = omega arith
  rows_of_end (x ∷ l) = omega (arith, rows_of_end l)

  pub kinds_of_end : (l : List Tree) → kinds_of (l ++ (t ∷ [])) ≡ kinds_of l ++ (t.kind ∷ [])
  unfolding kinds_of
  kinds_of_end [] = refl
  kinds_of_end (x ∷ l) = rw (kinds_of_end l)

  pub ends_of_end : (used : ℕ) (l : List Tree) → ends_of used (l ++ (t ∷ [])) ≡ ends_of used l ++ ((used + rows_of l + size t) ∷ [])
  unfolding ends_of rows_of
  ends_of_end used [] = rw (add-zero used)
  ends_of_end used (x ∷ l) = rw (ends_of_end (used + size x) l, add_assoc used (size x) (rows_of l))

  pub all_rows_end : (l : List Tree) → all_rows (l ++ (t ∷ [])) ≡ all_rows l ++ flatten 0 (alone t.root)
  unfolding all_rows
  all_rows_end [] = append-nil (flatten 0 (alone t.root))
  all_rows_end (x ∷ l) = rw (all_rows_end l) (sym (append_assoc (flatten 0 (alone x.root)) (all_rows l) (flatten 0 (alone t.root))))

-- As many rows as nodes.
flats_count : (c nodes : List ℕ) (start n : ℕ) → length (flats c nodes start n) ≡ n
unfolding flats rising
flats_count c nodes start zero = refl
flats_count c nodes start (suc n) = ap suc (flats_count c nodes (suc start) n)

flatten_count : (d : ℕ) (ns : Nodes) → length (flatten d ns) ≡ length (heads_of ns)
unfolding flatten heads_of
flatten_count d none = refl
flatten_count d (more g p below rest) =
    ap suc (rw (length-append (flatten (d + 1) below) (flatten d rest), length-append (heads_of below) (heads_of rest), flatten_count (d + 1) below, flatten_count d rest))

-- Two lists that are equal are equal part by part.
same_front : (a b x y : List Flat) → length a ≡ length x → a ++ b ≡ x ++ y → a ≡ x
same_front a b x y h e = sym (take_at a b (length a) refl) ∙ rw e (take_at x y (length a) (sym h))

same_back : (a b x y : List Flat) → length a ≡ length x → a ++ b ≡ x ++ y → b ≡ y
same_back a b x y h e = sym (drop_at a b (length a) refl) ∙ rw e (drop_at x y (length a) (sym h))

tail_same : {A : Type 0} (x y : A) (l m : List A) → x ∷ l ≡ y ∷ m → (x ≡ y) × (l ≡ m)
tail_same x y l m e = let h : x ≡ y = cc in let t : l ≡ m = cc in (h, t)

module _ (c nodes : List ℕ) (trees : Trees) (long_kinds : length trees.kinds ≡ 16) (long_ends : length trees.ends ≡ 16) (few : trees.len ≤ 16)
    (high : (t : ℕ) → get_or trees.ends t 0 ≤ 64) where
  as_many : (tree : Tree) → size tree ≡ length (flatten 0 (alone tree.root))
  unfolding size
  as_many tree = sym (flatten_count 0 (alone tree.root))

  one_held : (t used : ℕ) (tree : Tree) (rest : List Tree) → start_of trees t ≡ used → get_or trees.kinds t 0 ≡ tree.kind → get_or trees.ends t 0 ≡ used + size tree
      → flats c nodes used (size tree) ≡ flatten 0 (alone tree.root) → Holds c nodes trees t tree
  one_held t used tree rest s k e r = record {
    kind = k;
    low = omega arith;
    high = high t;
    rows = let z : get_or trees.ends t 0 - start_of trees t ≡ size tree = omega arith in rw (z, s) r;
  }

  pub all_held : (policy : List Tree) (t used : ℕ) → start_of trees t ≡ used → t + length policy ≡ trees.len
      → drop t (take trees.len trees.kinds) ≡ kinds_of policy → drop t (take trees.len trees.ends) ≡ ends_of used policy
      → flats c nodes used (rows_of policy) ≡ all_rows policy → AllHeld c nodes trees t policy
  unfolding kinds_of ends_of rows_of all_rows start_of
  all_held [] t used s n k e r = held_none {t = t} (omega arith)
  all_held (tree ∷ rest) t used s n k e r =
      let k₁ = tail_same _ _ _ _ (sym (kinds_more trees.kinds trees.len t long_kinds few (omega arith)) ∙ k) in
      let e₁ = tail_same _ _ _ _ (sym (kinds_more trees.ends trees.len t long_ends few (omega arith)) ∙ e) in
      let r₁ : flats c nodes used (size tree) ++ flats c nodes (used + size tree) (rows_of rest) ≡ flatten 0 (alone tree.root) ++ all_rows rest =
      sym (flats_append c nodes used (size tree) (rows_of rest)) ∙ r in
      let l : length (flats c nodes used (size tree)) ≡ length (flatten 0 (alone tree.root)) = flats_count c nodes used (size tree) ∙ as_many tree in
      held_more
      (one_held t used tree rest s k₁.0 e₁.0 (same_front _ (flats c nodes (used + size tree) (rows_of rest)) _ (all_rows rest) l r₁))
      (all_held rest (suc t) (used + size tree) e₁.0 (omega arith) (rw (add-one t) at k₁.1) (rw (add-one t) at e₁.1)
      (same_back (flats c nodes used (size tree)) _ (flatten 0 (alone tree.root)) _ l r₁))

-- A bound that holds of each element holds after a store.
pub still_high : (l : List ℕ) (i v : ℕ) → v ≤ 64 → ((t : ℕ) → get_or l t 0 ≤ 64) → (t : ℕ) → get_or (set l i v) t 0 ≤ 64
still_high [] i v h k t = k t
still_high (x ∷ l) zero v h k zero = h
still_high (x ∷ l) zero v h k (suc t) = k (suc t)
still_high (x ∷ l) (suc i) v h k zero = k zero
still_high (x ∷ l) (suc i) v h k (suc t) = still_high l i v h (λ j. k (suc j)) t
