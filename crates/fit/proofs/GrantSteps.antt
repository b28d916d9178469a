-- The loops of src/grants.rt but those of the scan (`ScanSteps`), step by step: each keeps an equation between what is asked of the whole
-- list and of what is left of it.
use Prim.Native.Nat.{ℕ, suc, ◌+◌, ◌-◌, ◌*◌, ◌≤◌, ◌<◌}
use mathlib.Core.Path.{◌≡◌, refl, sym, ap, ap₂, ◌∙◌}
use mathlib.Core.Bool.{Bool, true, false, cond, not, ◌&&◌, ◌||◌}
use mathlib.Core.List.{List, [], ◌∷◌}
use native.Mathlib.Numerals.{add-one}
use native.Mathlib.Omega.{arith}
use borrow.Author.Tests.{le-ltb, lt-ltb, ltb-true, ltb-false, eq-eqb, ne_eqb}
use lib.Dec.{ltb, eqb}
use lib.ListN.{length, get_or, take, drop, length-take, drop_of_length-le}
use lib.Seq.{drop-cons, get_or-take}
use Rattle.inference.specs.Lists.{every, any}
use Rattle.inference.specs.Counts.{◌⊕◌}
use Rattle.inference.specs.Rows.{count_of}
use Rattle.inference.proofs.CountLaws.{join_assoc, join_nothing, nothing_join}
use Rattle.sharing.specs.Sums.{added, sum_count}
use Rattle.sharing.proofs.SharingLaws.{Small, Joined, join_small}
use Rattle.policy.specs.Syntax.{has_bit, bit_at}
use Rattle.fit.specs.Grants.{stored_count, listed}
use Rattle.policy.specs.Rows.{node_at, word_in, items_at, permissions_of}
use Rattle.fit.specs.Givers.{given_at, granting_row, joined_at, index_of}
use Rattle.std.specs.List.{list_all, list_any, position, position_or_len}
use Rattle.std.specs.Prelude.{Option, Some, None}
use Rattle.std.specs.Option.{unwrap_or}
use Rattle.policy.specs.declared.Trees.{Trees}
use Rattle.policy.specs.declared.Span.{Span}
use Rattle.policy.specs.Loads.{start_of}
use Rattle.fit.specs.Covers.{tree_rows_of}
use Rattle.policy.specs.declared.Node.{Node}
use Rattle.policy.specs.declared.Permissions.{Permissions as Stored}
use Rattle.policy.proofs.NodeLaws.{node_steps}
use Rattle.policy.proofs.RowLaws.{items_more, items_none, items_all}

-- A list from place i on is the i-th and what follows.
pub one_left : {A : Type 0} (xs : List A) (i : ℕ) (d : A) → i < length xs → drop i xs ≡ get_or xs i d ∷ drop (i + 1) xs
one_left xs i d h = rw (drop-cons xs i d h, ← add-one)

-- Where a kind stands in a list is the place of the first that is it, or the list's length.
pub index_place : (kind : ℕ) (xs : List ℕ) → index_of kind xs ≡ position_or_len (λ k. eqb k kind) xs
unfolding index_of
index_place kind [] = refl
index_place kind (x ∷ xs) = go (eqb x kind) (index_place kind xs)
  where
    go : (b : Bool) → index_of kind xs ≡ position_or_len (λ k. eqb k kind) xs
        → cond b 0 (suc (index_of kind xs)) ≡ cond (not b) (1 + position_or_len (λ k. eqb k kind) xs) 0
    go true e = refl
    go false e = omega (arith, e)

index_most : (kind : ℕ) (xs : List ℕ) → index_of kind xs ≤ length xs
unfolding index_of
index_most kind [] = omega arith
index_most kind (x ∷ xs) = go (eqb x kind) (index_most kind xs)
  where
    go : (b : Bool) → index_of kind xs ≤ length xs → cond b 0 (suc (index_of kind xs)) ≤ suc (length xs)
    go true e = omega arith
    go false e = omega arith

-- What the search for a kind among the trees' kinds finds, and that it finds none.
module _ (kind : ℕ) (kinds : List ℕ) where
  abbrev pub Found : Option ℕ → Type 0
  Found r = r ≡ position (λ k. eqb k kind) kinds

  pub found_place : (t : ℕ) → Found (Some t) → t ≡ index_of kind kinds
  found_place t e = rw index_place (go (position_or_len (λ k. eqb k kind) kinds) (length kinds) _ e)
    where
      go : (n m : ℕ) (b : Bool) → Some t ≡ cond b (Some n) None → t ≡ n
      go n m true e = cc
      go n m false e = cc

  pub found_low : (t : ℕ) → Found (Some t) → t < length kinds
  found_low t e = go (position_or_len (λ k. eqb k kind) kinds) (length kinds) _ refl e
    where
      go : (n m : ℕ) (b : Bool) → ltb n m ≡ b → Some t ≡ cond b (Some n) None → t < m
      go n m true h e = let q : t ≡ n = cc in omega (arith, ltb-true n m h)
      go n m false h e = cc

  pub found_none : Found None → length kinds ≤ index_of kind kinds
  found_none e = rw index_place (go (position_or_len (λ k. eqb k kind) kinds) (length kinds) _ refl e)
    where
      go : (n m : ℕ) (b : Bool) → ltb n m ≡ b → ◌≡◌ {A = Option ℕ} None (cond b (Some n) None) → m ≤ n
      go n m true h e = cc
      go n m false h e = omega (arith, ltb-false n m h)

-- the same of the trees of a policy
module _ (trees : Trees) (kind : ℕ) (few : trees.len ≤ 16) (all : length trees.kinds ≡ 16) where
  pub tree_place : (t : ℕ) → Found kind (take trees.len trees.kinds) (Some t) → t ≡ index_of kind (take trees.len trees.kinds)
  tree_place t e = found_place kind (take trees.len trees.kinds) t e

  pub tree_low : (t : ℕ) → Found kind (take trees.len trees.kinds) (Some t) → t < trees.len
  tree_low t e = omega (arith, few, all, found_low kind (take trees.len trees.kinds) t e, length-take trees.len trees.kinds)

  pub tree_none : Found kind (take trees.len trees.kinds) None → trees.len ≤ index_of kind (take trees.len trees.kinds)
  tree_none e = omega (arith, few, all, found_none kind (take trees.len trees.kinds) e, length-take trees.len trees.kinds)

  pub tree_or_len : (r : Option ℕ) (t : ℕ) → Found kind (take trees.len trees.kinds) r → t ≡ unwrap_or r trees.len → t ≡ index_of kind (take trees.len trees.kinds)
  tree_or_len (Some u) t e f = f ∙ tree_place u e
  tree_or_len None t e f = omega (arith, f, tree_none e, index_most kind (take trees.len trees.kinds), length-take trees.len trees.kinds)

-- its rows
module _ (trees : Trees) (kind t : ℕ) (is : t ≡ index_of kind (take trees.len trees.kinds)) where
  pub tree_found : t < trees.len → (s : Span) → s.from ≡ start_of trees t → s.to ≡ get_or trees.ends t 0 → Some s ≡ tree_rows_of trees kind
  unfolding tree_rows_of
  tree_found h s e f = rw (← is, lt-ltb t trees.len h, ← e, ← f) refl

  pub tree_missing : trees.len ≤ t → None ≡ tree_rows_of trees kind
  unfolding tree_rows_of
  tree_missing h = rw (← is, le-ltb t trees.len h) refl

pub ruleset tree_steps = (node_steps, index_place, tree_found, tree_missing)

-- Tests of all rows, and of any.
pub all_every : {A : Type 0} (p : A → Bool) (xs : List A) → list_all p xs ≡ every p xs
unfolding every
all_every p [] = refl
all_every p (x ∷ xs) = ap (λ b. p x && b) (all_every p xs)

pub any_any : {A : Type 0} (p : A → Bool) (xs : List A) → list_any p xs ≡ any p xs
unfolding any
any_any p [] = refl
any_any p (x ∷ xs) = ap (λ b. p x || b) (any_any p xs)

pub ruleset all_steps = (node_steps, all_every)

-- What a row gives, and that its list is one that the table can hold.
pub row_given : (nodes : List ℕ) (row : ℕ) (n : Node) → row < 64 → n ≡ node_at nodes row → (c : List ℕ) → permissions_of c n.permissions ≡ given_at c nodes row
unfolding given_at
row_given nodes row n h e c = rw (lt-ltb row 64 h, e)

pub none_given : (nodes : List ℕ) (row : ℕ) → 64 ≤ row → (c : List ℕ) → permissions_of c (record { map = 0; list = 0; count = 0; purposes = 0 }) ≡ given_at c nodes row
unfolding given_at permissions_of items_at
none_given nodes row h c = rw (le-ltb row 64 h)

pub flag_row : (nodes : List ℕ) (row value : ℕ) (p : Stored) (b : Bool) → ((c : List ℕ) → permissions_of c p ≡ given_at c nodes row) → b ≡ has_bit value p.map
    → (c : List ℕ) → b ≡ has_bit value (given_at c nodes row).map
unfolding permissions_of
flag_row nodes row value p b e q c = rw (← e c) q

pub count_row : (c nodes : List ℕ) (row group : ℕ) (p : Stored) (n : ℕ) → ((c : List ℕ) → permissions_of c p ≡ given_at c nodes row)
    → stored_count n ≡ listed group (items_at p.count c p.list) → stored_count n ≡ listed group (given_at c nodes row).list
unfolding permissions_of
count_row c nodes row group p n e q = rw (← e c) q

pub ruleset given_steps = (node_steps, row_given, none_given, flag_row, count_row)

-- A row that grants for a purpose.
module _ (nodes : List ℕ) (row purpose : ℕ) where
  pub grants_none : 64 ≤ row → 64 ≡ granting_row purpose nodes row
  unfolding granting_row
  grants_none h = rw (le-ltb row 64 h)

  module _ (n : Node) (h : row < 64) (e : n ≡ node_at nodes row) (b : Bool) (q : b ≡ bit_at purpose n.permissions.purposes) where
    pub grants_row : b ≡ true → row ≡ granting_row purpose nodes row
    unfolding granting_row
    grants_row t = rw (lt-ltb row 64 h, ← e, ← q, t)

    pub grants_not : b ≡ false → 64 ≡ granting_row purpose nodes row
    unfolding granting_row
    grants_not t = rw (lt-ltb row 64 h, ← e, ← q, t)

pub ruleset purpose_steps = (node_steps, grants_none, grants_row, grants_not)

pub ruleset flag_steps = (node_steps, any_any)

-- The search for a group in a disclose list has come to item i.
pub record ItemSoFar (c : List ℕ) (group n at i : ℕ) : Type 0 where
  pub same : listed group (items_at n c at) ≡ listed group (items_at (n - i) c (at + 3 * i))

pub item_starts : (c : List ℕ) (group n at : ℕ) → ItemSoFar c group n at 0
item_starts c group n at = record { same = rw (items_all c n at) }

module _ (c : List ℕ) (group n at i : ℕ) (s : ItemSoFar c group n at i) where
  pub item_ends : n ≤ i → stored_count 0 ≡ listed group (items_at n c at)
  unfolding listed stored_count
  item_ends h = sym (rw (items_none c n at i h) at s.same)

  module _ (h : i < n) (b : ℕ) (q : b ≡ get_or c (at + 3 * i) 0) where
    pub item_here : b ≡ group → (w : ℕ) → w ≡ word_in c (at + 3 * i + 1) → stored_count w ≡ listed group (items_at n c at)
    unfolding listed
    item_here e w p = rw (p) (sym (rw (items_more c n at i h, ← q, eq-eqb b group e) at s.same))

    pub item_next : (b ≡ group → ⊥) → ItemSoFar c group n at (i + 1)
    unfolding listed
    item_next e = record { same = rw (items_more c n at i h, ← q, ne_eqb b group e) at s.same }

pub ruleset item_steps = (node_steps, item_starts, item_ends, item_here, item_next)

-- What is joined so far, and what is left to join; at most eight counts are joined, so the sum stays small.
pub record SumSoFar (group : ℕ) (c nodes rows : List ℕ) (sum i : ℕ) : Type 0 where
  pub few : length rows ≤ 8
  pub whole : sum_count sum ⊕ joined_at group c nodes (drop i rows) ≡ joined_at group c nodes rows
  pub small : Small i sum

pub sum_starts : (group : ℕ) (c nodes rows : List ℕ) → length rows ≤ 8 → SumSoFar group c nodes rows 0 0
unfolding sum_count
sum_starts group c nodes rows h = record { few = h; whole = nothing_join _; small = record { low = λ h. omega arith; top = omega arith } }

module _ (group : ℕ) (c nodes rows : List ℕ) (sum i : ℕ) (s : SumSoFar group c nodes rows sum i) where
  pub sum_low : i ≤ length rows → sum < 4294967296
  sum_low h = omega (arith, s.small.top, s.few)

  pub sum_end : length rows ≤ i → sum_count sum ≡ joined_at group c nodes rows
  unfolding joined_at
  sum_end h = sym (join_nothing (sum_count sum)) ∙ (rw (drop_of_length-le rows {i = i} h) at s.whole)

  pub sum_next : i < length rows → (w : ℕ) → stored_count w ≡ listed group (given_at c nodes (get_or rows i 0)).list → w < 65536
      → (r : ℕ) → r ≡ added sum w → SumSoFar group c nodes rows r (i + 1)
  unfolding joined_at stored_count count_of
  sum_next h w q v r e =
      let next : Joined i sum w = join_small i sum w (omega (arith, s.few)) v s.small in
      record {
        few = s.few;
        whole = rw (e, next.same, q) (join_assoc _ _ _ ∙ (rw (one_left rows i 0 h) at s.whole));
        small = rw (e, add-one) next.small;
      }

pub ruleset sum_steps = (node_steps, sum_starts, sum_low, sum_end, sum_next)
