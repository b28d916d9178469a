-- The tree of a kind in the table of a policy's nodes: which one it is, and questions 16 to 18 of an entry asked of its rows.
use Prim.Native.Nat.{ℕ, suc, ◌+◌, ◌-◌, ◌≤◌, ◌<◌}
use mathlib.Core.Path.{◌≡◌, refl, sym, ap, ◌∙◌}
use mathlib.Core.Bool.{Bool, true, false, cond, ◌||◌, true≢false}
use mathlib.Core.List.{List, [], ◌∷◌, map}
use mathlib.Core.Option.{Option, some, none as nothing}
use native.Mathlib.Omega.{arith}
use borrow.Author.Tests.{lt-ltb, ltb-true}
use lib.Dec.{ltb, eqb, leb-suc-suc}
use lib.ListN.{length, get_or, take, drop, length-take, drop_of_length-le}
use lib.Seq.{drop-cons, get_or-take}
use Rattle.reading.specs.Forms.{member}
use Rattle.inference.specs.Lists.{every, any, rising}
use Rattle.inference.specs.Counts.{Count, ◌⊕◌}
use Rattle.inference.specs.Interface.{Entry, reading, writing, accessing, disclosing, Required, needed}
use Rattle.policy.specs.Syntax.{Node, Tree, has_bit, alone}
use Rattle.policy.specs.WellFormed.{groups_at}
use Rattle.fit.specs.Grants.{tree_for, reached, reached_in, reached_for, granting_to, given_by, flag_granted, listed, joined, count_granted}
use Rattle.fit.specs.Covers.{span_for}
use Rattle.policy.specs.declared.Span.{Span}
use Rattle.fit.specs.Satisfies.{is_tree, has_tree, path_reached, flag, counts, verdict_of}
use Rattle.policy.specs.Rows.{flats, flatten}
use Rattle.fit.specs.Givers.{given_at, granting_row, granting_rows, joined_at, index_of, giver_in, givers_in}
use Rattle.fit.specs.Search.{Gives}
use Rattle.policy.specs.Loads.{start_of, Holds, AllHeld, held_none, held_more}
use Rattle.policy.specs.declared.Trees.{Trees}
use Rattle.fit.proofs.GrantLaws.{all_found, flag_given_lem, counts_given}

abbrev kinds_of : List Tree → List ℕ
kinds_of policy = map (λ tree. tree.kind) policy

-- What a kind's tree is, and that the t-th tree's rows hold it.
pub record Lookup (c nodes : List ℕ) (trees : Trees) (kind : ℕ) (policy : List Tree) (t : ℕ) : Type 0 where
  pub tree : Tree
  pub is : tree_for kind policy ≡ some tree.root
  pub held : Holds c nodes trees t tree

-- The rows from `start` up to `end` are those of the kind's tree.
pub record TreeRows (c nodes : List ℕ) (policy : List Tree) (kind start end : ℕ) : Type 0 where
  pub root : Node
  pub is : tree_for kind policy ≡ some root
  pub fits : start + (end - start) ≤ 64
  pub rows : flats c nodes start (end - start) ≡ flatten 0 (alone root)

-- The first tree is of the kind, or it is a later one.
module _ (kind : ℕ) (tree : Tree) (rest : List Tree) where
  index_first : eqb tree.kind kind ≡ true → index_of kind (kinds_of (tree ∷ rest)) ≡ 0
  unfolding index_of
  index_first e = rw e

  index_later : eqb tree.kind kind ≡ false → index_of kind (kinds_of (tree ∷ rest)) ≡ suc (index_of kind (kinds_of rest))
  unfolding index_of
  index_later e = rw e

  tree_first : eqb tree.kind kind ≡ true → tree_for kind (tree ∷ rest) ≡ some tree.root
  unfolding tree_for
  tree_first e = rw e

  tree_later : eqb tree.kind kind ≡ false → tree_for kind (tree ∷ rest) ≡ tree_for kind rest
  unfolding tree_for
  tree_later e = rw e

tree_or_none : (kind : ℕ) (policy : List Tree) → is_tree (tree_for kind policy) ≡ ltb (index_of kind (kinds_of policy)) (length policy)
unfolding is_tree tree_for index_of
tree_or_none kind [] = refl
tree_or_none kind (tree ∷ rest) = go (eqb tree.kind kind) (tree_or_none kind rest)
  where
    go : (b : Bool) → is_tree (tree_for kind rest) ≡ ltb (index_of kind (kinds_of rest)) (length rest)
        → is_tree (cond b (some tree.root) (tree_for kind rest)) ≡ ltb (cond b 0 (suc (index_of kind (kinds_of rest)))) (suc (length rest))
    go true later = sym (lt-ltb 0 (suc (length rest)) (omega arith))
    go false later = later ∙ sym (leb-suc-suc (suc (index_of kind (kinds_of rest))) (length rest))

module _ {c nodes : List ℕ} {trees : Trees} where
  held_length : {t : ℕ} {policy : List Tree} → AllHeld c nodes trees t policy → t + length policy ≡ trees.len
  held_length (held_none e) = omega (arith, e)
  held_length (held_more h rest) = omega (arith, held_length rest)

  held_kinds : {t : ℕ} {policy : List Tree} → trees.len ≤ length trees.kinds → AllHeld c nodes trees t policy
      → drop t (take trees.len trees.kinds) ≡ kinds_of policy
  held_kinds {t} k (held_none e) = drop_of_length-le (take trees.len trees.kinds) {i = t} (omega (arith, e, length-take trees.len trees.kinds))
  held_kinds {t} k (held_more h rest) =
      let l : t < trees.len = omega (arith, held_length rest) in
      drop-cons (take trees.len trees.kinds) t 0 (omega (arith, length-take trees.len trees.kinds))
      ∙ rw (get_or-take, h.kind, held_kinds k rest)

  moved : {kind s t : ℕ} {policy : List Tree} → s ≡ t → Lookup c nodes trees kind policy s → Lookup c nodes trees kind policy t
  moved e l = rw e at l

  -- Where the kind is found, its tree is held there.
  found_at : (kind : ℕ) {t : ℕ} {policy : List Tree} → AllHeld c nodes trees t policy → index_of kind (kinds_of policy) < length policy
      → Lookup c nodes trees kind policy (t + index_of kind (kinds_of policy))
  found_at kind (held_none e) h = absurd (omega arith)
  found_at kind {t} (held_more {tree} {rest} first others) h = go (eqb tree.kind kind) refl (λ k. found_at kind others k)
    where
      go : (b : Bool) → eqb tree.kind kind ≡ b → (index_of kind (kinds_of rest) < length rest → Lookup c nodes trees kind rest (suc t + index_of kind (kinds_of rest)))
          → Lookup c nodes trees kind (tree ∷ rest) (t + index_of kind (kinds_of (tree ∷ rest)))
      go true e later = moved (omega (arith, index_first kind tree rest e)) (record { tree = tree; is = tree_first kind tree rest e; held = first })
      go false e later =
          let l : Lookup c nodes trees kind rest (suc t + index_of kind (kinds_of rest)) = later (omega (arith, index_later kind tree rest e)) in
          moved (omega (arith, index_later kind tree rest e)) (record { tree = l.tree; is = tree_later kind tree rest e ∙ l.is; held = l.held })

-- A policy whose trees are held: its tree for a kind is the one that `tree_for` finds.
module _ (c nodes : List ℕ) (trees : Trees) (policy : List Tree) (held : AllHeld c nodes trees 0 policy)
    (few : trees.len ≤ 16) (kinds : length trees.kinds ≡ 16) (kind t : ℕ) (at : t ≡ index_of kind (take trees.len trees.kinds)) where
  at_kind : t ≡ index_of kind (kinds_of policy)
  at_kind = at ∙ ap (index_of kind) (held_kinds (omega arith) held)

  pub has_tree_lem : is_tree (tree_for kind policy) ≡ ltb t trees.len
  has_tree_lem =
      let n : length policy ≡ trees.len = omega (arith, held_length held) in
      tree_or_none kind policy ∙ rw (sym at_kind, n)

  -- Question 16 of an entry.
  pub entry_tree : (e : Entry) → e.kind ≡ kind → has_tree policy e ≡ ltb t trees.len
  unfolding has_tree
  entry_tree e p = rw p has_tree_lem

  pub lookup : t < trees.len → Lookup c nodes trees kind policy t
  lookup h = moved (omega (arith, at_kind)) (found_at kind held (omega (arith, at_kind, held_length held)))

  pub tree_rows : t < trees.len → (start end : ℕ) → start ≡ start_of trees t → end ≡ get_or trees.ends t 0 → TreeRows c nodes policy kind start end
  tree_rows here start end p q = go (lookup here)
    where
      go : Lookup c nodes trees kind policy t → TreeRows c nodes policy kind start end
      go l = record {
        root = l.tree.root;
        is = l.is;
        fits = omega (arith, l.held.low, l.held.high);
        rows = rw (p, q) l.held.rows;
      }

-- The rows of the kind's tree give to a path and a purpose what the policy grants them.
module _ (c nodes : List ℕ) (policy : List Tree) (kind start end : ℕ) (tree : TreeRows c nodes policy kind start end)
    (path rows : List ℕ) (given : rows ≡ givers_in c nodes path start (end - start)) where
  reached_root : reached_for policy kind path ≡ reached path tree.root
  unfolding reached_for reached_in
  reached_root = ap (reached_in path) tree.is

  pub path_reached_lem : every (λ g. member g (groups_at (reached_for policy kind path))) path ≡ every (λ row. ltb row 64) rows
  path_reached_lem = rw (reached_root, given) (sym (all_found c nodes path start (end - start) tree.root tree.fits tree.rows))

  -- Question 17 of an entry.
  pub entry_reached : (e : Entry) → e.kind ≡ kind → e.component.path ≡ path → path_reached policy e ≡ every (λ row. ltb row 64) rows
  unfolding path_reached
  entry_reached e of_kind_lem of_path = rw (of_kind_lem, of_path) path_reached_lem

  pub tree_gives : (purpose : ℕ) → Gives c nodes policy kind path purpose (granting_rows purpose nodes rows)
  unfolding flag_granted count_granted granting_to
  tree_gives purpose = record {
    flag = λ v o e f.
        rw (e, f, reached_root, given) (sym (flag_given_lem c nodes path start (end - start) tree.root tree.fits tree.rows purpose v));
    count = λ h o e f.
        rw (e, f, reached_root, given) (sym (counts_given c nodes path start (end - start) tree.root tree.fits tree.rows purpose h));
  }

-- Where the kind has no tree, nothing is granted, and no rows give nothing.
module _ (c nodes : List ℕ) where
  no_flag : (purpose v : ℕ) (path from : List ℕ)
      → any (λ g. has_bit v (given_by g []).map) from
      ≡ any (λ row. has_bit v (given_at c nodes row).map) (granting_rows purpose nodes (map (λ g. giver_in path g 0 0 []) from))
  unfolding any given_by giver_in given_at granting_row
  no_flag purpose v path [] = refl
  no_flag purpose v path (g ∷ from) = ap (λ (b : Bool). has_bit v 0 || b) (no_flag purpose v path from)

  no_count : (purpose h : ℕ) (path from : List ℕ) → joined h [] from ≡ joined_at h c nodes (granting_rows purpose nodes (map (λ g. giver_in path g 0 0 []) from))
  unfolding joined joined_at given_by giver_in given_at granting_row
  no_count purpose h path [] = refl
  no_count purpose h path (g ∷ from) = ap (λ (n : Count). listed h [] ⊕ n) (no_count purpose h path from)

  pub none_gives : (policy : List Tree) (kind : ℕ) (path rows : List ℕ) → is_tree (tree_for kind policy) ≡ false
      → rows ≡ givers_in c nodes path 0 0 → (purpose : ℕ) → Gives c nodes policy kind path purpose (granting_rows purpose nodes rows)
  unfolding is_tree flag_granted count_granted granting_to reached_for reached_in flats rising
  none_gives policy kind path rows e given purpose = go (tree_for kind policy) refl e
    where
      go : (root : Option Node) → tree_for kind policy ≡ root → is_tree root ≡ false → Gives c nodes policy kind path purpose (granting_rows purpose nodes rows)
      go (some root) is h = absurd (true≢false h)
      go nothing is h = record {
        flag = λ v o f g. rw (f, is, given) (no_flag purpose v path path);
        count = λ h o f g. rw (f, is, given) (no_count purpose h path path);
      }

-- The rows of the kind's tree, or none, give to a path and a purpose what the policy grants them.
pub span_gives : (c nodes : List ℕ) (trees : Trees) (policy : List Tree) → AllHeld c nodes trees 0 policy → trees.len ≤ 16 → length trees.kinds ≡ 16
    → (kind : ℕ) (path rows : List ℕ) → rows ≡ givers_in c nodes path (span_for trees kind).from ((span_for trees kind).to - (span_for trees kind).from)
    → (purpose : ℕ) → Gives c nodes policy kind path purpose (granting_rows purpose nodes rows)
unfolding span_for
span_gives c nodes trees policy held few kinds kind path rows given purpose = go (ltb t trees.len) refl given
  where
    t : ℕ
    t = index_of kind (take trees.len trees.kinds)

    span : Bool → Span
    span b = cond b (record { from = start_of trees t; to = get_or trees.ends t 0 }) (record { from = 0; to = 0 })

    go : (b : Bool) → ltb t trees.len ≡ b → rows ≡ givers_in c nodes path (span b).from ((span b).to - (span b).from)
        → Gives c nodes policy kind path purpose (granting_rows purpose nodes rows)
    go true e is =
        tree_gives c nodes policy kind (start_of trees t) (get_or trees.ends t 0)
        (tree_rows c nodes trees policy held few kinds kind t refl (ltb-true t trees.len e) (start_of trees t) (get_or trees.ends t 0) refl refl) path rows is purpose
    go false e is = none_gives c nodes policy kind path rows (has_tree_lem c nodes trees policy held few kinds kind t refl ∙ e) is purpose

-- The verdict on one permission of an entry.
module _ {c nodes : List ℕ} {policy : List Tree} {kind : ℕ} {path : List ℕ} {purpose : ℕ} {rows : List ℕ} (gives : Gives c nodes policy kind path purpose rows)
    (required : Required) (e : Entry) (of_kind_lem : e.kind ≡ kind) (of_path : e.component.path ≡ path) (of_purpose : e.component.purpose ≡ purpose) where
  pub on_reading : verdict_of policy required e reading ≡ flag reading (any (λ row. has_bit 1 (given_at c nodes row).map) rows)
  unfolding verdict_of
  on_reading = ap (flag reading) (rw of_kind_lem (gives.flag 1 e.component of_path of_purpose))

  pub on_writing : verdict_of policy required e writing ≡ flag writing (any (λ row. has_bit 2 (given_at c nodes row).map) rows)
  unfolding verdict_of
  on_writing = ap (flag writing) (rw of_kind_lem (gives.flag 2 e.component of_path of_purpose))

  pub on_accessing : verdict_of policy required e accessing ≡ flag accessing (any (λ row. has_bit 4 (given_at c nodes row).map) rows)
  unfolding verdict_of
  on_accessing = ap (flag accessing) (rw of_kind_lem (gives.flag 4 e.component of_path of_purpose))

  pub on_disclosing : (h : ℕ) → verdict_of policy required e (disclosing h) ≡ counts h (needed required e h) (joined_at h c nodes rows)
  unfolding verdict_of
  on_disclosing h = ap (counts h (needed required e h)) (rw of_kind_lem (gives.count h e.component of_path of_purpose))
