-- Each tree of A beside B's for its kind: what the tables hold decides as the trees do.
use Prim.Native.Nat.{ℕ, ◌+◌, ◌-◌, ◌<◌, ◌≤◌}
use mathlib.Core.Bool.{Bool, true, false, not, cond}
use mathlib.Core.List.{List, [], ◌∷◌}
use mathlib.Core.Option.{Option, some, none as nothing}
use mathlib.Core.Path.{◌≡◌, refl, sym, ap, ◌∙◌}
use native.Mathlib.Numerals.{add-one}
use native.Mathlib.Omega.{arith}
use borrow.Author.Tests.{not-true, not-false, ltb-true}
use lib.Dec.{ltb}
use lib.ListN.{length, take, get_or}
use Rattle.inference.specs.Lists.{every}
use Rattle.policy.proofs.NodeLaws.{node_steps}
use Rattle.policy.specs.Syntax.{Node, Tree, alone}
use Rattle.policy.specs.Rows.{flats, flatten}
use Rattle.policy.specs.Loads.{start_of, AllHeld, held_none, held_more, Bounded}
use Rattle.policy.specs.declared.Span.{Span}
use Rattle.policy.specs.declared.Trees.{Trees}
use Rattle.wellformed.proofs.PassSteps.{held_count, span_high}
use Rattle.std.specs.Prelude.{Option as Answer, None, Some}
use Rattle.fit.specs.Givers.{index_of}
use Rattle.fit.specs.Covers.{tree_rows_of}
use Rattle.fit.specs.Grants.{tree_for}
use Rattle.fit.specs.Satisfies.{is_tree}
use Rattle.fit.proofs.GrantTrees.{has_tree_lem, tree_rows}
use Rattle.comparing.specs.Rows.{rows_within, root_within, trees_within}

-- Whether all trees of A are within B's is whether those from the t-th on are.
pub record Rest (a nodes : List ℕ) (trees : Trees) (p q : List Tree) (t : ℕ) : Type 0 where
  pub rest : List Tree
  pub held : AllHeld a nodes trees t rest
  pub same : trees_within p q ≡ trees_within rest q

pub record TreesLeft (a nodes : List ℕ) (trees : Trees) (b others : List ℕ) (choice : Trees) (t : ℕ) : Type 0 where
  pub left : (p q : List Tree) → AllHeld a nodes trees 0 p → AllHeld b others choice 0 q → Rest a nodes trees p q t

pub trees_start : (a nodes : List ℕ) (trees : Trees) (b others : List ℕ) (choice : Trees) → TreesLeft a nodes trees b others choice 0
trees_start a nodes trees b others choice = record { left = λ p q h k. record { rest = p; held = h; same = refl } }

-- B's tree for a kind.
no_tree : (root : Node) (other : Option Node) → is_tree other ≡ false → root_within root other ≡ false
unfolding is_tree root_within
no_tree root nothing e = refl
no_tree root (some other) e = let z : ◌≡◌ {A = ℕ} 0 1 = cc in absurd (omega arith)

module _ (a nodes : List ℕ) (trees : Trees) (b others : List ℕ) (choice : Trees) (t : ℕ) where
  -- The t-th tree, whose answer is known, and those after it.
  one_more : (answer : Bool) {p q rest : List Tree} → t < trees.len → AllHeld a nodes trees t rest → trees_within p q ≡ trees_within rest q
      → ((tree : Tree) → get_or trees.kinds t 0 ≡ tree.kind
      → flats a nodes (start_of trees t) (get_or trees.ends t 0 - start_of trees t) ≡ flatten 0 (alone tree.root)
      → root_within tree.root (tree_for tree.kind q) ≡ answer)
      → (answer ≡ true → Rest a nodes trees p q (t + 1)) × (answer ≡ false → false ≡ trees_within p q)
  unfolding trees_within every
  one_more answer h (held_none e) s is = absurd (omega arith)
  one_more answer h (held_more {t} {tree} {rest} k l) s is =
      let z = is tree k.kind k.rows in
      ((λ y. record { rest = rest; held = rw (add-one t) l; same = rw (z, y) at s }), (λ y. sym (rw (z, y) at s)))

  passed_all : (p q rest : List Tree) → trees.len ≤ t → AllHeld a nodes trees t rest → trees_within p q ≡ trees_within rest q → true ≡ trees_within p q
  unfolding trees_within every
  passed_all p q [] h k e = sym e
  passed_all p q (tree ∷ rest) h k e = absurd (omega (arith, held_count a nodes trees k))

  module _ (s : TreesLeft a nodes trees b others choice t) where
    abbrev Decided : Bool → Type 0
    Decided answer = (p q : List Tree) → AllHeld a nodes trees 0 p → AllHeld b others choice 0 q → answer ≡ trees_within p q

    pub trees_end : trees.len ≤ t → Decided true
    trees_end h p q k l = let r = s.left p q k l in passed_all p q r.rest h r.held r.same

    module _ (h : t < trees.len) (bounded : Bounded choice) (kinds : length choice.kinds ≡ 16) (kind : ℕ) (its : kind ≡ get_or trees.kinds t 0) where
      abbrev place : ℕ
      place = index_of kind (take choice.len choice.kinds)

      pub tree_absent : None ≡ tree_rows_of choice kind → Decided false
      unfolding tree_rows_of
      tree_absent e p q i j =
          let r = s.left p q i j in
          let k : ltb place choice.len ≡ false = go (ltb place choice.len) e in
          (one_more false h r.held r.same (λ tree of_kind_lem rows.
          no_tree tree.root (tree_for tree.kind q)
          (rw (← of_kind_lem, ← its) (has_tree_lem b others choice q j bounded.few kinds kind place refl ∙ k)))).1 refl
        where
          go : (d : Bool) → ◌≡◌ {A = Answer Span} None (cond d (Some (record { from = start_of choice place; to = get_or choice.ends place 0 })) None) → d ≡ false
          go true e = let z : ◌≡◌ {A = ℕ} 0 1 = cc in absurd (omega arith)
          go false e = refl

      module _ (n : Span) (found : Some n ≡ tree_rows_of choice kind) (m : Span) (from : m.from ≡ start_of trees t) (to : m.to ≡ get_or trees.ends t 0)
          (answer : Bool) (rows_say : answer ≡ rows_within (flats a nodes m.from (m.to - m.from)) (flats b others n.from (n.to - n.from))) where
        record Here : Type 0 where
          below : ltb place choice.len ≡ true
          start : n.from ≡ start_of choice place
          end : n.to ≡ get_or choice.ends place 0

        here : Here
        unfolding tree_rows_of
        here = go (ltb place choice.len) refl found
          where
            go : (d : Bool) → ltb place choice.len ≡ d → Some n ≡ cond d (Some (record { from = start_of choice place; to = get_or choice.ends place 0 })) None → Here
            go true k e =
                let same : n ≡ record { from = start_of choice place; to = get_or choice.ends place 0 } = cc in
                record { below = k; start = ap (λ (x : Span). x.from) same; end = ap (λ (x : Span). x.to) same }
            go false k e = let z : ◌≡◌ {A = ℕ} 0 1 = cc in absurd (omega arith)

        of_tree : (q : List Tree) → AllHeld b others choice 0 q → (tree : Tree) → get_or trees.kinds t 0 ≡ tree.kind
            → flats a nodes (start_of trees t) (get_or trees.ends t 0 - start_of trees t) ≡ flatten 0 (alone tree.root)
            → root_within tree.root (tree_for tree.kind q) ≡ answer
        unfolding root_within
        of_tree q j tree of_kind_lem rows =
            let other = tree_rows b others choice q j bounded.few kinds kind place refl (ltb-true place choice.len here.below) n.from n.to here.start here.end in
            rw (← of_kind_lem, ← its, other.is, ← other.rows, ← rows, ← from, ← to) (sym rows_say)

        pub trees_differ : not answer ≡ true → Decided false
        trees_differ y p q i j = let r = s.left p q i j in (one_more answer h r.held r.same (of_tree q j)).1 (not-true answer y)

        pub trees_next : not answer ≡ false → TreesLeft a nodes trees b others choice (t + 1)
        trees_next y = record { left = λ p q i j. let r = s.left p q i j in (one_more answer h r.held r.same (of_tree q j)).0 (not-false answer y) }

pub ruleset tree_steps = (node_steps, span_high, trees_start, trees_end, tree_absent, trees_differ, trees_next)
