-- Questions 12 to 15 put to a whole policy, tree by tree: where the table holds the policy's trees, what the rows answer is what
-- the trees answer.
use Prim.Native.Nat.{ℕ, ◌+◌, ◌-◌, ◌<◌, ◌≤◌}
use mathlib.Core.Bool.{Bool, true, false, not, cond}
use mathlib.Core.List.{List, [], ◌∷◌, map, map-append}
use mathlib.Core.Path.{◌≡◌, refl, sym, ap, ◌∙◌}
use native.Mathlib.Numerals.{add-one}
use native.Mathlib.Omega.{arith}
use borrow.Author.Tests.{not-true, not-false, eq-eqb, ne_eqb, lt-ltb}
use lib.Dec.{eqb}
use lib.ListN.{length, take, drop, get_or, replicate}
use Rattle.std.specs.Prelude.{Option, None, Some}
use Rattle.std.specs.Option.{is_some}
use Rattle.reading.specs.Told.{numbered, failed_below}
use Rattle.reading.specs.declared.Question.{Question}
use Rattle.inference.specs.Lists.{every, gather}
use Rattle.policy.proofs.NodeLaws.{node_steps}
use Rattle.policy.proofs.RowLaws.{kinds_more, kinds_none}
use Rattle.wellformed.proofs.FlatLaws.{kept_flatten, met_flatten, low_flats}
use Rattle.wellformed.proofs.OrderLaws.{first_append, nodes_below}
use Rattle.policy.specs.Syntax.{Tree, alone}
use Rattle.policy.specs.WellFormed.{distinct, kinds_distinct, met_from, met_in, node_fault, first_fault, nodes_fault, all_keep, fenced}
use Rattle.policy.specs.Rows.{Flat, flats, flatten}
use Rattle.wellformed.specs.Rows.{heads_fault, all_kept}
use Rattle.policy.specs.Loads.{start_of, Holds, AllHeld, held_none, held_more, Bounded}
use Rattle.wellformed.specs.Faults.{failed, policy_fault}
use Rattle.wellformed.proofs.HeadSteps.{some_fails, none_fails}
use Rattle.policy.specs.declared.Trees.{Trees}
use Rattle.policy.specs.declared.Span.{Span}

-- The trees from the t-th on are as many as are left.
module _ (c nodes : List ℕ) (trees : Trees) where
  pub held_count : {t : ℕ} {rest : List Tree} → AllHeld c nodes trees t rest → t + length rest ≡ trees.len
  held_count (held_none e) = omega arith
  held_count (held_more {t} {tree} {rest} h k) = omega (arith, held_count k)

pub span_high : (trees : Trees) (t : ℕ) (s : Span) → Bounded trees → s.to ≡ get_or trees.ends t 0 → s.to ≤ 64
span_high trees t s h e = omega (arith, h.rows t)

-- What is said of all trees is what is said of the trees from the t-th on.
pub record Rest {A : Type 0} (of : List Tree → A) (c nodes : List ℕ) (trees : Trees) (t : ℕ) (policy : List Tree) : Type 0 where
  pub rest : List Tree
  pub held : AllHeld c nodes trees t rest
  pub same : of policy ≡ of rest

-- 13 and 14, and 15, of the trees from the t-th on.
pub record NodesLeft (c nodes : List ℕ) (trees : Trees) (t : ℕ) : Type 0 where
  pub left : (policy : List Tree) → AllHeld c nodes trees 0 policy → Rest nodes_fault c nodes trees t policy

pub record FencesLeft (c nodes : List ℕ) (trees : Trees) (t : ℕ) : Type 0 where
  pub left : (policy : List Tree) → AllHeld c nodes trees 0 policy → Rest fenced c nodes trees t policy

pub nodes_start : (c nodes : List ℕ) (trees : Trees) → NodesLeft c nodes trees 0
nodes_start c nodes trees = record { left = λ policy h. record { rest = policy; held = h; same = refl } }

pub fences_start : (c nodes : List ℕ) (trees : Trees) → FencesLeft c nodes trees 0
fences_start c nodes trees = record { left = λ policy h. record { rest = policy; held = h; same = refl } }

module _ (c nodes : List ℕ) (trees : Trees) (t : ℕ) where
  none_rest : (rest : List Tree) → trees.len ≤ t → AllHeld c nodes trees t rest → rest ≡ []
  none_rest [] h k = refl
  none_rest (tree ∷ rest) h k = absurd (omega (arith, held_count c nodes trees k))

  pub nodes_end : NodesLeft c nodes trees t → trees.len ≤ t → (policy : List Tree) → AllHeld c nodes trees 0 policy → None ≡ failed (nodes_fault policy)
  unfolding nodes_fault met_in gather first_fault failed
  nodes_end s h policy k = let r = s.left policy k in let z : nodes_fault r.rest ≡ 0 = rw (none_rest r.rest h r.held) in rw (r.same, z)

  pub fences_end : FencesLeft c nodes trees t → trees.len ≤ t → (policy : List Tree) → AllHeld c nodes trees 0 policy → true ≡ fenced policy
  unfolding fenced every
  fences_end s h policy k = let r = s.left policy k in rw (r.same, none_rest r.rest h r.held)

  -- The t-th tree's rows.
  module _ (h : t < trees.len) (s : Span) (f : s.from ≡ start_of trees t) (g : s.to ≡ get_or trees.ends t 0) where
    abbrev rows : List Flat
    rows = flats c nodes s.from (s.to - s.from)

    rows_are : (tree : Tree) → Holds c nodes trees t tree → rows ≡ flatten 0 (alone tree.root)
    rows_are tree k = rw (f, g) k.rows

    nodes_of : (tree : Tree) (rest : List Tree) → Holds c nodes trees t tree
        → nodes_fault (tree ∷ rest) ≡ cond (eqb (heads_fault (replicate 8 0) [] rows) 0) (nodes_fault rest) (heads_fault (replicate 8 0) [] rows)
    unfolding heads_fault nodes_fault met_in gather
    nodes_of tree rest k =
        rw (
          rows_are tree k,
          met_flatten (alone tree.root) (rw (rows_are tree k) at (low_flats c nodes s.from (s.to - s.from))),
          map-append node_fault (met_from [] [] (alone tree.root)) (met_in rest),
        )
        (first_append (map node_fault (met_from [] [] (alone tree.root))) (map node_fault (met_in rest)))

    module _ (p : NodesLeft c nodes trees t) (n : Option Question) (e : numbered n ≡ failed (heads_fault (replicate 8 0) [] rows)) where
      one_node : (policy all : List Tree) → AllHeld c nodes trees t all → nodes_fault policy ≡ nodes_fault all
          → (is_some n ≡ true → numbered n ≡ failed (nodes_fault policy)) × (is_some n ≡ false → Rest nodes_fault c nodes trees (t + 1) policy)
      one_node policy all (held_none i) k = absurd (omega arith)
      one_node policy all (held_more {t} {tree} {rest} i j) k = (
        (λ l. rw (k, nodes_of tree rest i, ne_eqb (heads_fault (replicate 8 0) [] rows) 0 (some_fails n (heads_fault (replicate 8 0) [] rows) e l)) e),
        (λ l. record {
          rest = rest;
          held = rw (add-one t) j;
          same = k ∙ nodes_of tree rest i ∙ rw (eq-eqb (heads_fault (replicate 8 0) [] rows) 0 (none_fails n (heads_fault (replicate 8 0) [] rows) e l));
        }),
      )

      pub node_fails : (d : Bool) → d ≡ is_some n → d ≡ true → (policy : List Tree) → AllHeld c nodes trees 0 policy → numbered n ≡ failed (nodes_fault policy)
      node_fails d o i policy k = let r = p.left policy k in (one_node policy r.rest r.held r.same).0 (sym o ∙ i)

      pub nodes_next : (d : Bool) → d ≡ is_some n → d ≡ false → NodesLeft c nodes trees (t + 1)
      nodes_next d o i = record { left = λ policy k. let r = p.left policy k in (one_node policy r.rest r.held r.same).1 (sym o ∙ i) }

    module _ (p : FencesLeft c nodes trees t) (b : Bool) (e : b ≡ all_kept rows) where
      one_fence : (policy all : List Tree) → AllHeld c nodes trees t all → fenced policy ≡ fenced all
          → (not b ≡ true → false ≡ fenced policy) × (not b ≡ false → Rest fenced c nodes trees (t + 1) policy)
      unfolding fenced every
      one_fence policy all (held_none i) k = absurd (omega arith)
      one_fence policy all (held_more {t} {tree} {rest} i j) k =
          let z : all_keep (alone tree.root) ≡ b = sym (e ∙ ap all_kept (rows_are tree i) ∙ kept_flatten 0 (alone tree.root)) in
          ((λ l. sym (rw (z, not-true b l) at k)), (λ l. record { rest = rest; held = rw (add-one t) j; same = rw (z, not-false b l) at k }))

      pub fence_fails : not b ≡ true → (policy : List Tree) → AllHeld c nodes trees 0 policy → false ≡ fenced policy
      fence_fails i policy k = let r = p.left policy k in (one_fence policy r.rest r.held r.same).0 i

      pub fences_next : not b ≡ false → FencesLeft c nodes trees (t + 1)
      fences_next i = record { left = λ policy k. let r = p.left policy k in (one_fence policy r.rest r.held r.same).1 i }

pub ruleset node_pass_steps = (node_steps, span_high, nodes_start, nodes_end, node_fails, nodes_next)

pub ruleset fence_pass_steps = (node_steps, span_high, fences_start, fences_end, fence_fails, fences_next)

-- What the kinds in the table are.
module _ (c nodes : List ℕ) (trees : Trees) where
  pub kinds_held : {t : ℕ} {policy : List Tree} → length trees.kinds ≡ 16 → trees.len ≤ 16 → AllHeld c nodes trees t policy
      → drop t (take trees.len trees.kinds) ≡ map (λ x. x.kind) policy
  kinds_held l few (held_none {t} e) = kinds_none trees.kinds trees.len t (omega arith)
  kinds_held l few (held_more {t} {tree} {rest} h k) =
      rw (kinds_more trees.kinds trees.len t l few (omega (arith, held_count c nodes trees k)), h.kind, add-one t, kinds_held l few k)

-- The first question that a policy fails.
module _ (c nodes : List ℕ) (trees : Trees) (h : Bounded trees) (l : length trees.kinds ≡ 16) (d : Bool)
    (e : d ≡ distinct (take trees.len trees.kinds)) where
  kinds_are : (policy : List Tree) → AllHeld c nodes trees 0 policy → kinds_distinct policy ≡ d
  unfolding kinds_distinct
  kinds_are policy k = sym (rw (kinds_held c nodes trees l h.few k) at e)

  pub fails_12 : not d ≡ true → (policy : List Tree) → AllHeld c nodes trees 0 policy → Some 12 ≡ failed_below 16 (policy_fault policy)
  unfolding policy_fault failed_below
  fails_12 i policy k = rw (kinds_are policy k, not-true d i)

  module _ (i : not d ≡ false) (n : Option Question) (f : (policy : List Tree) → AllHeld c nodes trees 0 policy → numbered n ≡ failed (nodes_fault policy)) where
    pub fails_nodes : (o : Bool) → o ≡ is_some n → o ≡ true → (policy : List Tree) → AllHeld c nodes trees 0 policy → numbered n ≡ failed_below 16 (policy_fault policy)
    unfolding policy_fault failed_below failed
    fails_nodes o x j policy k =
        let z = ne_eqb (nodes_fault policy) 0 (some_fails n (nodes_fault policy) (f policy k) (sym x ∙ j)) in
        let y : nodes_fault policy < 16 = omega (arith, nodes_below policy) in
        rw (kinds_are policy k, not-false d i, z, lt-ltb (nodes_fault policy) 16 y) (rw z at (f policy k))

    module _ (o : Bool) (x : o ≡ is_some n) (j : o ≡ false) (b : Bool) (g : (policy : List Tree) → AllHeld c nodes trees 0 policy → b ≡ fenced policy) where
      decided : (policy : List Tree) → AllHeld c nodes trees 0 policy → policy_fault policy ≡ cond b 16 15
      unfolding policy_fault
      decided policy k = rw (kinds_are policy k, not-false d i, eq-eqb (nodes_fault policy) 0 (none_fails n (nodes_fault policy) (f policy k) (sym x ∙ j)), g policy k)

      pub fails_15 : b ≡ false → (policy : List Tree) → AllHeld c nodes trees 0 policy → Some 15 ≡ failed_below 16 (policy_fault policy)
      unfolding failed_below
      fails_15 y policy k = rw (decided policy k, y)

      pub fails_none : b ≡ true → (policy : List Tree) → AllHeld c nodes trees 0 policy → None ≡ failed_below 16 (policy_fault policy)
      unfolding failed_below
      fails_none y policy k = rw (decided policy k, y)

pub ruleset fault_steps = (node_steps, fails_12, fails_nodes, fails_15, fails_none)
