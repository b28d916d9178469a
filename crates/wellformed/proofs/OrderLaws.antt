-- Document 02, Q-2: taking the nodes one after another changes the number of a policy's fault, never whether it has one. No node of a
-- policy fails 13 or 14 exactly where the policy passes 13 and passes 14, each put to the whole as document 01 has it. For 14 the
-- pairs of an earlier and a later node are the same pairs, told off from either side.
use Prim.Native.Nat.{ℕ, ◌≤◌}
use mathlib.Core.Bool.{Bool, true, false, cond, ◌&&◌, ◌||◌, and_assoc, or_assoc, or_comm, or-false}
use mathlib.Core.List.{List, [], ◌∷◌, ◌++◌, map, append_assoc, append-nil}
use mathlib.Core.Path.{◌≡◌, refl, sym, ap, ap₂, ◌∙◌}
use native.Mathlib.Omega.{arith}
use lib.Dec.{eqb}
use Rattle.reading.specs.Forms.{member}
use Rattle.inference.specs.Lists.{every, gather}
use Rattle.inference.proofs.EveryLaws.{every_append, every_pair, every_none}
use Rattle.policy.specs.Syntax.{Nodes, none, more, Head, heads_of, heads, Tree, alone}
use Rattle.policy.specs.WellFormed.{new_below, none_above, agree, all_agree, same_heads, Met, met_from, met_in, is_new, is_same, fault_of, node_fault, first_fault, nodes_fault}

-- 13: only which groups stand above a node matters.
member_append : (x : ℕ) (l m : List ℕ) → member x (l ++ m) ≡ (member x l || member x m)
unfolding member
member_append x [] m = refl
member_append x (y ∷ l) m = rw (member_append x l m, or_assoc (eqb y x) (member x l) (member x m))

member_end : (x g : ℕ) (l : List ℕ) → member x (l ++ (g ∷ [])) ≡ member x (g ∷ l)
unfolding member
member_end x g l = rw (member_append x l (g ∷ []), or-false (eqb g x), or_comm (member x l) (eqb g x))

new_nodes : (a b : List ℕ) (earlier : List Head) (ns : Nodes) → ((x : ℕ) → member x a ≡ member x b) → every is_new (met_from a earlier ns) ≡ new_below b ns
unfolding every is_new met_from new_below
new_nodes a b earlier none h = refl
new_nodes a b earlier (more g p below rest) h =
    rw (
      every_append is_new (met_from (a ++ (g ∷ [])) (earlier ++ (record { group = g; permissions = p } ∷ [])) below)
          (met_from a (earlier ++ (record { group = g; permissions = p } ∷ heads_of below)) rest),
      h g,
      new_nodes (a ++ (g ∷ [])) (g ∷ b) (earlier ++ (record { group = g; permissions = p } ∷ [])) below
          (λ x. member_end x g a ∙ unfold member in ap (λ (t : Bool). eqb g x || t) (h x)),
      new_nodes a b (earlier ++ (record { group = g; permissions = p } ∷ heads_of below)) rest h,
    )

-- 14: each node agrees with the nodes before it.
unfoldable all_same : List Head → List Head → Bool
all_same earlier [] = true
all_same earlier (h ∷ later) = every (λ e. agree e h) earlier && all_same (earlier ++ (h ∷ [])) later

same_append : (earlier xs ys : List Head) → all_same earlier (xs ++ ys) ≡ (all_same earlier xs && all_same (earlier ++ xs) ys)
unfolding all_same
same_append earlier [] ys = rw (append-nil earlier)
same_append earlier (x ∷ xs) ys =
    rw (same_append (earlier ++ (x ∷ [])) xs ys, append_assoc earlier (x ∷ []) xs)
    (sym (and_assoc (every (λ e. agree e x) earlier) (all_same (earlier ++ (x ∷ [])) xs) (all_same (earlier ++ (x ∷ xs)) ys)))

same_nodes : (above : List ℕ) (earlier : List Head) (ns : Nodes) → every is_same (met_from above earlier ns) ≡ all_same earlier (heads_of ns)
unfolding every is_same met_from all_same heads_of
same_nodes above earlier none = refl
same_nodes above earlier (more g p below rest) =
    let head : Head = record { group = g; permissions = p } in
    rw (
      every_append is_same (met_from (above ++ (g ∷ [])) (earlier ++ (head ∷ [])) below) (met_from above (earlier ++ (head ∷ heads_of below)) rest),
      same_nodes (above ++ (g ∷ [])) (earlier ++ (head ∷ [])) below,
      same_nodes above (earlier ++ (head ∷ heads_of below)) rest,
      same_append (earlier ++ (head ∷ [])) (heads_of below) (heads_of rest),
      append_assoc earlier (head ∷ []) (heads_of below),
    )

-- The same pairs: each node agrees with those before it, or each with those after it.
same_pairs : (earlier hs : List Head) → all_same earlier hs ≡ (every (λ e. every (agree e) hs) earlier && all_agree hs)
unfolding all_same all_agree every
same_pairs earlier [] = rw (every_none agree earlier)
same_pairs earlier (h ∷ hs) =
    rw (same_pairs (earlier ++ (h ∷ [])) hs, every_append (λ e. every (agree e) hs) earlier (h ∷ []), every_pair (λ e. agree e h) (λ e. every (agree e) hs) earlier)
    (regrouped (every (λ e. agree e h) earlier) (every (λ e. every (agree e) hs) earlier) (every (agree h) hs) (all_agree hs))
  where
    regrouped : (a b c d : Bool) → (a && ((b && (c && true)) && d)) ≡ ((a && b) && (c && d))
    regrouped true true true d = refl
    regrouped true true false d = refl
    regrouped true false c d = refl
    regrouped false b c d = refl

-- The first fault is 0 where no node fails, and never above 14.
no_fault : (ms : List Met) → eqb (first_fault (map node_fault ms)) 0 ≡ (every is_new ms && every is_same ms)
unfolding first_fault node_fault fault_of every
no_fault [] = refl
no_fault (m ∷ ms) = go (is_same m) (is_new m) (every is_new ms) (every is_same ms) (no_fault ms)
  where
    go : (a b c d : Bool) → eqb (first_fault (map node_fault ms)) 0 ≡ (c && d)
        → eqb (cond (eqb (fault_of a b) 0) (first_fault (map node_fault ms)) (fault_of a b)) 0 ≡ ((b && c) && (a && d))
    go true true c d h = h
    go true false c d h = refl
    go false true true d h = refl
    go false true false d h = refl
    go false false c d h = refl

most_14 : (ms : List Met) → first_fault (map node_fault ms) ≤ 14
unfolding first_fault node_fault fault_of
most_14 [] = omega arith
most_14 (m ∷ ms) = go (is_same m) (is_new m) (most_14 ms)
  where
    go : (a b : Bool) → first_fault (map node_fault ms) ≤ 14 → cond (eqb (fault_of a b) 0) (first_fault (map node_fault ms)) (fault_of a b) ≤ 14
    go true true h = h
    go true false h = omega arith
    go false b h = omega arith

-- The first fault of two lists.
pub first_append : (l m : List ℕ) → first_fault (l ++ m) ≡ cond (eqb (first_fault l) 0) (first_fault m) (first_fault l)
unfolding first_fault
first_append [] m = refl
first_append (n ∷ l) m = go (eqb n 0) refl (first_append l m)
  where
    go : (b : Bool) → eqb n 0 ≡ b → first_fault (l ++ m) ≡ cond (eqb (first_fault l) 0) (first_fault m) (first_fault l)
        → cond b (first_fault (l ++ m)) n ≡ cond (eqb (cond b (first_fault l) n) 0) (first_fault m) (cond b (first_fault l) n)
    go true e h = h
    go false e h = rw e

pub nodes_below : (policy : List Tree) → nodes_fault policy ≤ 14
unfolding nodes_fault
nodes_below policy = most_14 (met_in policy)

-- Tree after tree.
new_policy : (policy : List Tree) → every is_new (met_in policy) ≡ none_above policy
unfolding every met_in gather none_above
new_policy [] = refl
new_policy (t ∷ rest) =
    every_append is_new (met_from [] [] (alone t.root)) (met_in rest)
    ∙ ap₂ ◌&&◌ (new_nodes [] [] [] (alone t.root) (λ x. refl)) (new_policy rest)

same_policy : (policy : List Tree) → every is_same (met_in policy) ≡ same_heads policy
unfolding every met_in gather same_heads heads
same_policy [] = refl
same_policy (t ∷ rest) =
    every_append is_same (met_from [] [] (alone t.root)) (met_in rest)
    ∙ ap₂ ◌&&◌ (same_nodes [] [] (alone t.root) ∙ same_pairs [] (heads_of (alone t.root))) (same_policy rest)

-- A policy passes the new order exactly where it passed 13 and 14.
pub nodes_pass : (policy : List Tree) → eqb (nodes_fault policy) 0 ≡ (none_above policy && same_heads policy)
unfolding nodes_fault
nodes_pass policy = no_fault (met_in policy) ∙ ap₂ ◌&&◌ (new_policy policy) (same_policy policy)
