-- A lowered policy passes 12 to 15 where the policy does: kinds and groups stay (12, 13), what was the same of two nodes of one group is lowered
-- alike (14), and behind a fence, which stays, nodes disclose to no more groups than before (15).
use Prim.Native.Nat.{ℕ}
use mathlib.Core.Bool.{Bool, true, false, not, ◌&&◌, ◌||◌}
use mathlib.Core.List.{List, [], ◌∷◌, map}
use mathlib.Core.Path.{◌≡◌, refl, sym, ap, ap₂, ◌∙◌}
use lib.Dec.{eqb}
use borrow.Author.Tests.{eqb-true, eq-eqb}
use Rattle.reading.specs.Forms.{member}
use Rattle.reading.proofs.FormLaws.{both_true}
use Rattle.inference.specs.Lists.{every, gather}
use Rattle.policy.specs.Syntax.{Granted, Permissions, Nodes, none, more, Node, Tree, Head, heads_of, heads, alone, has_bit}
use Rattle.policy.specs.WellFormed.{distinct, kinds_distinct, new_below, none_above, same_list, same_permissions, agree, all_agree, same_heads, disclosed_to, groups_at, keeps_within, all_keep, fenced}
use Rattle.wellformed.proofs.AgreeSteps.{permissions_equal}
use Rattle.inference.proofs.EveryLaws.{every_append}
use Rattle.service.proofs.PassedLaws.{Formed}
use Rattle.trimming.specs.Trim.{lower_at, lower_nodes, lower_node, lower_tree, lower}
use Rattle.trimming.proofs.TestLaws.{cond_ind, and_both}
use Rattle.trimming.proofs.LowerLaws.{low_8, bit_kept, groups_fewer, lower_head, heads_lowered, groups_lowered}

-- Permissions are the same as themselves.
same_self : (l : List Granted) → same_list l l ≡ true
unfolding same_list
same_self [] = refl
same_self (d ∷ l) = rw (eq-eqb d.group d.group refl, eq-eqb d.count d.count refl, same_self l)

permissions_self : (p q : Permissions) → p ≡ q → same_permissions p q ≡ true
unfolding same_permissions
permissions_self p q e = rw (e, eq-eqb q.map q.map refl, same_self q.list, eq-eqb q.purposes q.purposes refl)

module _ (g h by : ℕ) where
  -- 13
  new_lowered : (above : List ℕ) (ns : Nodes) → new_below above (lower_nodes g h by ns) ≡ new_below above ns
  unfolding new_below lower_nodes
  new_lowered above none = refl
  new_lowered above (more n p below rest) = rw (new_lowered (n ∷ above) below, new_lowered above rest)

  -- 14
  agree_lowered : (a b : Head) → agree a b ≡ true → agree (lower_head g h by a) (lower_head g h by b) ≡ true
  unfolding agree lower_head
  agree_lowered a b e = go (eqb a.group b.group) refl e
    where
      go : (t : Bool) → eqb a.group b.group ≡ t → (not t || same_permissions a.permissions b.permissions) ≡ true
          → (not t || same_permissions (lower_at g h by a.group a.permissions) (lower_at g h by b.group b.permissions)) ≡ true
      go true q k =
          permissions_self (lower_at g h by a.group a.permissions) (lower_at g h by b.group b.permissions)
          (ap₂ (lower_at g h by) (eqb-true a.group b.group q) (permissions_equal a.permissions b.permissions k))
      go false q k = refl

  one_agrees : (a : Head) (hs : List Head) → every (agree a) hs ≡ true → every (agree (lower_head g h by a)) (map (lower_head g h by) hs) ≡ true
  unfolding every
  one_agrees a [] e = refl
  one_agrees a (b ∷ hs) e =
      let o = both_true (agree a b) (every (agree a) hs) e in
      rw (agree_lowered a b o.0, one_agrees a hs o.1)

  all_agree_lem : (hs : List Head) → all_agree hs ≡ true → all_agree (map (lower_head g h by) hs) ≡ true
  unfolding all_agree
  all_agree_lem [] e = refl
  all_agree_lem (a ∷ hs) e =
      let o = both_true (every (agree a) hs) (all_agree hs) e in
      rw (one_agrees a hs o.0, all_agree_lem hs o.1)

  -- 15
  disclosed_fewer : (q : ℕ → Bool) (hs : List Head) → every q (disclosed_to hs) ≡ true → every q (disclosed_to (map (lower_head g h by) hs)) ≡ true
  unfolding disclosed_to gather lower_head
  disclosed_fewer q [] e = e
  disclosed_fewer q (a ∷ hs) e =
      let o = both_true (every q (map (λ d. d.group) a.permissions.list)) (every q (disclosed_to hs)) (sym (every_append q _ (disclosed_to hs)) ∙ e) in
      every_append q _ (disclosed_to (map (lower_head g h by) hs))
      ∙ and_both _ _ (groups_fewer q g h by a.group a.permissions o.0) (disclosed_fewer q hs o.1)

  within_lowered : (n : ℕ) (p : Permissions) (below : Nodes) → keeps_within n p below ≡ true → keeps_within n (lower_at g h by n p) (lower_nodes g h by below) ≡ true
  unfolding keeps_within
  within_lowered n p below e =
      rw (bit_kept 8 low_8 g h by n p, heads_lowered g h by below, groups_lowered g h by (heads_of below)) (go (has_bit 8 p.map) e)
    where
      go : (b : Bool) → (not b || every (λ x. member x (n ∷ groups_at (heads_of below))) (disclosed_to (heads_of below))) ≡ true
          → (not b || every (λ x. member x (n ∷ groups_at (heads_of below))) (disclosed_to (map (lower_head g h by) (heads_of below)))) ≡ true
      go true k = disclosed_fewer (λ x. member x (n ∷ groups_at (heads_of below))) (heads_of below) k
      go false k = refl

  all_keep_lem : (ns : Nodes) → all_keep ns ≡ true → all_keep (lower_nodes g h by ns) ≡ true
  unfolding all_keep lower_nodes
  all_keep_lem none e = refl
  all_keep_lem (more n p below rest) e =
      let o = both_true (keeps_within n p below) (all_keep below && all_keep rest) e in
      let r = both_true (all_keep below) (all_keep rest) o.1 in
      rw (within_lowered n p below o.0, all_keep_lem below r.0, all_keep_lem rest r.1)

  module _ (kind : ℕ) where
    -- 12
    kinds_lowered : (policy : List Tree) → map (λ t. t.kind) (lower kind g h by policy) ≡ map (λ t. t.kind) policy
    unfolding lower lower_tree
    kinds_lowered [] = refl
    kinds_lowered (t ∷ policy) = ap (λ (l : List ℕ). t.kind ∷ l) (kinds_lowered policy)

    -- What is true of each tree's root, if lowering the root keeps it true.
    roots_kept : (q : Node → Bool) → ((n : Node) → q n ≡ true → q (lower_node g h by n) ≡ true) → (policy : List Tree) → every (λ t. q t.root) policy ≡ true
        → every (λ t. q t.root) (lower kind g h by policy) ≡ true
    unfolding every lower lower_tree
    roots_kept q keep [] e = refl
    roots_kept q keep (t ∷ policy) e =
        let o = both_true (q t.root) (every (λ u. q u.root) policy) e in
        and_both _ _ (cond_ind (λ n. q n ≡ true) (eqb t.kind kind) (lower_node g h by t.root) t.root (λ f. keep t.root o.0) (λ f. o.0)) (roots_kept q keep policy o.1)

    pub formed_lowered : (policy : List Tree) → Formed policy → Formed (lower kind g h by policy)
    unfolding kinds_distinct none_above same_heads fenced heads alone lower_node lower_nodes
    formed_lowered policy f = record {
      kinds = ap distinct (kinds_lowered policy) ∙ f.kinds;
      above = roots_kept (λ n. new_below [] (alone n)) (λ n e. new_lowered [] (alone n) ∙ e) policy f.above;
      heads = roots_kept (λ n. all_agree (heads n)) (λ n e. ap all_agree (heads_lowered g h by (alone n)) ∙ all_agree_lem (heads n) e) policy f.heads;
      fences = roots_kept (λ n. all_keep (alone n)) (λ n e. all_keep_lem (alone n) e) policy f.fences;
    }
