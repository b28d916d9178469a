-- What a lowered policy grants: the same trees and nodes are reached, with the same flags; a count is the same where the kind, the group in the
-- path or the group disclosed to is another, and else it is what it was less what is taken away, since no group stands in a path twice.
use Prim.Native.Nat.{ℕ}
use mathlib.Core.Bool.{Bool, true, false, cond, not, ◌&&◌, ◌||◌}
use mathlib.Core.List.{List, [], ◌∷◌, ◌++◌, map, map-append}
use mathlib.Core.Option.{some}
use mathlib.Core.Path.{◌≡◌, refl, sym, ap, ap₂, ◌∙◌}
use native.Mathlib.Omega.{arith}
use lib.Dec.{eqb}
use borrow.Author.Tests.{eqb-true, eqb-false, eq-eqb, not-true}
use Rattle.reading.specs.Forms.{member}
use Rattle.reading.proofs.FormLaws.{both_true}
use Rattle.inference.specs.Acts.{Component}
use Rattle.inference.specs.Lists.{every, any}
use Rattle.inference.specs.Counts.{fin, ◌⊕◌, at_most}
use Rattle.inference.specs.Interface.{Entry, is_empty}
use Rattle.inference.proofs.CountLaws.{join_comm, join_assoc, at_most_self, join_mono}
use Rattle.policy.specs.Syntax.{Permissions, Nodes, none, more, Node, Tree, Head, alone, has_bit, bit_at}
use Rattle.policy.specs.WellFormed.{distinct, groups_at}
use Rattle.fit.specs.Grants.{reached_among, reached, tree_for, reached_in, reached_for, no_permissions, only_for, for_purpose, granting_to, given_by, flag_granted, listed, joined, count_granted}
use Rattle.fit.specs.Satisfies.{is_tree, has_tree, path_reached}
use Rattle.trimming.specs.Trim.{lower_list, without_list, map_for, lower_permissions, lower_at, lower_nodes, lower_node, lower_tree, lower}
use Rattle.trimming.proofs.TestLaws.{cond_ind}
use Rattle.trimming.proofs.LowerLaws.{Low, bit_kept, kept_within, other_listed, listed_kept, lower_head, groups_lowered}

module _ (g h by : ℕ) where
  -- The same nodes are reached.
  reached_lowered : (path : List ℕ) (ns : Nodes) → reached_among path (lower_nodes g h by ns) ≡ map (lower_head g h by) (reached_among path ns)
  unfolding reached_among lower_nodes lower_head
  reached_lowered path none = refl
  reached_lowered path (more n p below rest) =
      ap₂ ◌++◌ (go (member n path) (reached_lowered path below)) (reached_lowered path rest)
      ∙ sym (map-append (lower_head g h by) (cond (member n path) (record { group = n; permissions = p } ∷ reached_among path below) []) (reached_among path rest))
    where
      go : (b : Bool) → reached_among path (lower_nodes g h by below) ≡ map (lower_head g h by) (reached_among path below)
          → cond b (record { group = n; permissions = lower_at g h by n p } ∷ reached_among path (lower_nodes g h by below)) []
          ≡ map (lower_head g h by) (cond b (record { group = n; permissions = p } ∷ reached_among path below) [])
      go true e = ap (λ (l : List Head). record { group = n; permissions = lower_at g h by n p } ∷ l) e
      go false e = refl

  -- A group gives what its node gives, lowered; a group at no reached node gives nothing.
  nothing_lowered : no_permissions ≡ lower_permissions h by no_permissions
  unfolding lower_permissions map_for without_list has_bit is_empty lower_list
  nothing_lowered = refl

  given_lowered : (n : ℕ) (hs : List Head) → given_by n (map (lower_head g h by) hs) ≡ lower_at g h by n (given_by n hs)
  unfolding given_by lower_head lower_at
  given_lowered n [] =
      cond_ind (λ (p : Permissions). no_permissions ≡ p) (eqb n g) (lower_permissions h by no_permissions) no_permissions (λ e. nothing_lowered) (λ e. refl)
  given_lowered n (a ∷ hs) = go (eqb a.group n) refl (given_lowered n hs)
    where
      go : (b : Bool) → eqb a.group n ≡ b → given_by n (map (lower_head g h by) hs) ≡ lower_at g h by n (given_by n hs)
          → cond b (lower_at g h by a.group a.permissions) (given_by n (map (lower_head g h by) hs)) ≡ lower_at g h by n (cond b a.permissions (given_by n hs))
      go true e rest = rw (eqb-true a.group n e)
      go false e rest = rest

  -- For a purpose, a lowered node grants what the node grants for it, lowered.
  only_lowered : (purpose n : ℕ) (p : Permissions) → only_for purpose (lower_at g h by n p) ≡ lower_at g h by n (only_for purpose p)
  unfolding lower_at lower_permissions only_for
  only_lowered purpose n p =
      cond_ind (λ q. only_for purpose q ≡ cond (eqb n g) (lower_permissions h by (only_for purpose p)) (only_for purpose p)) (eqb n g) (lower_permissions h by p) p
      (λ e. rw e (go (bit_at purpose p.purposes))) (λ e. rw e)
    where
      go : (b : Bool) → cond b (lower_permissions h by p) no_permissions ≡ lower_permissions h by (cond b p no_permissions)
      go true = refl
      go false = nothing_lowered

  heads_for : (purpose : ℕ) (hs : List Head) → map (for_purpose purpose) (map (lower_head g h by) hs) ≡ map (lower_head g h by) (map (for_purpose purpose) hs)
  unfolding for_purpose lower_head
  heads_for purpose [] = refl
  heads_for purpose (a ∷ hs) =
      ap₂ (λ (p : Permissions) (l : List Head). record { group = a.group; permissions = p } ∷ l)
      (only_lowered purpose a.group a.permissions) (heads_for purpose hs)

  flags_lowered : (v : ℕ) → Low v → (hs : List Head) (path : List ℕ)
      → any (λ n. has_bit v (given_by n (map (lower_head g h by) hs)).map) path ≡ any (λ n. has_bit v (given_by n hs).map) path
  unfolding any
  flags_lowered v low hs [] = refl
  flags_lowered v low hs (n ∷ path) = rw (given_lowered n hs, bit_kept v low g h by n (given_by n hs), flags_lowered v low hs path)

  -- A group other than g keeps its counts.
  other_group : (i n : ℕ) (p : Permissions) → eqb n g ≡ false → listed i (lower_at g h by n p).list ≡ listed i p.list
  unfolding lower_at
  other_group i n p e = rw e

  -- Every group keeps its counts for groups other than h.
  other_count : (i n : ℕ) (p : Permissions) → (i ≡ h → ⊥) → listed i (lower_at g h by n p).list ≡ listed i p.list
  unfolding lower_at lower_permissions
  other_count i n p ne =
      cond_ind (λ q. listed i q.list ≡ listed i p.list) (eqb n g) (lower_permissions h by p) p (λ e. other_listed h by i ne p.list) (λ e. refl)

  -- Group g keeps its count for h less what is taken away.
  own_count : (p : Permissions) → at_most (listed h p.list) (fin by ⊕ listed h (lower_at g h by g p).list) ≡ true
  unfolding lower_at lower_permissions
  own_count p = rw (eq-eqb g g refl) (listed_kept h by p.list)

  -- So do the groups of a path together.
  module _ (hs : List Head) where
    abbrev after : List Head
    after = map (lower_head g h by) hs

    joined_count : (i : ℕ) → (i ≡ h → ⊥) → (path : List ℕ) → joined i after path ≡ joined i hs path
    unfolding joined
    joined_count i ne [] = refl
    joined_count i ne (n ∷ path) = rw (given_lowered n hs, other_count i n (given_by n hs) ne, joined_count i ne path)

    joined_without : (i : ℕ) (path : List ℕ) → member g path ≡ false → joined i after path ≡ joined i hs path
    unfolding joined member
    joined_without i [] m = refl
    joined_without i (n ∷ path) m = go (eqb n g) refl m (joined_without i path)
      where
        go : (b : Bool) → eqb n g ≡ b → (b || member g path) ≡ false → (member g path ≡ false → joined i after path ≡ joined i hs path)
            → listed i (given_by n after).list ⊕ joined i after path ≡ listed i (given_by n hs).list ⊕ joined i hs path
        go true e k rest = let z : ◌≡◌ {A = ℕ} 0 1 = cc in absurd (omega arith)
        go false e k rest = rw (given_lowered n hs, other_group i n (given_by n hs) e, rest k)

    joined_kept : (path : List ℕ) → distinct path ≡ true → at_most (joined h hs path) (fin by ⊕ joined h after path) ≡ true
    unfolding joined distinct
    joined_kept [] d = kept_within 0 by (fin 0) (omega arith)
    joined_kept (n ∷ path) d =
        let o = both_true (not (member n path)) (distinct path) d in
        go (eqb n g) refl (not-true (member n path) o.0) (joined_kept path o.1)
      where
        go : (b : Bool) → eqb n g ≡ b → member n path ≡ false → at_most (joined h hs path) (fin by ⊕ joined h after path) ≡ true
            → at_most (listed h (given_by n hs).list ⊕ joined h hs path) (fin by ⊕ (listed h (given_by n after).list ⊕ joined h after path)) ≡ true
        go true e m rest =
            let z : n ≡ g = eqb-true n g e in
            let k : member g path ≡ false = rw z at m in
            rw (given_lowered n hs, joined_without h path k, z, ← join_assoc)
            (join_mono (listed h (given_by g hs).list) _ (joined h hs path) (joined h hs path) (own_count (given_by g hs)) (at_most_self (joined h hs path)))
        go false e m rest =
            let swap : fin by ⊕ (listed h (given_by n hs).list ⊕ joined h after path) ≡ listed h (given_by n hs).list ⊕ (fin by ⊕ joined h after path)
            = cc (join_assoc (fin by) (listed h (given_by n hs).list) (joined h after path), join_comm (fin by) (listed h (given_by n hs).list), join_assoc (listed h (given_by n hs).list) (fin by) (joined h after path)) in
            rw (given_lowered n hs, other_group h n (given_by n hs) e, swap)
            (join_mono (listed h (given_by n hs).list) (listed h (given_by n hs).list) (joined h hs path) _ (at_most_self (listed h (given_by n hs).list)) rest)

  -- The tree for a kind is there as before, and lowered where it is the kind that is lowered.
  module _ (kind : ℕ) where
    tree_there : (k : ℕ) (policy : List Tree) → is_tree (tree_for k (lower kind g h by policy)) ≡ is_tree (tree_for k policy)
    unfolding lower lower_tree tree_for is_tree
    tree_there k [] = refl
    tree_there k (t ∷ policy) = go (eqb t.kind k) (tree_there k policy)
      where
        go : (b : Bool) → is_tree (tree_for k (lower kind g h by policy)) ≡ is_tree (tree_for k policy)
            → is_tree (cond b (some (cond (eqb t.kind kind) (lower_node g h by t.root) t.root)) (tree_for k (lower kind g h by policy)))
            ≡ is_tree (cond b (some t.root) (tree_for k policy))
        go true e = refl
        go false e = e

    abbrev changed : Bool → List Head → List Head
    changed b hs = cond b (map (lower_head g h by) hs) hs

    root_reached : (path : List ℕ) (b : Bool) (n : Node) → reached path (cond b (lower_node g h by n) n) ≡ changed b (reached path n)
    unfolding reached alone lower_node lower_nodes
    root_reached path true n = reached_lowered path (alone n)
    root_reached path false n = refl

    pub nodes_reached : (k : ℕ) (path : List ℕ) (policy : List Tree)
        → reached_for (lower kind g h by policy) k path ≡ changed (eqb k kind) (reached_for policy k path)
    unfolding reached_for lower lower_tree tree_for reached_in
    nodes_reached k path [] = cond_ind (λ hs. [] ≡ hs) (eqb k kind) [] [] (λ e. refl) (λ e. refl)
    nodes_reached k path (t ∷ policy) = go (eqb t.kind k) refl (nodes_reached k path policy)
      where
        go : (b : Bool) → eqb t.kind k ≡ b → reached_for (lower kind g h by policy) k path ≡ changed (eqb k kind) (reached_for policy k path)
            → reached_in path (cond b (some (cond (eqb t.kind kind) (lower_node g h by t.root) t.root)) (tree_for k (lower kind g h by policy)))
            ≡ changed (eqb k kind) (reached_in path (cond b (some t.root) (tree_for k policy)))
        go true e rest = rw (eqb-true t.kind k e) (root_reached path (eqb k kind) t.root)
        go false e rest = rest

    pub nodes_granting : (k : ℕ) (c : Component) (policy : List Tree)
        → granting_to (lower kind g h by policy) k c ≡ changed (eqb k kind) (granting_to policy k c)
    unfolding granting_to
    nodes_granting k c policy = rw (nodes_reached k c.path policy) (go (eqb k kind))
      where
        go : (b : Bool) → map (for_purpose c.purpose) (changed b (reached_for policy k c.path))
            ≡ changed b (map (for_purpose c.purpose) (reached_for policy k c.path))
        go true = heads_for c.purpose (reached_for policy k c.path)
        go false = refl

    module _ (policy : List Tree) where
      -- 16 and 17 are answered as before.
      pub tree_kept : (e : Entry) → has_tree (lower kind g h by policy) e ≡ has_tree policy e
      unfolding has_tree
      tree_kept e = tree_there e.kind policy

      groups_reached : (k : ℕ) (path : List ℕ) → groups_at (reached_for (lower kind g h by policy) k path) ≡ groups_at (reached_for policy k path)
      groups_reached k path =
          rw (nodes_reached k path policy)
          (cond_ind (λ hs. groups_at hs ≡ groups_at (reached_for policy k path)) (eqb k kind) _ _ (λ e. groups_lowered g h by (reached_for policy k path)) (λ e. refl))

      pub path_kept : (e : Entry) → path_reached (lower kind g h by policy) e ≡ path_reached policy e
      unfolding path_reached
      path_kept e = ap (λ (groups : List ℕ). every (λ n. member n groups) e.component.path) (groups_reached e.kind e.component.path)

      -- 18: flags, the counts that are kept, and the one that is lowered.
      pub flag_kept : (v : ℕ) → Low v → (k : ℕ) (c : Component) → flag_granted v (lower kind g h by policy) k c ≡ flag_granted v policy k c
      unfolding flag_granted
      flag_kept v low k c =
          rw (nodes_granting k c policy)
          (cond_ind (λ hs. any (λ n. has_bit v (given_by n hs).map) c.path ≡ any (λ n. has_bit v (given_by n (granting_to policy k c)).map) c.path) (eqb k kind) _ _
          (λ e. flags_lowered v low (granting_to policy k c) c.path) (λ e. refl))

      pub count_kept : (i k : ℕ) (c : Component) → (eqb k kind && (member g c.path && eqb i h)) ≡ false
          → count_granted i (lower kind g h by policy) k c ≡ count_granted i policy k c
      unfolding count_granted
      count_kept i k c e = rw (nodes_granting k c policy) (go (eqb k kind) (member g c.path) refl (eqb i h) refl e)
        where
          go : (b m : Bool) → member g c.path ≡ m → (j : Bool) → eqb i h ≡ j → (b && (m && j)) ≡ false
              → joined i (changed b (granting_to policy k c)) c.path ≡ joined i (granting_to policy k c) c.path
          go true true p true q f = let z : ◌≡◌ {A = ℕ} 0 1 = cc in absurd (omega arith)
          go true true p false q f = joined_count (granting_to policy k c) i (eqb-false i h q) c.path
          go true false p j q f = joined_without (granting_to policy k c) i c.path p
          go false m p j q f = refl

      pub count_lowered : (k : ℕ) (c : Component) → eqb k kind ≡ true → distinct c.path ≡ true
          → at_most (count_granted h policy k c) (fin by ⊕ count_granted h (lower kind g h by policy) k c) ≡ true
      unfolding count_granted
      count_lowered k c e d = rw (nodes_granting k c policy, e) (joined_kept (granting_to policy k c) c.path d)
