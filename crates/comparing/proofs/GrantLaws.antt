-- What a policy grants, it grants under one that it is no looser than. A path reaches the same nodes in both, one beside the other (`reached_beside`):
-- flags, counts and purposes follow node by node, and the grants that are joined from them.
use Prim.Native.Nat.{ℕ, zero, suc, ◌<◌}
use mathlib.Core.Bool.{Bool, true, false, cond, ◌||◌, true≢false}
use mathlib.Core.List.{List, [], ◌∷◌, ◌++◌, map}
use mathlib.Core.Option.{Option, some, none as nothing}
use mathlib.Core.Path.{◌≡◌, refl, sym, ap, ◌∙◌}
use lib.Dec.{eqb}
use Rattle.reading.specs.Forms.{member}
use Rattle.inference.specs.Acts.{Component}
use Rattle.inference.specs.Lists.{every, any}
use Rattle.inference.specs.Counts.{at_most}
use Rattle.inference.specs.Interface.{Entry}
use Rattle.inference.proofs.CountLaws.{at_most_self, join_mono}
use Rattle.policy.specs.Syntax.{Granted, Permissions, Node, Nodes, none, more, Tree, Head, alone, has_bit, bit_at}
use Rattle.policy.specs.WellFormed.{groups_at}
use Rattle.fit.specs.Grants.{reached_among, reached, tree_for, reached_in, reached_for, no_permissions, only_for, for_purpose, granting_to, given_by, flag_granted, listed, joined, count_granted}
use Rattle.fit.specs.Satisfies.{is_tree, has_tree, path_reached}
use Rattle.fit.proofs.GrantLaws.{given_for}
use Rattle.comparing.specs.NoLooser.{counts_no_looser, permissions_no_looser, nodes_no_looser, root_no_looser, trees_no_looser}
use Rattle.comparing.proofs.BitLaws.{bit_among, Flag}
use Rattle.comparing.proofs.OrderLaws.{NoLooser, no_looser_parts, nodewise, counts_within, found_within}

-- Nodes of one group, one beside the other, the first no looser.
pub data Beside : List Head → List Head → Type 0 where
  both_end : Beside [] []
  both_go : {g : ℕ} {p q : Permissions} {hs ks : List Head} → permissions_no_looser p q ≡ true → Beside hs ks
      → Beside (record { group = g; permissions = p } ∷ hs) (record { group = g; permissions = q } ∷ ks)

beside_append : {hs ks fs gs : List Head} → Beside hs ks → Beside fs gs → Beside (hs ++ fs) (ks ++ gs)
beside_append both_end b = b
beside_append (both_go e a) b = both_go e (beside_append a b)

reached_beside : (path : List ℕ) (ns ms : Nodes) → nodes_no_looser ns ms ≡ true → Beside (reached_among path ns) (reached_among path ms)
unfolding reached_among nodes_no_looser
reached_beside path none none e = both_end
reached_beside path none (more h q under after) e = absurd (true≢false (sym e))
reached_beside path (more g p below rest) none e = absurd (true≢false (sym e))
reached_beside path (more g p below rest) (more h q under after) e =
    let n = nodewise g p below rest h q under after e in
    rw (← n.group) (beside_append (go (member g path) n.here (reached_beside path below under n.deeper)) (reached_beside path rest after n.later))
  where
    go : (b : Bool) → permissions_no_looser p q ≡ true → Beside (reached_among path below) (reached_among path under)
        → Beside (cond b (record { group = g; permissions = p } ∷ reached_among path below) []) (cond b (record { group = g; permissions = q } ∷ reached_among path under) [])
    go true here deeper = both_go here deeper
    go false here deeper = both_end

-- The tree for a kind, and the nodes that a path reaches in it.
root_reached : (path : List ℕ) (x y : Option Node) → ((root : Node) → x ≡ some root → root_no_looser root y ≡ true) → is_tree x ≡ true → Beside (reached_in path x) (reached_in path y)
unfolding reached_in is_tree root_no_looser reached
root_reached path nothing y f t = absurd (true≢false (sym t))
root_reached path (some root) nothing f t = absurd (true≢false (sym (f root refl)))
root_reached path (some root) (some other) f t = reached_beside path (alone root) (alone other) (f root refl)

root_there : (x y : Option Node) → ((root : Node) → x ≡ some root → root_no_looser root y ≡ true) → is_tree x ≡ true → is_tree y ≡ true
unfolding is_tree root_no_looser
root_there nothing y f t = absurd (true≢false (sym t))
root_there (some root) nothing f t = f root refl
root_there (some root) (some other) f t = refl

groups_beside : {hs ks : List Head} → Beside hs ks → groups_at hs ≡ groups_at ks
unfolding groups_at
groups_beside both_end = refl
groups_beside (both_go {g = g} e b) = ap (λ (l : List ℕ). g ∷ l) (groups_beside b)

-- What permissions give, no more than others: the same flags or fewer, the same counts or smaller.
record Gives (p q : Permissions) : Type 0 where
  flags : {v : ℕ} → Flag v → has_bit v p.map ≡ true → has_bit v q.map ≡ true
  counts : (h : ℕ) → at_most (listed h p.list) (listed h q.list) ≡ true

gives_self : (p : Permissions) → Gives p p
gives_self p = record { flags = λ f e. e; counts = λ h. at_most_self (listed h p.list) }

gives_all : (p q : Permissions) → NoLooser p q → Gives p q
gives_all p q n = record {
  flags = λ f e. f.is q.map ∙ bit_among 3 p.map q.map f.place n.flags f.low (sym (f.is p.map) ∙ e);
  counts = counts_within p.list q.list n.counts;
}

no_bit : (k : ℕ) → bit_at k 0 ≡ false
unfolding bit_at
no_bit zero = refl
no_bit (suc k) = no_bit k

nothing_asked : (b : List Granted) → counts_no_looser [] b ≡ true
unfolding counts_no_looser every
nothing_asked b = refl

gives_nothing : (q : Permissions) → Gives no_permissions q
gives_nothing q = record { flags = λ f e. absurd (true≢false (sym (sym (no_flag f) ∙ e))); counts = λ h. none_listed h }
  where
    no_flag : {v : ℕ} → Flag v → has_bit v 0 ≡ false
    no_flag f = f.is 0 ∙ no_bit f.place

    none_listed : (h : ℕ) → at_most (listed h []) (listed h q.list) ≡ true
    none_listed h = counts_within [] q.list (nothing_asked q.list) h

-- For a purpose: the first grants only where the second does.
gives_for_lem : (purpose : ℕ) → purpose < 16 → (p q : Permissions) → NoLooser p q → Gives (only_for purpose p) (only_for purpose q)
unfolding only_for
gives_for_lem purpose low p q n = go (bit_at purpose p.purposes) refl (bit_at purpose q.purposes) refl
  where
    go : (s : Bool) → bit_at purpose p.purposes ≡ s → (t : Bool) → bit_at purpose q.purposes ≡ t → Gives (cond s p no_permissions) (cond t q no_permissions)
    go true e true f = gives_all p q n
    go true e false f = absurd (true≢false (sym (sym f ∙ bit_among 16 p.purposes q.purposes purpose n.purposes low e)))
    go false e t f = gives_nothing (cond t q no_permissions)

given_beside : (purpose : ℕ) → purpose < 16 → (g : ℕ) {hs ks : List Head} → Beside hs ks → Gives (only_for purpose (given_by g hs)) (only_for purpose (given_by g ks))
unfolding given_by
given_beside purpose low g both_end = gives_self (only_for purpose no_permissions)
given_beside purpose low g (both_go {g = h} {p = p} {q = q} {hs = hs} {ks = ks} e b) = go (eqb h g) (gives_for_lem purpose low p q (no_looser_parts p q e)) (given_beside purpose low g b)
  where
    go : (t : Bool) → Gives (only_for purpose p) (only_for purpose q) → Gives (only_for purpose (given_by g hs)) (only_for purpose (given_by g ks))
        → Gives (only_for purpose (cond t p (given_by g hs))) (only_for purpose (cond t q (given_by g ks)))
    go true here later = here
    go false here later = later

-- The groups of a path together.
any_kept : (p q : ℕ → Bool) → ((g : ℕ) → p g ≡ true → q g ≡ true) → (gs : List ℕ) → any p gs ≡ true → any q gs ≡ true
unfolding any
any_kept p q h [] e = e
any_kept p q h (g ∷ gs) e = go (p g) refl (q g) refl e (any_kept p q h gs)
  where
    go : (s : Bool) → p g ≡ s → (t : Bool) → q g ≡ t → (s || any p gs) ≡ true → (any p gs ≡ true → any q gs ≡ true) → (t || any q gs) ≡ true
    go s a true b k later = refl
    go true a false b k later = absurd (true≢false (sym (sym b ∙ h g a)))
    go false a false b k later = later k

module _ (purpose : ℕ) (low : purpose < 16) {hs ks : List Head} (beside : Beside hs ks) where
  gives : (g : ℕ) → Gives (given_by g (map (for_purpose purpose) hs)) (given_by g (map (for_purpose purpose) ks))
  gives g = rw (given_for purpose g hs, given_for purpose g ks) (given_beside purpose low g beside)

  flags_kept : {v : ℕ} → Flag v → (path : List ℕ) → any (λ g. has_bit v (given_by g (map (for_purpose purpose) hs)).map) path ≡ true
      → any (λ g. has_bit v (given_by g (map (for_purpose purpose) ks)).map) path ≡ true
  flags_kept {v} f path =
      any_kept (λ g. has_bit v (given_by g (map (for_purpose purpose) hs)).map) (λ g. has_bit v (given_by g (map (for_purpose purpose) ks)).map) (λ g. (gives g).flags f) path

  counts_kept : (h : ℕ) (path : List ℕ) → at_most (joined h (map (for_purpose purpose) hs) path) (joined h (map (for_purpose purpose) ks) path) ≡ true
  unfolding joined
  counts_kept h [] = at_most_self _
  counts_kept h (g ∷ path) = join_mono _ _ _ _ ((gives g).counts h) (counts_kept h path)

-- So of two policies.
module _ (a b : List Tree) (e : trees_no_looser a b ≡ true) where
  within : (kind : ℕ) (root : Node) → tree_for kind a ≡ some root → root_no_looser root (tree_for kind b) ≡ true
  within kind root = found_within a b e kind root

  -- 16
  pub tree_kept : (entry : Entry) → has_tree a entry ≡ true → has_tree b entry ≡ true
  unfolding has_tree
  tree_kept entry t = root_there (tree_for entry.kind a) (tree_for entry.kind b) (within entry.kind) t

  module _ (kind : ℕ) (there : is_tree (tree_for kind a) ≡ true) where
    kind_reached : (path : List ℕ) → Beside (reached_for a kind path) (reached_for b kind path)
    unfolding reached_for
    kind_reached path = root_reached path (tree_for kind a) (tree_for kind b) (within kind) there

    -- 18
    pub flag_kept : {v : ℕ} → Flag v → (c : Component) → c.purpose < 16 → flag_granted v a kind c ≡ true → flag_granted v b kind c ≡ true
    unfolding flag_granted granting_to
    flag_kept f c low = flags_kept c.purpose low (kind_reached c.path) f c.path

    pub count_kept : (h : ℕ) (c : Component) → c.purpose < 16 → at_most (count_granted h a kind c) (count_granted h b kind c) ≡ true
    unfolding count_granted granting_to
    count_kept h c low = counts_kept c.purpose low (kind_reached c.path) h c.path

  -- 17
  pub path_kept : (entry : Entry) → has_tree a entry ≡ true → path_reached a entry ≡ true → path_reached b entry ≡ true
  unfolding has_tree path_reached
  path_kept entry there = λ p. rw (← groups_beside (kind_reached entry.kind there entry.component.path)) p
