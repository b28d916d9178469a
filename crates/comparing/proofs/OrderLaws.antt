-- "among charters of that length that pass 11 to 15 the relation is reflexive and carries through a third" (document 02, Q-8), node by node.
use Prim.Native.Nat.{ℕ}
use mathlib.Core.Bool.{Bool, true, false, cond, not, ◌&&◌, ◌||◌, true≢false}
use mathlib.Core.List.{List, [], ◌∷◌, map}
use mathlib.Core.Logic.{◌⊎◌, inl, inr, ⊎_elim}
use mathlib.Core.Option.{Option, some, none as nothing}
use mathlib.Core.Path.{◌≡◌, refl, sym, ◌∙◌}
use native.Mathlib.Omega.{arith}
use borrow.Author.Tests.{le-leb, eqb-true, eqb-false, eq-eqb, ne_eqb, not-true}
use lib.Dec.{eqb}
use Rattle.reading.specs.Forms.{member}
use Rattle.reading.proofs.FormLaws.{both_true}
use Rattle.inference.specs.Lists.{every}
use Rattle.inference.specs.Counts.{Count, fin, at_most, unlimited}
use Rattle.inference.proofs.CountLaws.{at_most_self, at_most_trans}
use Rattle.inference.proofs.EveryLaws.{every_true, every_through}
use Rattle.policy.specs.Syntax.{Granted, Permissions, Node, Nodes, none, more, Tree, alone, has_bit}
use Rattle.policy.specs.WellFormed.{distinct, kinds_distinct}
use Rattle.containment.specs.Bits.{implies, bits_among}
use Rattle.fit.specs.Grants.{tree_for, stored_count, listed}
use Rattle.comparing.specs.NoLooser.{maps_no_looser, counts_no_looser, permissions_no_looser, nodes_no_looser, root_no_looser, trees_no_looser}
use Rattle.running.proofs.Alls.{and_both}
use Rattle.comparing.proofs.BitLaws.{implies_self, implies_through, bits_self, bits_through}

-- Counts: at most B's for every group, those that A does not list included.
nothing_most : (c : Count) → at_most (fin 0) c ≡ true
unfolding at_most
nothing_most (fin n) = le-leb 0 n (omega arith)
nothing_most unlimited = refl

listed_or_none : (f : ℕ → Bool) (h : ℕ) (xs : List Granted) → every (λ d. f d.group) xs ≡ true → (f h ≡ true) ⊎ (listed h xs ≡ fin 0)
unfolding every listed
listed_or_none f h [] e = inr refl
listed_or_none f h (d ∷ xs) e =
    let k = both_true (f d.group) (every (λ x. f x.group) xs) e in
    go (eqb d.group h) refl k.0 (listed_or_none f h xs k.1)
  where
    go : (t : Bool) → eqb d.group h ≡ t → f d.group ≡ true → (f h ≡ true) ⊎ (listed h xs ≡ fin 0)
        → (f h ≡ true) ⊎ (cond t (stored_count d.count) (listed h xs) ≡ fin 0)
    go true q here later = inl (rw (eqb-true d.group h q) at here)
    go false q here later = later

pub counts_within : (a b : List Granted) → counts_no_looser a b ≡ true → (h : ℕ) → at_most (listed h a) (listed h b) ≡ true
unfolding counts_no_looser
counts_within a b e h =
    ⊎_elim (λ k. k) (λ k. rw k (nothing_most (listed h b))) (listed_or_none (λ g. at_most (listed g a) (listed g b)) h a e)

counts_self : (a : List Granted) → counts_no_looser a a ≡ true
unfolding counts_no_looser
counts_self a = every_true (λ d. at_most (listed d.group a) (listed d.group a)) (λ d. at_most_self (listed d.group a)) a

counts_through : (a b c : List Granted) → counts_no_looser a b ≡ true → counts_no_looser b c ≡ true → counts_no_looser a c ≡ true
counts_through a b c e f =
    unfold counts_no_looser in
    every_true (λ d. at_most (listed d.group a) (listed d.group c))
    (λ d. at_most_trans (listed d.group a) (listed d.group b) (listed d.group c) (counts_within a b e d.group) (counts_within b c f d.group)) a

-- What is asked at a node.
pub record NoLooser (p q : Permissions) : Type 0 where
  pub flags : bits_among 3 p.map q.map ≡ true
  pub purposes : bits_among 16 p.purposes q.purposes ≡ true
  pub fence : implies (has_bit 8 q.map) (has_bit 8 p.map) ≡ true
  pub counts : counts_no_looser p.list q.list ≡ true

pub no_looser_parts : (p q : Permissions) → permissions_no_looser p q ≡ true → NoLooser p q
unfolding permissions_no_looser maps_no_looser
no_looser_parts p q e =
    let k = both_true (maps_no_looser p q) (counts_no_looser p.list q.list) e in
    let l = both_true (bits_among 3 p.map q.map) _ k.0 in
    let m = both_true (bits_among 16 p.purposes q.purposes) (implies (has_bit 8 q.map) (has_bit 8 p.map)) l.1 in
    record { flags = l.0; purposes = m.0; fence = m.1; counts = k.1 }

no_looser_whole : (p q : Permissions) → NoLooser p q → permissions_no_looser p q ≡ true
unfolding permissions_no_looser maps_no_looser
no_looser_whole p q n = and_both _ _ (and_both _ _ n.flags (and_both _ _ n.purposes n.fence)) n.counts

permissions_self : (p : Permissions) → permissions_no_looser p p ≡ true
permissions_self p = no_looser_whole p p (record {
  flags = bits_self 3 p.map;
  purposes = bits_self 16 p.purposes;
  fence = implies_self (has_bit 8 p.map);
  counts = counts_self p.list;
})

permissions_through : (p q r : Permissions) → permissions_no_looser p q ≡ true → permissions_no_looser q r ≡ true → permissions_no_looser p r ≡ true
permissions_through p q r e f =
    let k = no_looser_parts p q e in
    let l = no_looser_parts q r f in
    no_looser_whole p r (record {
      flags = bits_through 3 p.map q.map r.map k.flags l.flags;
      purposes = bits_through 16 p.purposes q.purposes r.purposes k.purposes l.purposes;
      fence = implies_through (has_bit 8 r.map) (has_bit 8 q.map) (has_bit 8 p.map) l.fence k.fence;
      counts = counts_through p.list q.list r.list k.counts l.counts;
    })

-- Nodes side by side.
pub record Nodewise (g : ℕ) (p : Permissions) (below rest : Nodes) (h : ℕ) (q : Permissions) (under after : Nodes) : Type 0 where
  pub group : g ≡ h
  pub here : permissions_no_looser p q ≡ true
  pub deeper : nodes_no_looser below under ≡ true
  pub later : nodes_no_looser rest after ≡ true

pub nodewise : (g : ℕ) (p : Permissions) (below rest : Nodes) (h : ℕ) (q : Permissions) (under after : Nodes)
    → nodes_no_looser (more g p below rest) (more h q under after) ≡ true → Nodewise g p below rest h q under after
unfolding nodes_no_looser
nodewise g p below rest h q under after e =
    let k = both_true (eqb g h && permissions_no_looser p q) (nodes_no_looser below under && nodes_no_looser rest after) e in
    let l = both_true (eqb g h) (permissions_no_looser p q) k.0 in
    let m = both_true (nodes_no_looser below under) (nodes_no_looser rest after) k.1 in
    record { group = eqb-true g h l.0; here = l.1; deeper = m.0; later = m.1 }

nodes_self : (ns : Nodes) → nodes_no_looser ns ns ≡ true
unfolding nodes_no_looser
nodes_self none = refl
nodes_self (more g p below rest) = and_both _ _ (and_both _ _ (eq-eqb g g refl) (permissions_self p)) (and_both _ _ (nodes_self below) (nodes_self rest))

nodes_through : (ns ms ks : Nodes) → nodes_no_looser ns ms ≡ true → nodes_no_looser ms ks ≡ true → nodes_no_looser ns ks ≡ true
unfolding nodes_no_looser
nodes_through none none ks e f = f
nodes_through none (more h q under after) ks e f = absurd (true≢false (sym e))
nodes_through (more g p below rest) none ks e f = absurd (true≢false (sym e))
nodes_through (more g p below rest) (more h q under after) none e f = absurd (true≢false (sym f))
nodes_through (more g p below rest) (more h q under after) (more i r beneath last) e f =
    let k = nodewise g p below rest h q under after e in
    let l = nodewise h q under after i r beneath last f in
    and_both _ _ (and_both _ _ (eq-eqb g i (k.group ∙ l.group)) (permissions_through p q r k.here l.here))
    (and_both _ _ (nodes_through below under beneath k.deeper l.deeper) (nodes_through rest after last k.later l.later))

-- Trees: A's tree for a kind has one in B.
pub found_within : (a b : List Tree) → trees_no_looser a b ≡ true → (kind : ℕ) (root : Node) → tree_for kind a ≡ some root → root_no_looser root (tree_for kind b) ≡ true
unfolding trees_no_looser every tree_for
found_within [] b e kind root f = let z : ◌≡◌ {A = ℕ} 0 1 = cc in absurd (omega arith)
found_within (t ∷ a) b e kind root f =
    let k = both_true (root_no_looser t.root (tree_for t.kind b)) (every (λ u. root_no_looser u.root (tree_for u.kind b)) a) e in
    go (eqb t.kind kind) refl f k.0 (λ g. found_within a b k.1 kind root g)
  where
    go : (x : Bool) → eqb t.kind kind ≡ x → cond x (some t.root) (tree_for kind a) ≡ some root → root_no_looser t.root (tree_for t.kind b) ≡ true
        → (tree_for kind a ≡ some root → root_no_looser root (tree_for kind b) ≡ true) → root_no_looser root (tree_for kind b) ≡ true
    go true q g here later =
        let z : t.root ≡ root = cc in
        rw (z, eqb-true t.kind kind q) at here
    go false q g here later = later g

root_through : (root : Node) (x y : Option Node) → root_no_looser root x ≡ true → ((other : Node) → x ≡ some other → root_no_looser other y ≡ true) → root_no_looser root y ≡ true
unfolding root_no_looser
root_through root nothing y e f = absurd (true≢false (sym e))
root_through root (some other) nothing e f = absurd (true≢false (sym (f other refl)))
root_through root (some other) (some third) e f = nodes_through (alone root) (alone other) (alone third) e (f other refl)

pub trees_through : (a b c : List Tree) → trees_no_looser a b ≡ true → trees_no_looser b c ≡ true → trees_no_looser a c ≡ true
trees_through a b c e f =
    unfold trees_no_looser in
    every_through (λ t. root_no_looser t.root (tree_for t.kind b)) (λ t. true) (λ t. root_no_looser t.root (tree_for t.kind c))
    (λ t g h. root_through t.root (tree_for t.kind b) (tree_for t.kind c) g (λ other k. found_within b c f t.kind other k))
    a (unfold trees_no_looser in e) (every_true (λ t. true) (λ t. refl) a)

-- A tree of another kind before them is passed over.
passed_over : (t : Tree) (rest us : List Tree) → member t.kind (map (λ u. u.kind) us) ≡ false
    → every (λ u. root_no_looser u.root (tree_for u.kind (t ∷ rest))) us ≡ every (λ u. root_no_looser u.root (tree_for u.kind rest)) us
unfolding every tree_for member
passed_over t rest [] e = refl
passed_over t rest (u ∷ us) e = go (eqb u.kind t.kind) refl e (passed_over t rest us)
  where
    turned : eqb t.kind u.kind ≡ eqb u.kind t.kind
    turned = same (eqb u.kind t.kind) refl
      where
        same : (x : Bool) → eqb u.kind t.kind ≡ x → eqb t.kind u.kind ≡ x
        same true q = eq-eqb t.kind u.kind (sym (eqb-true u.kind t.kind q))
        same false q = ne_eqb t.kind u.kind (λ z. eqb-false u.kind t.kind q (sym z))

    go : (x : Bool) → eqb u.kind t.kind ≡ x → (x || member t.kind (map (λ v. v.kind) us)) ≡ false
        → (member t.kind (map (λ v. v.kind) us) ≡ false
        → every (λ v. root_no_looser v.root (tree_for v.kind (t ∷ rest))) us ≡ every (λ v. root_no_looser v.root (tree_for v.kind rest)) us)
        → (root_no_looser u.root (cond (eqb t.kind u.kind) (some t.root) (tree_for u.kind rest)) && every (λ v. root_no_looser v.root (tree_for v.kind (t ∷ rest))) us)
        ≡ (root_no_looser u.root (tree_for u.kind rest) && every (λ v. root_no_looser v.root (tree_for v.kind rest)) us)
    go true q k later = absurd (true≢false (sym (sym k)))
    go false q k later = rw (turned, q, later k)

pub trees_self : (a : List Tree) → kinds_distinct a ≡ true → trees_no_looser a a ≡ true
unfolding kinds_distinct distinct trees_no_looser every
trees_self [] d = refl
trees_self (t ∷ a) d =
    let k = both_true (not (member t.kind (map (λ u. u.kind) a))) (distinct (map (λ u. u.kind) a)) d in
    and_both _ _ own (passed_over t a a (not-true _ k.0) ∙ trees_self a k.1)
  where
    own : root_no_looser t.root (tree_for t.kind (t ∷ a)) ≡ true
    own = unfold tree_for root_no_looser in rw (eq-eqb t.kind t.kind refl) (nodes_self (alone t.root))
