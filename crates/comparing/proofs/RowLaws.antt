-- Two policies that were read, row by row: it says what the definition says of their trees. Rows of equal depths are trees of one shape, since the
-- rows below a node are those that follow it and stand deeper.
use Prim.Native.Nat.{ℕ, ◌+◌, ◌<◌}
use mathlib.Core.Bool.{Bool, true, false, cond, ◌&&◌, and-true}
use mathlib.Core.List.{List, [], ◌∷◌, ◌++◌, append_assoc, append-nil}
use mathlib.Core.Option.{Option, some, none as nothing}
use mathlib.Core.Path.{◌≡◌, refl, sym, ap₂, ◌∙◌}
use native.Mathlib.Omega.{arith}
use borrow.Author.Tests.{eq-eqb, ne_eqb}
use lib.Dec.{eqb}
use Rattle.inference.specs.Lists.{every}
use Rattle.policy.specs.Syntax.{Permissions, Node, Nodes, none, more, Tree, alone}
use Rattle.policy.specs.Rows.{Flat, flatten}
use Rattle.policy.proofs.CountLaws.{ListFits, Lists, lists_none, lists_more, AllLists, all_none, all_more}
use Rattle.wellformed.proofs.FlatLaws.{regroup}
use Rattle.fit.specs.Grants.{tree_for}
use Rattle.comparing.specs.NoLooser.{permissions_no_looser, nodes_no_looser, root_no_looser, trees_no_looser}
use Rattle.comparing.specs.Rows.{row_within, rows_within, root_within, trees_within}
use Rattle.comparing.proofs.ListLaws.{lists_are}

-- Rows that begin above a depth, or end.
data Above (d : ℕ) : List Flat → Type 0 where
  ends : Above d []
  begins : {f : Flat} {later : List Flat} → f.depth < d → Above d (f ∷ later)

abbrev row_of : ℕ → ℕ → Permissions → Flat
row_of d g p = record { head = record { group = g; permissions = p }; depth = d }

above_deeper : (d : ℕ) (ns : Nodes) (fs : List Flat) → Above d fs → Above (d + 1) (flatten d ns ++ fs)
unfolding flatten
above_deeper d none [] ends = ends
above_deeper d none (f ∷ later) (begins h) = begins {f = f} (omega arith)
above_deeper d (more g p below rest) fs a = begins {f = row_of d g p} (omega arith)

-- A row at a depth beside rows that begin above it, either way.
other_depth : (f g : Flat) → (f.depth ≡ g.depth → ⊥) → (fs gs : List Flat) → rows_within (f ∷ fs) (g ∷ gs) ≡ false
unfolding rows_within row_within
other_depth f g h fs gs = rw (ne_eqb f.depth g.depth h)

less_rows : (d h : ℕ) (q : Permissions) (fs gs : List Flat) → Above d fs → rows_within fs (row_of d h q ∷ gs) ≡ false
less_rows d h q [] gs ends = unfold rows_within in refl
less_rows d h q (f ∷ fs) gs (begins l) = other_depth f (row_of d h q) (λ e. absurd (omega arith)) fs gs

more_rows : (d g : ℕ) (p : Permissions) (fs gs : List Flat) → Above d gs → rows_within (row_of d g p ∷ fs) gs ≡ false
more_rows d g p fs [] ends = unfold rows_within in refl
more_rows d g p fs (h ∷ gs) (begins l) = other_depth (row_of d g p) h (λ e. absurd (omega arith)) fs gs

both_rows : (f g : Flat) (fs gs : List Flat) → rows_within (f ∷ fs) (g ∷ gs) ≡ (row_within f g && rows_within fs gs)
unfolding rows_within
both_rows f g fs gs = refl

-- Two rows at one depth.
one_row : (d g h : ℕ) (p q : Permissions) → ListFits 0 p.list → ListFits 0 q.list → row_within (row_of d g p) (row_of d h q) ≡ (eqb g h && permissions_no_looser p q)
unfolding row_within permissions_no_looser
one_row d g h p q f k = rw (eq-eqb d d refl, lists_are 0 0 p.list q.list f k)

abbrev Fitting : Nodes → Type 0
Fitting = Lists (ListFits 0)

rows_nodes : (d : ℕ) (ns ms : Nodes) (fs gs : List Flat) → Fitting ns → Fitting ms → Above d fs → Above d gs
    → rows_within (flatten d ns ++ fs) (flatten d ms ++ gs) ≡ (nodes_no_looser ns ms && rows_within fs gs)
unfolding flatten nodes_no_looser
rows_nodes d none none fs gs lists_none lists_none a b = refl
rows_nodes d none (more h q under after) fs gs lists_none k a b = less_rows d h q fs _ a
rows_nodes d (more g p below rest) none fs gs l lists_none a b = more_rows d g p _ gs b
rows_nodes d (more g p below rest) (more h q under after) fs gs (lists_more f l m) (lists_more k n o) a b =
    rw (
      append_assoc (flatten (d + 1) below) (flatten d rest) fs,
      append_assoc (flatten (d + 1) under) (flatten d after) gs,
      both_rows (row_of d g p) (row_of d h q) (flatten (d + 1) below ++ (flatten d rest ++ fs)) (flatten (d + 1) under ++ (flatten d after ++ gs)),
      one_row d g h p q f k,
      rows_nodes (d + 1) below under (flatten d rest ++ fs) (flatten d after ++ gs) l n (above_deeper d rest fs a) (above_deeper d after gs b),
      rows_nodes d rest after fs gs m o a b,
    )
    (regroup (eqb g h && permissions_no_looser p q) (nodes_no_looser below under) (nodes_no_looser rest after) (rows_within fs gs))

-- The rows of a whole tree.
rows_tree : (ns ms : Nodes) → Fitting ns → Fitting ms → rows_within (flatten 0 ns) (flatten 0 ms) ≡ nodes_no_looser ns ms
rows_tree ns ms l k =
    ap₂ rows_within (sym (append-nil (flatten 0 ns))) (sym (append-nil (flatten 0 ms))) ∙ rows_nodes 0 ns ms [] [] l k ends ends ∙ none_left
  where
    none_left : (nodes_no_looser ns ms && rows_within [] []) ≡ nodes_no_looser ns ms
    none_left = unfold rows_within in and-true (nodes_no_looser ns ms)

-- The tree for a kind is one of the policy's.
root_fits : (kind : ℕ) {b : List Tree} → AllLists (ListFits 0) b → (other : Node) → tree_for kind b ≡ some other → Fitting (alone other)
unfolding tree_for
root_fits kind all_none other e = let z : ◌≡◌ {A = ℕ} 0 1 = cc in absurd (omega arith)
root_fits kind (all_more {t = t} {rest = rest} l ls) other e = go (eqb t.kind kind) e (root_fits kind ls other)
  where
    go : (x : Bool) → cond x (some t.root) (tree_for kind rest) ≡ some other → (tree_for kind rest ≡ some other → Fitting (alone other)) → Fitting (alone other)
    go true i later = let z : t.root ≡ other = cc in rw z at l
    go false i later = later i

root_is : (root : Node) (kind : ℕ) {b : List Tree} → Fitting (alone root) → AllLists (ListFits 0) b → root_within root (tree_for kind b) ≡ root_no_looser root (tree_for kind b)
root_is root kind {b} l k = go (tree_for kind b) (root_fits kind k)
  where
    go : (x : Option Node) → ((other : Node) → x ≡ some other → Fitting (alone other)) → root_within root x ≡ root_no_looser root x
    go nothing f = unfold root_within root_no_looser in refl
    go (some other) f = unfold root_within root_no_looser in rows_tree (alone root) (alone other) l (f other refl)

-- Policies whose lists fit.
pub trees_are : {a b : List Tree} → AllLists (ListFits 0) a → AllLists (ListFits 0) b → trees_within a b ≡ trees_no_looser a b
unfolding trees_within trees_no_looser every
trees_are all_none k = refl
trees_are (all_more {t = t} {rest = rest} l ls) k = rw (root_is t.root t.kind l k, trees_are ls k)
