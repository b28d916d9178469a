-- Over the rows of a tree the nodes are met as over the tree, and question 15 is the same. Rows in reading order keep what the tree
-- says: the nodes below one are those that follow it and stand deeper.
use Prim.Native.Nat.{ℕ, zero, suc, ◌+◌, ◌<◌, ◌≤◌}
use mathlib.Core.Bool.{Bool, true, false, cond, ◌&&◌, and-true}
use mathlib.Core.List.{List, [], ◌∷◌, ◌++◌, append_assoc, append-nil}
use mathlib.Core.Path.{◌≡◌, refl, sym, ap, ◌∙◌}
use native.Mathlib.Numerals.{add-one}
use native.Mathlib.Omega.{arith}
use borrow.Author.Tests.{lt-ltb, le-ltb, ltb-true, ltb-false}
use lib.Dec.{ltb}
use lib.ListN.{length, take, set, replicate, length-set}
use lib.Seq.{take-take, take-suc-set, take-set-le}
use Rattle.inference.specs.Lists.{every, rising}
use Rattle.policy.proofs.NodeLaws.{depth_small}
use Rattle.reading.proofs.FormLaws.{both_true}
use Rattle.inference.proofs.EveryLaws.{every_append}
use Rattle.policy.specs.Syntax.{Permissions, Nodes, none, more, Head, heads_of}
use Rattle.policy.specs.WellFormed.{met_from, all_keep, keeps_within}
use Rattle.policy.specs.Rows.{node_at, Flat, flat_of, flats, flatten}
use Rattle.wellformed.specs.Rows.{met_rows, heads_in, below_in, kept_in, all_kept}

pub regroup : (a b c e : Bool) → (a && (b && (c && e))) ≡ (a && (b && c) && e)
regroup true true c e = refl
regroup true false c e = refl
regroup false b c e = refl

-- The heads.
heads_append : (l m : List Flat) → heads_in (l ++ m) ≡ heads_in l ++ heads_in m
unfolding heads_in
heads_append [] m = refl
heads_append (f ∷ l) m = ap (λ (r : List Head). f.head ∷ r) (heads_append l m)

pub heads_flatten : (d : ℕ) (ns : Nodes) → heads_in (flatten d ns) ≡ heads_of ns
unfolding flatten heads_of heads_in
heads_flatten d none = refl
heads_flatten d (more g p below rest) =
    ap (λ (r : List Head). record { group = g; permissions = p } ∷ r)
    (heads_append (flatten (d + 1) below) (flatten d rest) ∙ rw (heads_flatten (d + 1) below, heads_flatten d rest))

-- 15: the nodes below one, cut out of the rows that follow it.
pub below_flatten : (d e : ℕ) (ns : Nodes) (later : List Flat) → d < e → below_in d (flatten e ns ++ later) ≡ flatten e ns ++ below_in d later
unfolding flatten below_in
below_flatten d e none later h = refl
below_flatten d e (more g p below rest) later h =
    rw (
      lt-ltb d e h,
      append_assoc (flatten (e + 1) below) (flatten e rest) later,
      below_flatten d (e + 1) below (flatten e rest ++ later) (omega arith),
      below_flatten d e rest later h,
      append_assoc (flatten (e + 1) below) (flatten e rest) (below_in d later),
    )

not_deeper : (t : Bool) (f : Flat) (l : List Flat) → cond t (f ∷ l) [] ≡ [] → t ≡ false
not_deeper true f l e = let z : ◌≡◌ {A = ℕ} (length (f ∷ l)) 0 = ap length e in absurd (omega arith)
not_deeper false f l e = refl

below_none : (d e : ℕ) (later : List Flat) → d ≤ e → below_in d later ≡ [] → below_in e later ≡ []
unfolding below_in
below_none d e [] h k = refl
below_none d e (f ∷ l) h k = rw (le-ltb e f.depth (omega (arith, ltb-false d f.depth (not_deeper (ltb d f.depth) f (below_in d l) k))))

below_siblings : (d e : ℕ) (rest : Nodes) (later : List Flat) → d ≤ e → below_in d later ≡ [] → below_in e (flatten d rest ++ later) ≡ []
unfolding flatten below_in
below_siblings d e none later h k = below_none d e later h k
below_siblings d e (more g p below rest) later h k = rw (le-ltb e d h)

kept_nodes : (d : ℕ) (ns : Nodes) (later : List Flat) → below_in d later ≡ [] → all_kept (flatten d ns ++ later) ≡ (all_keep ns && all_kept later)
unfolding flatten all_kept all_keep kept_in keeps_within
kept_nodes d none later h = refl
kept_nodes d (more g p below rest) later h =
    rw (
      append_assoc (flatten (d + 1) below) (flatten d rest) later,
      below_flatten d (d + 1) below (flatten d rest ++ later) (omega arith),
      below_siblings d d rest later (omega arith) h,
      append-nil (flatten (d + 1) below),
      heads_flatten (d + 1) below,
      kept_nodes (d + 1) below (flatten d rest ++ later) (below_siblings d (d + 1) rest later (omega arith) h),
      kept_nodes d rest later h,
    )
    (regroup (keeps_within g p below) (all_keep below) (all_keep rest) (all_kept later))

pub kept_flatten : (d : ℕ) (ns : Nodes) → all_kept (flatten d ns) ≡ all_keep ns
unfolding all_kept below_in
kept_flatten d ns = rw append-nil at (kept_nodes d ns [] refl) ∙ and-true (all_keep ns)

-- 13 and 14: rows whose nodes are met alike wherever the groups above a depth are the same.
Steady : ℕ → List Flat → Type 0
Steady d later = (a b : List ℕ) (earlier : List Head) → length a ≡ 8 → length b ≡ 8 → take d a ≡ take d b → met_rows a earlier later ≡ met_rows b earlier later

-- Rows of nodes, and rows after them: the nodes are met as over the tree, then those after them.
abbrev Splits : ℕ → Nodes → List Flat → Type 0
Splits d ns later = (a : List ℕ) (earlier : List Head) → length a ≡ 8
    → met_rows a earlier (flatten d ns ++ later) ≡ met_from (take d a) earlier ns ++ met_rows a (earlier ++ heads_of ns) later

module _ (d g : ℕ) (p : Permissions) (below rest : Nodes) (later : List Flat) (s : Steady d later) (low : d < 8) (right : Splits d rest later) where
  steadier : Steady (d + 1) (flatten d rest ++ later)
  unfolding Steady
  steadier a b earlier h k e =
      let z : take d a ≡ take d b = sym (take-take d (d + 1) a (omega arith)) ∙ ap (λ (l : List ℕ). take d l) e ∙ take-take d (d + 1) b (omega arith) in
      right a earlier h ∙ rw (z, s a b (earlier ++ heads_of rest) h k z) (sym (right b earlier k))

  met_step : Splits (d + 1) below (flatten d rest ++ later) → Splits d (more g p below rest) later
  unfolding flatten met_rows met_from heads_of Steady
  met_step left above earlier h =
      let head : Head = record { group = g; permissions = p } in
      let k : length (set above d g) ≡ 8 = length-set above d g ∙ h in
      let z : take d (set above d g) ≡ take d above = take-set-le d above d g (omega arith) in
      let y : take (d + 1) (set above d g) ≡ take d above ++ (g ∷ []) = rw (add-one d) (take-suc-set above d g (omega arith)) in
      let w : (earlier ++ (head ∷ [])) ++ heads_of below ≡ earlier ++ (head ∷ heads_of below) = append_assoc earlier (head ∷ []) (heads_of below) in
      let v : (earlier ++ (head ∷ heads_of below)) ++ heads_of rest ≡ earlier ++ (head ∷ (heads_of below ++ heads_of rest)) =
      append_assoc earlier (head ∷ heads_of below) (heads_of rest) in
      rw (
        append_assoc (flatten (d + 1) below) (flatten d rest) later,
        left (set above d g) (earlier ++ (head ∷ [])) k,
        w,
        right (set above d g) (earlier ++ (head ∷ heads_of below)) k,
        y,
        z,
        v,
        s (set above d g) above (earlier ++ (head ∷ (heads_of below ++ heads_of rest))) k h z,
        append_assoc (met_from (take d above ++ (g ∷ [])) (earlier ++ (head ∷ [])) below) (met_from (take d above) (earlier ++ (head ∷ heads_of below)) rest)
            (met_rows above (earlier ++ (head ∷ (heads_of below ++ heads_of rest))) later),
      )

-- All depths below 8.
unfoldable pub all_low : List Flat → Bool
all_low fs = every (λ f. ltb f.depth 8) fs

low_append : (l m : List Flat) → all_low (l ++ m) ≡ (all_low l && all_low m)
unfolding all_low
low_append l m = every_append (λ f. ltb f.depth 8) l m

record Low (d : ℕ) (below rest : Nodes) : Type 0 where
  here : d < 8
  deeper : all_low (flatten (d + 1) below) ≡ true
  after : all_low (flatten d rest) ≡ true

low_parts : (d g : ℕ) (p : Permissions) (below rest : Nodes) → all_low (flatten d (more g p below rest)) ≡ true → Low d below rest
unfolding flatten all_low every
low_parts d g p below rest e =
    let h = both_true (ltb d 8) (all_low (flatten (d + 1) below ++ flatten d rest)) e in
    let k = both_true (all_low (flatten (d + 1) below)) (all_low (flatten d rest)) (sym (low_append (flatten (d + 1) below) (flatten d rest)) ∙ h.1) in
    record { here = ltb-true d 8 h.0; deeper = k.0; after = k.1 }

met_nodes : (d : ℕ) (ns : Nodes) (later : List Flat) → all_low (flatten d ns) ≡ true → Steady d later → Splits d ns later
unfolding flatten met_from heads_of
met_nodes d none later l s above earlier h = rw (append-nil earlier)
met_nodes d (more g p below rest) later l s above earlier h =
    let q = low_parts d g p below rest l in
    let right : Splits d rest later = λ a before k. met_nodes d rest later q.after s a before k in
    let steady = steadier d g p below rest later s q.here right in
    let left : Splits (d + 1) below (flatten d rest ++ later) = λ a before k. met_nodes (d + 1) below (flatten d rest ++ later) q.deeper steady a before k in
    met_step d g p below rest later s q.here right left above earlier h

pub met_flatten : (ns : Nodes) → all_low (flatten 0 ns) ≡ true → met_rows (replicate 8 0) [] (flatten 0 ns) ≡ met_from [] [] ns
unfolding met_rows Steady
met_flatten ns l = rw (append-nil (flatten 0 ns), append-nil (met_from [] [] ns)) at (met_nodes 0 ns [] l (λ a b earlier h k e. refl) (replicate 8 0) [] refl)

-- The rows of the table are low.
pub low_flats : (c nodes : List ℕ) (i n : ℕ) → all_low (flats c nodes i n) ≡ true
unfolding all_low every flats rising flat_of
low_flats c nodes i zero = refl
low_flats c nodes i (suc n) = rw (lt-ltb (node_at nodes i).depth 8 (depth_small nodes i (node_at nodes i) refl)) (low_flats c nodes (suc i) n)
