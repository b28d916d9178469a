-- Two permissions, two rows, and two trees row by row.
use Prim.Native.Nat.{ℕ, zero, suc, ◌+◌, ◌-◌, ◌/◌, ◌%◌, ◌<◌, ◌≤◌}
use mathlib.Core.Bool.{Bool, true, false, not, ◌&&◌, and-true}
use native.Mathlib.Omega.{arith}
use mathlib.Core.List.{List}
use mathlib.Core.Path.{◌≡◌, refl, sym, ap, ◌∙◌}
use borrow.Author.Tests.{not-true, not-false, eq-eqb, ne_eqb}
use Rattle.inference.specs.Lists.{every, rising}
use Rattle.policy.proofs.NodeLaws.{node_steps}
use Rattle.policy.proofs.RowLaws.{flats_more, flats_none}
use Rattle.policy.specs.Syntax.{has_bit, bit_at}
use Rattle.policy.specs.Rows.{node_at, items_at, permissions_of, flat_of, flats}
use Rattle.policy.specs.declared.Node.{Node}
use Rattle.policy.specs.declared.Permissions.{Permissions}
use Rattle.containment.specs.Bits.{implies, bits_among}
use Rattle.containment.proofs.DigitLaws.{three_bits, one_bit}
use Rattle.comparing.specs.NoLooser.{maps_no_looser}
use Rattle.comparing.specs.Rows.{lists_within, row_within, rows_within}

-- Nondisclose: a map of one bit, B's asked among A's.
fence_bit : (x y : ℕ) → bits_among 4 (x / 8 % 2) (y / 8 % 2) ≡ implies (has_bit 8 x) (has_bit 8 y)
unfolding bits_among every rising bit_at has_bit
fence_bit x y = one_bit (x / 8) (y / 8) ∙ and-true _

module _ (p q : Permissions) (t : Bool) (e : t ≡ bits_among 4 (p.map % 8) (q.map % 8)) where
  flags_are : t ≡ bits_among 3 p.map q.map
  flags_are = e ∙ three_bits p.map q.map

  pub flags_differ : t ≡ false → (a b : List ℕ) → false ≡ maps_no_looser (permissions_of a p) (permissions_of b q)
  unfolding maps_no_looser permissions_of
  flags_differ h a b = rw (← flags_are, h)

  module _ (y : t ≡ true) (u : Bool) (f : u ≡ bits_among 16 p.purposes q.purposes) where
    pub purposes_differ : u ≡ false → (a b : List ℕ) → false ≡ maps_no_looser (permissions_of a p) (permissions_of b q)
    unfolding maps_no_looser permissions_of
    purposes_differ h a b = rw (← flags_are, y, ← f, h)

    pub fences_decide : u ≡ true → (v : Bool) → v ≡ bits_among 4 (q.map / 8 % 2) (p.map / 8 % 2)
        → (a b : List ℕ) → v ≡ maps_no_looser (permissions_of a p) (permissions_of b q)
    unfolding maps_no_looser permissions_of
    fences_decide h v k a b = rw (← flags_are, y, ← f, h) (k ∙ fence_bit q.map p.map)

pub ruleset map_steps = (node_steps, flags_differ, purposes_differ, fences_decide)

-- Two rows.
module _ (a : List ℕ) (n : Node) (b : List ℕ) (m : Node) where
  pub depth_differs : (n.depth ≡ m.depth → ⊥) → false ≡ row_within (flat_of a n) (flat_of b m)
  unfolding row_within flat_of
  depth_differs h = rw (ne_eqb n.depth m.depth h)

  module _ (d : n.depth ≡ m.depth) where
    pub group_differs : (n.group ≡ m.group → ⊥) → false ≡ row_within (flat_of a n) (flat_of b m)
    unfolding row_within flat_of
    group_differs h = rw (eq-eqb n.depth m.depth d, ne_eqb n.group m.group h)

    module _ (g : n.group ≡ m.group) (t : Bool) (e : (x y : List ℕ) → t ≡ maps_no_looser (permissions_of x n.permissions) (permissions_of y m.permissions)) where
      pub maps_differ : t ≡ false → false ≡ row_within (flat_of a n) (flat_of b m)
      unfolding row_within flat_of
      maps_differ h = rw (eq-eqb n.depth m.depth d, eq-eqb n.group m.group g, ← e a b, h)

      pub lists_decide : t ≡ true → (u : Bool)
          → u ≡ lists_within (items_at n.permissions.count a n.permissions.list) (items_at m.permissions.count b m.permissions.list)
          → u ≡ row_within (flat_of a n) (flat_of b m)
      unfolding row_within flat_of permissions_of
      lists_decide h u k = let z = e a b in rw (eq-eqb n.depth m.depth d, eq-eqb n.group m.group g, ← z, h) k

pub ruleset row_steps = (node_steps, depth_differs, group_differs, maps_differ, lists_decide)

-- Two trees of as many rows: those from the k-th on decide.
pub record RowsLeft (a nodes : List ℕ) (from to : ℕ) (b others : List ℕ) (start end k : ℕ) : Type 0 where
  pub same : rows_within (flats a nodes from (to - from)) (flats b others start (end - start))
      ≡ rows_within (flats a nodes (from + k) (to - (from + k))) (flats b others (start + k) (end - (start + k)))

module _ (a nodes : List ℕ) (from to : ℕ) (b others : List ℕ) (start end : ℕ) where
  abbrev whole : Bool
  whole = rows_within (flats a nodes from (to - from)) (flats b others start (end - start))

  -- Not as many rows in the other.
  uneven : (n m : ℕ) (i j : ℕ) → (n ≡ m → ⊥) → false ≡ rows_within (flats a nodes i n) (flats b others j m)
  unfolding rows_within flats rising
  uneven zero zero i j h = absurd (h refl)
  uneven zero (suc m) i j h = refl
  uneven (suc n) zero i j h = refl
  uneven (suc n) (suc m) i j h =
      no_more (row_within (flat_of a (node_at nodes i)) (flat_of b (node_at others j))) _ (uneven n m (suc i) (suc j) (λ e. h (ap (λ (x : ℕ). suc x) e)))
    where
      no_more : (t u : Bool) → false ≡ u → false ≡ (t && u)
      no_more true u e = e
      no_more false u e = refl

  pub rows_uneven : (n m : ℕ) → n ≡ to - from → m ≡ end - start → (n ≡ m → ⊥) → false ≡ whole
  rows_uneven n m e f h = rw (← e, ← f) (uneven n m from start h)

  pub rows_start : RowsLeft a nodes from to b others start end 0
  rows_start = let y : from + 0 ≡ from = omega arith in let z : start + 0 ≡ start = omega arith in record { same = rw (y, z) }

  module _ (k : ℕ) (s : RowsLeft a nodes from to b others start end k) (n m : ℕ) (e : n ≡ to - from) (f : m ≡ end - start) (g : n ≡ m) where
    pub rows_end : n ≤ k → true ≡ whole
    unfolding rows_within
    rows_end h = sym (rw (flats_none a nodes (from + k) to (omega arith), flats_none b others (start + k) end (omega arith)) at s.same)

    module _ (h : k < n) (t : Bool) (w : t ≡ row_within (flat_of a (node_at nodes (from + k))) (flat_of b (node_at others (start + k)))) where
      one_row : whole ≡ (t && rows_within (flats a nodes (from + (k + 1)) (to - (from + (k + 1)))) (flats b others (start + (k + 1)) (end - (start + (k + 1)))))
      unfolding rows_within
      one_row =
          let y : from + k + 1 ≡ from + (k + 1) = omega arith in
          let z : start + k + 1 ≡ start + (k + 1) = omega arith in
          s.same ∙ rw (flats_more a nodes (from + k) to (omega arith), flats_more b others (start + k) end (omega arith), w, y, z)

      pub rows_differ : not t ≡ true → false ≡ whole
      rows_differ l = sym (rw (not-true t l) at one_row)

      pub rows_next : not t ≡ false → RowsLeft a nodes from to b others start end (k + 1)
      rows_next l = record { same = rw (not-false t l) at one_row }

pub ruleset rows_steps = (node_steps, rows_uneven, rows_start, rows_end, rows_differ, rows_next)
