-- Question 15 over the rows of a tree: the groups at and below a row are marked, and each group disclosed to below it is looked
-- up among the marks.
use Prim.Native.Nat.{ℕ, zero, suc, ◌+◌, ◌-◌, ◌*◌, ◌<◌, ◌≤◌}
use mathlib.Core.Bool.{Bool, true, false, cond, not, ◌&&◌, ◌||◌, or-false, or-true}
use mathlib.Core.List.{List, [], ◌∷◌, ◌++◌}
use mathlib.Core.Path.{◌≡◌, refl, sym, ◌∙◌}
use native.Mathlib.Omega.{arith}
use borrow.Author.Tests.{not-true, not-false, lt-ltb, le-ltb, ne_eqb, eqb-true, eqb-false, ltb-true, ltb-false}
use lib.Dec.{eqb, ltb}
use lib.ListN.{length, get_or, set, replicate, length-set, get_or-replicate}
use lib.Seq.{get_or-set_same, get_or-set_other}
use Rattle.inference.specs.Lists.{every, gather, rising}
use Rattle.reading.specs.Forms.{member}
use Rattle.policy.proofs.NodeLaws.{node_steps, group_small}
use Rattle.policy.proofs.RowLaws.{flats_more, flats_none, items_more, items_none, items_all}
use Rattle.inference.proofs.EveryLaws.{every_append, every_same}
use Rattle.policy.specs.Syntax.{has_bit}
use Rattle.policy.specs.WellFormed.{disclosed_to, groups_at}
use Rattle.policy.specs.Rows.{node_at, items_at, permissions_of, flat_of, flats}
use Rattle.wellformed.specs.Rows.{heads_in, below_in, kept_in, all_kept, fence_of, is_marked, all_marked, listed_groups}
use Rattle.policy.specs.declared.Node.{Node}

-- One group more is marked.
mark_one : (marks : List Bool) (g h : ℕ) → g < length marks → is_marked (set marks g true) h ≡ (eqb g h || is_marked marks h)
unfolding is_marked
mark_one marks g h k = go (eqb g h) refl
  where
    go : (t : Bool) → eqb g h ≡ t → get_or (set marks g true) h false ≡ (t || get_or marks h false)
    go true e = rw (← eqb-true g h e, get_or-set_same marks g true false k)
    go false e = rw (get_or-set_other marks g h true false (λ z. eqb-false g h e (sym z)))

none_marked : (h : ℕ) → h < 64 → is_marked (replicate 64 false) h ≡ false
unfolding is_marked
none_marked h k = rw (get_or-replicate {A = Bool} 64 h false false k)

-- The groups at and below a row are the marked ones and those from the i-th row on.
pub record MarksLeft (nodes : List ℕ) (marks : List Bool) (row to i : ℕ) : Type 0 where
  pub long : length marks ≡ 64
  pub same : (c : List ℕ) (h : ℕ) → h < 64
      → (is_marked marks h || member h (groups_at (heads_in (below_in (node_at nodes row).depth (flats c nodes i (to - i))))))
      ≡ member h (fence_of (flats c nodes row (to - row)))

pub marks_start : (nodes : List ℕ) (row to : ℕ) (n : Node) → row < to → n ≡ node_at nodes row
    → MarksLeft nodes (set (replicate 64 false) n.group true) row to (row + 1)
unfolding fence_of flat_of member
marks_start nodes row to n h e = record {
  long = length-set (replicate 64 false) n.group true;
  same = λ c g k. rw (flats_more c nodes row to h, ← e, mark_one (replicate 64 false) n.group g (group_small nodes row n e), none_marked g k, or-false);
}

module _ (nodes : List ℕ) (marks : List Bool) (row to i : ℕ) (s : MarksLeft nodes marks row to i) where
  abbrev Whole : Type 0
  Whole = (c : List ℕ) (h : ℕ) → h < 64 → is_marked marks h ≡ member h (fence_of (flats c nodes row (to - row)))

  pub marks_end : to ≤ i → Whole
  unfolding below_in heads_in groups_at member
  marks_end h c g k = sym (or-false (is_marked marks g)) ∙ rw (flats_none c nodes i to h) at (s.same c g k)

  module _ (n m : Node) (h : i < to) (e : n ≡ node_at nodes row) (f : m ≡ node_at nodes i) where
    pub marks_stop : m.depth ≤ n.depth → Whole
    unfolding below_in flat_of heads_in groups_at member
    marks_stop k c g l =
        let z = rw (flats_more c nodes i to h, ← e, ← f, le-ltb n.depth m.depth k) at (s.same c g l) in
        sym (or-false (is_marked marks g)) ∙ z

    pub marks_next : n.depth < m.depth → MarksLeft nodes (set marks m.group true) row to (i + 1)
    unfolding below_in flat_of heads_in groups_at member
    marks_next k = record {
      long = length-set marks m.group true ∙ s.long;
      same = λ c g l.
          let deeper : (node_at nodes row).depth < m.depth = rw e at k in
          let z = rw (flats_more c nodes i to h, ← f, lt-ltb (node_at nodes row).depth m.depth deeper) at (s.same c g l) in
          rw (mark_one marks m.group g (omega (arith, group_small nodes i m f, s.long))) (swap (eqb m.group g) (is_marked marks g) _ ∙ z);
    }
      where
        swap : (a b d : Bool) → (a || b || d) ≡ (b || (a || d))
        swap true b d = sym (or-true b)
        swap false b d = refl

-- Whether all items' groups are marked is whether those of the items from the i-th on are.
pub record ListLeft (c : List ℕ) (marks : List Bool) (at n i : ℕ) : Type 0 where
  pub same : all_marked marks (listed_groups (items_at n c at)) ≡ all_marked marks (listed_groups (items_at (n - i) c (at + 3 * i)))

pub list_start : (c : List ℕ) (marks : List Bool) (at n : ℕ) → ListLeft c marks at n 0
list_start c marks at n = record { same = rw (items_all c n at) }

module _ (c : List ℕ) (marks : List Bool) (at n i : ℕ) (s : ListLeft c marks at n i) where
  pub list_end : n ≤ i → true ≡ all_marked marks (listed_groups (items_at n c at))
  unfolding all_marked listed_groups every
  list_end h = rw (items_none c n at i h) at (sym s.same)

  module _ (h : i < n) (g : ℕ) (e : g ≡ get_or c (at + 3 * i) 0) where
    pub list_large : 64 ≤ g → false ≡ all_marked marks (listed_groups (items_at n c at))
    unfolding all_marked listed_groups every
    list_large k = sym (rw (items_more c n at i h, ← e, le-ltb g 64 k) at s.same)

    pub list_unmarked : g < 64 → not (get_or marks g false) ≡ true → false ≡ all_marked marks (listed_groups (items_at n c at))
    unfolding all_marked listed_groups every is_marked
    list_unmarked l k = sym (rw (items_more c n at i h, ← e, lt-ltb g 64 l, not-true (get_or marks g false) k) at s.same)

    pub list_next : g < 64 → not (get_or marks g false) ≡ false → ListLeft c marks at n (i + 1)
    unfolding all_marked listed_groups every is_marked
    list_next l k = record { same = rw (items_more c n at i h, ← e, lt-ltb g 64 l, not-false (get_or marks g false) k) at s.same }

-- Whether every group disclosed to below a row is marked is whether those of the rows from the i-th on are.
pub record KeptLeft (c nodes : List ℕ) (marks : List Bool) (row to i : ℕ) : Type 0 where
  pub same : all_marked marks (disclosed_to (heads_in (below_in (node_at nodes row).depth (flats c nodes (row + 1) (to - (row + 1))))))
      ≡ all_marked marks (disclosed_to (heads_in (below_in (node_at nodes row).depth (flats c nodes i (to - i)))))

pub kept_start : (c nodes : List ℕ) (marks : List Bool) (row to : ℕ) → KeptLeft c nodes marks row to (row + 1)
kept_start c nodes marks row to = record { same = refl }

marked_append : (marks : List Bool) (l m : List ℕ) → all_marked marks (l ++ m) ≡ (all_marked marks l && all_marked marks m)
unfolding all_marked
marked_append marks l m = every_append (λ h. ltb h 64 && is_marked marks h) l m

module _ (c nodes : List ℕ) (marks : List Bool) (row to i : ℕ) (s : KeptLeft c nodes marks row to i) where
  abbrev kept_below : ℕ → Bool
  kept_below k = all_marked marks (disclosed_to (heads_in (below_in (node_at nodes row).depth (flats c nodes (k + 1) (to - (k + 1))))))

  pub kept_end : to ≤ i → true ≡ kept_below row
  unfolding all_marked every disclosed_to gather heads_in below_in
  kept_end h = rw (flats_none c nodes i to h) at (sym s.same)

  module _ (n m : Node) (h : i < to) (e : n ≡ node_at nodes row) (f : m ≡ node_at nodes i) where
    pub kept_stop : m.depth ≤ n.depth → true ≡ kept_below row
    unfolding all_marked every disclosed_to gather heads_in below_in flat_of
    kept_stop k = let l : m.depth ≤ (node_at nodes row).depth = rw e at k in
        sym (rw (flats_more c nodes i to h, ← f, le-ltb (node_at nodes row).depth m.depth l) at s.same)

    module _ (k : n.depth < m.depth) (r : Bool) (g : r ≡ all_marked marks (listed_groups (items_at m.permissions.count c m.permissions.list))) where
      more : kept_below row ≡ (r && kept_below i)
      unfolding disclosed_to gather heads_in below_in flat_of permissions_of listed_groups
      more =
          let l : (node_at nodes row).depth < m.depth = rw e at k in
          rw (s.same, flats_more c nodes i to h, ← f, lt-ltb (node_at nodes row).depth m.depth l, g) (marked_append marks _ _)

      pub kept_not : not r ≡ true → false ≡ kept_below row
      kept_not l = sym (rw (not-true r l) at more)

      pub kept_next : not r ≡ false → KeptLeft c nodes marks row to (i + 1)
      kept_next l = record { same = rw (not-false r l) at more }

-- No row has a group from 64 on.
none_large : (c nodes : List ℕ) (d h i k : ℕ) → 64 ≤ h → member h (groups_at (heads_in (below_in d (flats c nodes i k)))) ≡ false
unfolding flats rising below_in flat_of heads_in groups_at member
none_large c nodes d h i zero l = refl
none_large c nodes d h i (suc k) l = go (ltb d (flat_of c (node_at nodes i)).depth) (none_large c nodes d h (suc i) k l)
  where
    other : (flat_of c (node_at nodes i)).head.group ≡ h → ⊥
    other e = absurd (omega (arith, group_small nodes i (node_at nodes i) refl))

    go : (t : Bool) → member h (groups_at (heads_in (below_in d (flats c nodes (suc i) k)))) ≡ false
        → member h (groups_at (heads_in (cond t (flat_of c (node_at nodes i) ∷ below_in d (flats c nodes (suc i) k)) []))) ≡ false
    go true e = rw (ne_eqb (flat_of c (node_at nodes i)).head.group h other) e
    go false e = refl

-- A row's node: without nondisclose, and with it, where its groups are marked.
module _ (c nodes : List ℕ) (row to : ℕ) (n : Node) (e : n ≡ node_at nodes row) (b : Bool) (k : b ≡ has_bit 8 n.permissions.map) where
  abbrev kept : Bool
  kept = kept_in (flat_of c (node_at nodes row)) (below_in (node_at nodes row).depth (flats c nodes (row + 1) (to - (row + 1))))

  pub keeps_free : b ≡ false → true ≡ kept
  unfolding kept_in flat_of permissions_of
  keeps_free f = rw (← e, ← k, f)

  module _ (h : row < to) (f : b ≡ true) (marks : List Bool)
      (m : (c : List ℕ) (g : ℕ) → g < 64 → is_marked marks g ≡ member g (fence_of (flats c nodes row (to - row)))) where
    fence : List ℕ
    fence = (node_at nodes row).group ∷ groups_at (heads_in (below_in (node_at nodes row).depth (flats c nodes (row + 1) (to - (row + 1)))))

    fence_is : fence_of (flats c nodes row (to - row)) ≡ fence
    unfolding fence_of flat_of fence
    fence_is = rw (flats_more c nodes row to h)

    looked_up : (g : ℕ) → (ltb g 64 && is_marked marks g) ≡ member g fence
    unfolding fence member
    looked_up g = go (ltb g 64) refl
      where
        small : ltb g 64 ≡ true → is_marked marks g ≡ member g fence
        small l = rw fence_is at (m c g (ltb-true g 64 l))

        large : ltb g 64 ≡ false → false ≡ member g fence
        large l =
            let i = ltb-false g 64 l in
            let o : (node_at nodes row).group ≡ g → ⊥ = λ z. absurd (omega (arith, group_small nodes row (node_at nodes row) refl)) in
            rw (ne_eqb (node_at nodes row).group g o, none_large c nodes (node_at nodes row).depth g (row + 1) (to - (row + 1)) i)

        go : (t : Bool) → ltb g 64 ≡ t → (t && is_marked marks g) ≡ member g fence
        go true l = small l
        go false l = large l

    pub keeps_marked : (r : Bool)
        → r ≡ all_marked marks (disclosed_to (heads_in (below_in (node_at nodes row).depth (flats c nodes (row + 1) (to - (row + 1)))))) → r ≡ kept
    unfolding all_marked kept_in flat_of permissions_of fence
    keeps_marked r l = let z = rw e at k in rw (← z, f) (l ∙ every_same _ _ _ looked_up)

-- Whether all rows keep within their fence is whether those from the i-th on do.
pub record FencedLeft (c nodes : List ℕ) (start to i : ℕ) : Type 0 where
  pub same : all_kept (flats c nodes start (to - start)) ≡ all_kept (flats c nodes i (to - i))

pub fenced_start : (c nodes : List ℕ) (start to : ℕ) → FencedLeft c nodes start to start
fenced_start c nodes start to = record { same = refl }

module _ (c nodes : List ℕ) (start to i : ℕ) (s : FencedLeft c nodes start to i) where
  pub fenced_end : to ≤ i → true ≡ all_kept (flats c nodes start (to - start))
  unfolding all_kept
  fenced_end h = rw (flats_none c nodes i to h) at (sym s.same)

  module _ (h : i < to) (r : Bool) (g : r ≡ kept_in (flat_of c (node_at nodes i)) (below_in (node_at nodes i).depth (flats c nodes (i + 1) (to - (i + 1))))) where
    more_kept : all_kept (flats c nodes start (to - start)) ≡ (r && all_kept (flats c nodes (i + 1) (to - (i + 1))))
    unfolding all_kept flat_of
    more_kept = rw (s.same, flats_more c nodes i to h, g) same_depth
      where
        same_depth : (kept_in (flat_of c (node_at nodes i)) (below_in (flat_of c (node_at nodes i)).depth (flats c nodes (i + 1) (to - (i + 1)))) && all_kept (flats c nodes (i + 1) (to - (i + 1))))
            ≡ (kept_in (flat_of c (node_at nodes i)) (below_in (node_at nodes i).depth (flats c nodes (i + 1) (to - (i + 1)))) && all_kept (flats c nodes (i + 1) (to - (i + 1))))
        same_depth = refl

    pub fenced_not : not r ≡ true → false ≡ all_kept (flats c nodes start (to - start))
    fenced_not k = sym (rw (not-true r k) at more_kept)

    pub fenced_next : not r ≡ false → FencedLeft c nodes start to (i + 1)
    fenced_next k = record { same = rw (not-false r k) at more_kept }

pub ruleset fence_steps = (
  node_steps,
  marks_start,
  marks_end,
  marks_stop,
  marks_next,
  list_start,
  list_end,
  list_large,
  list_unmarked,
  list_next,
  kept_start,
  kept_end,
  kept_stop,
  kept_not,
  kept_next,
  keeps_free,
  keeps_marked,
  fenced_start,
  fenced_end,
  fenced_not,
  fenced_next,
)
