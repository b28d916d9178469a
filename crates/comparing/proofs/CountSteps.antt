-- Two disclose lists in one pass, item by item.
use Prim.Native.Nat.{ℕ, ◌+◌, ◌-◌, ◌*◌, ◌<◌, ◌≤◌}
use mathlib.Core.Bool.{true, false}
use mathlib.Core.List.{List}
use mathlib.Core.Path.{◌≡◌, refl, sym, ◌∙◌}
use borrow.Author.Tests.{lt-ltb, le-ltb, le-leb, lt-leb, eq-eqb, ne_eqb}
use lib.ListN.{get_or}
use Rattle.reading.proofs.Tests.{tests}
use Rattle.policy.proofs.RowLaws.{items_more, items_none, items_all}
use Rattle.policy.specs.Rows.{word_in, items_at}
use Rattle.comparing.specs.Rows.{from_group, first_count, lists_within}

-- The items from a group on are among those from the i-th on.
pub record FromLeft (c : List ℕ) (at n from group i : ℕ) : Type 0 where
  pub same : from_group group (items_at (n - i) c (at + 3 * i)) ≡ from_group group (items_at (n - from) c (at + 3 * from))

pub from_start : (c : List ℕ) (at n from group : ℕ) → FromLeft c at n from group from
from_start c at n from group = record { same = refl }

module _ (c : List ℕ) (at n from group i : ℕ) (s : FromLeft c at n from group i) where
  abbrev Found : Type 0
  Found = items_at (n - i) c (at + 3 * i) ≡ from_group group (items_at (n - from) c (at + 3 * from))

  pub from_end : n ≤ i → Found
  unfolding from_group
  from_end h = rw (items_none c n at i h) (rw (items_none c n at i h) at s.same)

  module _ (x : ℕ) (h : i < n) (e : x ≡ get_or c (at + 3 * i) 0) where
    pub from_stop : group ≤ x → Found
    unfolding from_group
    from_stop k = items_more c n at i h ∙ rw (← e) (rw (items_more c n at i h, ← e, le-ltb x group k) at s.same)

    pub from_next : x < group → FromLeft c at n from group (i + 1)
    unfolding from_group
    from_next k = record { same = rw (items_more c n at i h, ← e, lt-ltb x group k) at s.same }

-- The count of a group at an item.
module _ (c : List ℕ) (at n i group : ℕ) where
  pub count_past : n ≤ i → 0 ≡ first_count group (items_at (n - i) c (at + 3 * i))
  unfolding first_count
  count_past h = rw (items_none c n at i h)

  module _ (x : ℕ) (h : i < n) (e : x ≡ get_or c (at + 3 * i) 0) where
    pub count_other : (x ≡ group → ⊥) → 0 ≡ first_count group (items_at (n - i) c (at + 3 * i))
    unfolding first_count
    count_other k = rw (items_more c n at i h, ← e, ne_eqb x group k)

    pub count_here : (w : ℕ) → x ≡ group → w ≡ word_in c (at + 3 * i + 1) → w ≡ first_count group (items_at (n - i) c (at + 3 * i))
    unfolding first_count
    count_here w k l = rw (items_more c n at i h, ← e, eq-eqb x group k) l

pub ruleset count_steps = (tests, from_start, from_end, from_stop, from_next, count_past, count_other, count_here)

-- Whether a list is within another is whether the items from the i-th on are within those from the j-th on.
pub record ListsLeft (a : List ℕ) (p n : ℕ) (b : List ℕ) (q m i j : ℕ) : Type 0 where
  pub same : lists_within (items_at n a p) (items_at m b q) ≡ lists_within (items_at (n - i) a (p + 3 * i)) (items_at (m - j) b (q + 3 * j))

pub lists_start : (a : List ℕ) (p n : ℕ) (b : List ℕ) (q m : ℕ) → ListsLeft a p n b q m 0 0
lists_start a p n b q m = record { same = rw (items_all a n p, items_all b m q) }

module _ (a : List ℕ) (p n : ℕ) (b : List ℕ) (q m i j : ℕ) (s : ListsLeft a p n b q m i j) where
  pub lists_end : n ≤ i → true ≡ lists_within (items_at n a p) (items_at m b q)
  unfolding lists_within
  lists_end h = rw (items_none a n p i h) at (sym s.same)

  module _ (h : i < n) (g : ℕ) (e : g ≡ get_or a (p + 3 * i) 0) (k : ℕ)
      (f : items_at (m - k) b (q + 3 * k) ≡ from_group g (items_at (m - j) b (q + 3 * j))) (x : ℕ) (t : x ≡ first_count g (items_at (m - k) b (q + 3 * k)))
      (w : ℕ) (u : w ≡ word_in a (p + 3 * i + 1)) where
    pub lists_over : x < w → false ≡ lists_within (items_at n a p) (items_at m b q)
    unfolding lists_within
    lists_over l = sym (rw (items_more a n p i h, ← e, ← f, ← t, ← u, lt-leb w x l) at s.same)

    pub lists_next : w ≤ x → ListsLeft a p n b q m (i + 1) k
    unfolding lists_within
    lists_next l = record { same = rw (items_more a n p i h, ← e, ← f, ← t, ← u, le-leb w x l) at s.same }

pub ruleset list_steps = (tests, lists_start, lists_end, lists_over, lists_next)
