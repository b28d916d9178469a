-- The groups of a component's path in its row, rising: the search for the next group, and the loop that stores them.
use Prim.Native.Nat.{ℕ, zero, suc, ◌+◌, ◌-◌, ◌*◌, ◌%◌, ◌≤◌, ◌<◌, min}
use mathlib.Core.Bool.{Bool, true, false, cond, ◌||◌}
use mathlib.Core.List.{List, [], ◌∷◌}
use Rattle.std.specs.Prelude.{Some, None}
use mathlib.Core.Path.{◌≡◌, refl, sym, ap, ◌∙◌}
use native.Mathlib.Numerals.{add-one}
use native.Mathlib.Omega.{arith}
use native.Mathlib.Decide.{ℕ_discrete}
use borrow.Author.Rules.{rules}
use borrow.Author.Tests.{lt-ltb, le-ltb, ltb-true, ltb-false, eq-eqb, ne_eqb}
use lib.Dec.{ltb, eqb}
use lib.ListN.{length, drop, get_or, set, length-set, drop_of_length-le}
use lib.Seq.{drop-cons}
use Rattle.reading.specs.Forms.{member}
use Rattle.reading.specs.Told.{path_of}
use Rattle.reading.specs.declared.Path.{Path}
use Rattle.inference.specs.Lists.{only, rising}
use Rattle.inference.specs.Rows.{stored, candidate, next_group, found_group, rising_groups, with_groups, with_path}

-- The search for the next group has come to a place of the path.
pub record Nearest (path : List ℕ) (from best i : ℕ) : Type 0 where
  pub same : next_group path from ≡ min best (next_group (drop i path) from)
  pub few : best ≤ 64

next_few : (path : List ℕ) (from : ℕ) → next_group path from ≤ 64
unfolding next_group
next_few [] from = omega arith
next_few (g ∷ path) from = omega (arith, next_few path from)

pub near_first : (path : List ℕ) (from : ℕ) → Nearest path from 64 0
near_first path from = record { same = omega (arith, next_few path from); few = omega arith }

module _ (path : List ℕ) (from best i : ℕ) (s : Nearest path from best i) where
  over : length path ≤ i → best ≡ next_group path from
  unfolding next_group
  over h = sym (rw (drop_of_length-le path h) at s.same ∙ omega (arith, s.few))

  pub near_found : (p : Path) → path ≡ path_of p → length path ≤ i → best < 64 → Some best ≡ found_group (next_group (path_of p) from)
  unfolding found_group
  near_found p e h k = rw (← e, ← over h, lt-ltb best 64 k)

  pub near_none : (p : Path) → path ≡ path_of p → length path ≤ i → 64 ≤ best → None ≡ found_group (next_group (path_of p) from)
  unfolding found_group
  near_none p e h k = rw (← e, ← over h, le-ltb best 64 k)

  here : i < length path → drop i path ≡ get_or path i 0 ∷ drop (i + 1) path
  here h = rw (drop-cons path i 0 h, add-one)

  pub near_next : (v : ℕ) → i < length path → from ≤ get_or path i 0 → v ≡ min best (get_or path i 0) → Nearest path from v (i + 1)
  unfolding next_group candidate
  near_next v h k e = record {
    same = let q = rw (here h, le-ltb (get_or path i 0) from k) at s.same in omega (arith, e, q);
    few = omega (arith, e, s.few);
  }

  pub near_past : i < length path → get_or path i 0 < from → Nearest path from best (i + 1)
  unfolding next_group candidate
  near_past h k = record {
    same = let q = rw (here h, lt-ltb (get_or path i 0) from k) at s.same in omega (arith, q, s.few);
    few = s.few;
  }

pub ruleset near_steps = (rules, near_first, near_found, near_none, near_next, near_past)

-- A group of the path is the next from itself on; any other is passed over.
by_test : (P : ℕ → Type 0) (a b x y : ℕ) → (a < b → P x) → (b ≤ a → P y) → P (cond (ltb a b) x y)
by_test P a b x y h k = go (ltb a b) refl
  where
    go : (t : Bool) → ltb a b ≡ t → P (cond t x y)
    go true e = h (ltb-true a b e)
    go false e = k (ltb-false a b e)

candidate_least : (x g : ℕ) → g ≤ 64 → g ≤ candidate x g
unfolding candidate
candidate_least x g h = by_test (λ v. g ≤ v) x g 64 x (λ k. h) (λ k. k)

next_least : (path : List ℕ) (g : ℕ) → g ≤ 64 → g ≤ next_group path g
unfolding next_group
next_least [] g h = h
next_least (x ∷ path) g h = omega (arith, candidate_least x g h, next_least path g h)

candidate_same : (g : ℕ) → candidate g g ≡ g
unfolding candidate
candidate_same g = rw (le-ltb g g (omega arith))

candidate_past : (x g : ℕ) → (x ≡ g → ⊥) → candidate x g ≡ candidate x (suc g)
unfolding candidate
candidate_past x g f = by_test (λ v. v ≡ cond (ltb x (suc g)) 64 x) x g 64 x (λ k. rw (lt-ltb x (suc g) (omega arith))) (λ k. rw (le-ltb x (suc g) (after k)))
  where
    after : g ≤ x → suc g ≤ x
    after k = go (ℕ_discrete x g)
      where
        go : Dec (x ≡ g) → suc g ≤ x
        go (yes e) = absurd (f e)
        go (no n) = omega (arith, n)

next_is : (path : List ℕ) (g : ℕ) → g < 64 → member g path ≡ true → next_group path g ≡ g
unfolding member next_group
next_is [] g h m = let z : ◌≡◌ {A = ℕ} 0 1 = cc in absurd (omega arith)
next_is (x ∷ path) g h m = go (ℕ_discrete x g) m (next_is path g h)
  where
    go : Dec (x ≡ g) → (eqb x g || member g path) ≡ true → (member g path ≡ true → next_group path g ≡ g) → min (candidate x g) (next_group path g) ≡ g
    go (yes e) m rest = rw (e, candidate_same g) (omega (arith, next_least path g (omega arith)))
    go (no f) m rest = rw (rest (rw (ne_eqb x g f) at m)) (omega (arith, candidate_least x g (omega arith)))

next_past : (path : List ℕ) (g : ℕ) → member g path ≡ false → next_group path g ≡ next_group path (suc g)
unfolding member next_group
next_past [] g m = refl
next_past (x ∷ path) g m = go (ℕ_discrete x g) m (next_past path g)
  where
    go : Dec (x ≡ g) → (eqb x g || member g path) ≡ false → (member g path ≡ false → next_group path g ≡ next_group path (suc g))
        → min (candidate x g) (next_group path g) ≡ min (candidate x (suc g)) (next_group path (suc g))
    go (yes e) m rest = let t = rw (eq-eqb x g e) at m in let z : ◌≡◌ {A = ℕ} 0 1 = cc in absurd (omega arith)
    go (no f) m rest = rw (candidate_past x g f, rest (rw (ne_eqb x g f) at m))

-- The path's groups from one of them on.
unfoldable pub groups_from : List ℕ → ℕ → List ℕ
groups_from path g = cond (ltb g 64) (g ∷ only (λ x. member x path) (rising (suc g) (63 - g))) []

next_groups : (path : List ℕ) (n from : ℕ) → from + n ≡ 64 → only (λ x. member x path) (rising from n) ≡ groups_from path (next_group path from)
unfolding only rising
next_groups path zero from h = unfold groups_from in rw (le-ltb (next_group path from) 64 (omega (arith, next_least path from (omega arith))))
next_groups path (suc n) from h = go (member from path) refl (next_groups path n (suc from) (omega arith))
  where
    go : (b : Bool) → member from path ≡ b
        → only (λ x. member x path) (rising (suc from) n) ≡ groups_from path (next_group path (suc from))
        → cond b (from ∷ only (λ x. member x path) (rising (suc from) n)) (only (λ x. member x path) (rising (suc from) n)) ≡ groups_from path (next_group path from)
    go true e rest = unfold groups_from in let k : 63 - from ≡ n = omega arith in rw (next_is path from (omega arith) e, lt-ltb from 64 (omega arith), k)
    go false e rest = rw (next_past path from e) rest

-- A group that is found, and none.
by_group : (P : Type 0) (t : Bool) (n g : ℕ) → Some g ≡ cond t (Some n) None → (t ≡ true → g ≡ n → P) → P
by_group P true n g e f = f refl (cc)
by_group P false n g e f = cc

pub group_is : (n g : ℕ) → Some g ≡ found_group n → g ≡ n
unfolding found_group
group_is n g e = by_group (g ≡ n) (ltb n 64) n g e (λ t q. q)

pub group_low : (n g : ℕ) → Some g ≡ found_group n → g < 64
unfolding found_group
group_low n g e = by_group (g < 64) (ltb n 64) n g e (λ t q. rw q (ltb-true n 64 t))

by_no_group : (t : Bool) (n : ℕ) → None ≡ cond t (Some n) None → t ≡ false
by_no_group true n e = cc
by_no_group false n e = refl

pub no_group : (n : ℕ) → None ≡ found_group n → 64 ≤ n
unfolding found_group
no_group n e = ltb-false n 64 (by_no_group (ltb n 64) n e)

-- Storing: what is left to store makes of the table now what all of it makes of the table at first.
pub record Rising (row : ℕ) (path first table : List ℕ) (count group : ℕ) : Type 0 where
  pub left : stored table (row + 10 + count) (groups_from path group) ≡ stored first (row + 10) (rising_groups path)
  pub number : count + length (groups_from path group) ≡ length (rising_groups path)
  pub same : length table ≡ length first
  pub behind : count ≤ group
  pub few : group ≤ 64

pub rise_first : (row g : ℕ) (path t : List ℕ) → g ≡ next_group path 0 → Rising row path t t 0 g
unfolding rising_groups
rise_first row g path t e = record {
  left = let z : row + 10 + 0 ≡ row + 10 = omega arith in rw (z, e, next_groups path 64 0 refl);
  number = rw (e, next_groups path 64 0 refl) (omega arith);
  same = refl;
  behind = omega arith;
  few = omega (arith, e, next_few path 0);
}

module _ (row count g : ℕ) (path first t : List ℕ) (s : Rising row path first t count g) where
  first_then : g < 64 → groups_from path g ≡ g ∷ only (λ x. member x path) (rising (suc g) (63 - g))
  unfolding groups_from
  first_then h = rw (lt-ltb g 64 h)

  after : g < 64 → groups_from path g ≡ g ∷ groups_from path (next_group path (g + 1))
  after h = rw add-one (first_then h ∙ ap (λ (l : List ℕ). g ∷ l) (next_groups path (63 - g) (suc g) (omega arith)))

  nothing_left : 64 ≤ g → groups_from path g ≡ []
  unfolding groups_from
  nothing_left h = rw (le-ltb g 64 h)

  ended : {l m : List ℕ} → l ≡ [] → stored t (row + 10 + count) l ≡ m → t ≡ m
  unfolding stored
  ended q w = rw q at w

  pub rise_next : (u : List ℕ) (v : ℕ) → g < 64 → u ≡ set t (row + 10 + count) (g % 65536) → v ≡ next_group path (g + 1)
      → Rising row path first u (count + 1) v
  unfolding stored
  rise_next u v h e f = record {
    left = rw (lined, e, f) (rw (after h) at s.left);
    number = rw f (omega (arith, rw (after h) at s.number));
    same = omega (arith, s.same, ap length e, length-set t (row + 10 + count) (g % 65536));
    behind = omega (arith, s.behind, f, next_least path (g + 1) (omega arith));
    few = omega (arith, f, next_few path (g + 1));
  }
    where
      lined : row + 10 + (count + 1) ≡ row + 10 + count + 1
      lined = omega arith

  pub rise_more : (u : List ℕ) (x : ℕ) → Some x ≡ found_group g → u ≡ set t (row + 10 + count) (x % 65536)
      → Rising row path first u (count + 1) (next_group path (x + 1))
  rise_more u x e f =
      let q = group_is g x e in
      rise_next u (next_group path (x + 1)) (rw q at (group_low g x e)) (rw q at f) (rw q refl)

  pub rise_last : (c : ℕ) (u : List ℕ) → row ≡ c * 211 → 64 ≤ g → u ≡ set t (row + 9) (count % 65536) → u ≡ with_groups first c (rising_groups path)
  unfolding with_groups
  rise_last c u r h e = let none = nothing_left h in
      rw (e, ← r, ← ended none s.left) (ap (λ (n : ℕ). set t (row + 9) (n % 65536)) (omega (arith, rw none at s.number)))

pub next_from : (path : List ℕ) (from g : ℕ) → Some g ≡ found_group (next_group path from) → from ≤ 64 → from ≤ g
next_from path from g e h = rw (group_is (next_group path from) g e) (next_least path from h)

pub path_stored : (t u v : List ℕ) (c : ℕ) (path : List ℕ) → u ≡ stored t (c * 211) (length path ∷ path) → v ≡ with_groups u c (rising_groups path) → v ≡ with_path t c path
unfolding with_path
path_stored t u v c path e f = rw (← e) f

pub ruleset rise_steps = (rules, rise_first, rise_next, rise_last, path_stored)
