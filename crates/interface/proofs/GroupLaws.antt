-- The groups of a path, rising: they are below 64, there are no more of them than the path has, and each stands at one place.
use Prim.Native.Nat.{ℕ, zero, suc, ◌+◌, ◌<◌, ◌≤◌}
use mathlib.Core.Path.{◌≡◌, refl, sym, ap, ◌∙◌}
use mathlib.Core.List.{List, [], ◌∷◌}
use mathlib.Core.Bool.{Bool, true, false, cond, ◌||◌}
use mathlib.Core.Logic.{◌⊎◌, inl, inr}
use native.Mathlib.Omega.{arith}
use native.Mathlib.Decide.{ℕ_discrete}
use lib.ListN.{length, get_or}
use lib.Dec.{eqb}
use borrow.Author.Tests.{eq-eqb, ne_eqb}
use Rattle.reading.specs.Forms.{member}
use Rattle.inference.specs.Lists.{only, rising}
use Rattle.inference.specs.Rows.{group_at, place_from, rising_groups}

-- What is chosen from rising numbers rises.
module _ (p : ℕ → Bool) where
  chosen : ℕ → ℕ → List ℕ
  chosen start n = only p (rising start n)

  chosen_range : (n start i : ℕ) → i < length (chosen start n) → (start ≤ get_or (chosen start n) i 0) × (get_or (chosen start n) i 0 < start + n)
  unfolding chosen only rising
  chosen_range zero start i h = absurd (omega arith)
  chosen_range (suc n) start i h = go (p start) i h (λ j k. chosen_range n (suc start) j k)
    where
      go : (b : Bool) (i : ℕ) → i < length (cond b (start ∷ chosen (suc start) n) (chosen (suc start) n))
          → ((j : ℕ) → j < length (chosen (suc start) n) → (suc start ≤ get_or (chosen (suc start) n) j 0) × (get_or (chosen (suc start) n) j 0 < suc start + n))
          → (start ≤ get_or (cond b (start ∷ chosen (suc start) n) (chosen (suc start) n)) i 0)
          × (get_or (cond b (start ∷ chosen (suc start) n) (chosen (suc start) n)) i 0 < start + suc n)
      go true zero h rest = (omega arith, omega arith)
      go true (suc i) h rest = let r = rest i (omega arith) in (omega (arith, r.0), omega (arith, r.1))
      go false i h rest = let r = rest i h in (omega (arith, r.0), omega (arith, r.1))

  chosen_rises : (n start i j : ℕ) → i < j → j < length (chosen start n) → get_or (chosen start n) i 0 < get_or (chosen start n) j 0
  unfolding chosen only rising
  chosen_rises zero start i j h k = absurd (omega arith)
  chosen_rises (suc n) start i j h k = go (p start) i j h k (λ a b c d. chosen_rises n (suc start) a b c d) (λ a b. (chosen_range n (suc start) a b).0)
    where
      go : (b : Bool) (i j : ℕ) → i < j → j < length (cond b (start ∷ chosen (suc start) n) (chosen (suc start) n))
          → ((i j : ℕ) → i < j → j < length (chosen (suc start) n) → get_or (chosen (suc start) n) i 0 < get_or (chosen (suc start) n) j 0)
          → ((j : ℕ) → j < length (chosen (suc start) n) → suc start ≤ get_or (chosen (suc start) n) j 0)
          → get_or (cond b (start ∷ chosen (suc start) n) (chosen (suc start) n)) i 0 < get_or (cond b (start ∷ chosen (suc start) n) (chosen (suc start) n)) j 0
      go true i zero h k rest least = absurd (omega arith)
      go true zero (suc j) h k rest least = omega (arith, least j (omega arith))
      go true (suc i) (suc j) h k rest least = rest i j (omega arith) (omega arith)
      go false i j h k rest least = rest i j h k

-- The groups of a path.
module _ (path : List ℕ) where
  pub group_low : (i : ℕ) → i < length (rising_groups path) → get_or (rising_groups path) i 0 < 64
  unfolding rising_groups chosen
  group_low i h = (chosen_range (λ g. member g path) 64 0 i h).1

  pub group_rises : (i j : ℕ) → i < j → j < length (rising_groups path) → get_or (rising_groups path) i 0 < get_or (rising_groups path) j 0
  unfolding rising_groups chosen
  group_rises i j h k = chosen_rises (λ g. member g path) 64 0 i j h k

-- No more of them than the path has.
only_either : (p q : ℕ → Bool) (l : List ℕ) → length (only (λ g. p g || q g) l) ≤ length (only p l) + length (only q l)
unfolding only
only_either p q [] = omega arith
only_either p q (x ∷ l) = go (p x) (q x) (only_either p q l)
  where
    go : (a b : Bool) → length (only (λ g. p g || q g) l) ≤ length (only p l) + length (only q l)
        → length (cond (a || b) (x ∷ only (λ g. p g || q g) l) (only (λ g. p g || q g) l)) ≤ length (cond a (x ∷ only p l) (only p l)) + length (cond b (x ∷ only q l) (only q l))
    go true true h = omega arith
    go true false h = omega arith
    go false true h = omega arith
    go false false h = omega arith

past_one : (x n start : ℕ) → x < start → length (only (λ g. eqb x g) (rising start n)) ≡ 0
unfolding only rising
past_one x zero start h = refl
past_one x (suc n) start h = rw (ne_eqb x start (λ e. omega arith)) (past_one x n (suc start) (omega arith))

at_most_one : (x n start : ℕ) → length (only (λ g. eqb x g) (rising start n)) ≤ 1
unfolding only rising
at_most_one x zero start = omega arith
at_most_one x (suc n) start = go (ℕ_discrete x start) (at_most_one x n (suc start)) (past_one x n (suc start))
  where
    go : Dec (x ≡ start) → length (only (λ g. eqb x g) (rising (suc start) n)) ≤ 1 → (x < suc start → length (only (λ g. eqb x g) (rising (suc start) n)) ≡ 0)
        → length (cond (eqb x start) (start ∷ only (λ g. eqb x g) (rising (suc start) n)) (only (λ g. eqb x g) (rising (suc start) n))) ≤ 1
    go (yes e) h k = rw (eq-eqb x start e) (omega (arith, k (omega arith)))
    go (no f) h k = rw (ne_eqb x start f) h

only_none : (l : List ℕ) → length (only (λ g. false) l) ≡ 0
unfolding only
only_none [] = refl
only_none (x ∷ l) = only_none l

pub groups_few : (path : List ℕ) → length (rising_groups path) ≤ length path
unfolding rising_groups member
groups_few [] = omega (arith, only_none (rising 0 64))
groups_few (x ∷ path) =
    omega (arith, only_either (λ g. eqb x g) (λ g. member g path) (rising 0 64), at_most_one x 64 0, groups_few path)

-- The place of a group in a list, or 11.
unfoldable pub place_in : List ℕ → ℕ → ℕ → ℕ
place_in [] g i = 11
place_in (x ∷ xs) g i = cond (eqb x g) i (place_in xs g (suc i))

pub place_read : (table : List ℕ) (n g : ℕ) (xs : List ℕ) (i : ℕ) → ((j : ℕ) → j < length xs → group_at table n (i + j) ≡ get_or xs j 0)
    → place_from table n g i (length xs) ≡ place_in xs g i
unfolding place_from place_in
place_read table n g [] i same = refl
place_read table n g (x ∷ xs) i same =
    let here : group_at table n i ≡ x = (let z : i + 0 ≡ i = omega arith in rw z at (same 0 (omega arith))) in
    rw (here, place_read table n g xs (suc i) (λ j h. let z : suc i + j ≡ i + suc j = omega arith in rw z (same (suc j) (omega arith))))

place_after_lem : (xs : List ℕ) (g i j : ℕ) → j < 11 → j < i → place_in xs g i ≡ j → ⊥
unfolding place_in
place_after_lem [] g i j h k e = omega arith
place_after_lem (x ∷ xs) g i j h k e = go (eqb x g) e (λ f. place_after_lem xs g (suc i) j h (omega arith) f)
  where
    go : (b : Bool) → cond b i (place_in xs g (suc i)) ≡ j → (place_in xs g (suc i) ≡ j → ⊥) → ⊥
    go true e rest = omega arith
    go false e rest = rest e

-- a place below the list's length, or 11
pub place_column : (xs : List ℕ) (g i : ℕ) → i + length xs ≤ 8 → (place_in xs g i < 8) ⊎ (place_in xs g i ≡ 11)
unfolding place_in
place_column [] g i h = inr refl
place_column (x ∷ xs) g i h = go (eqb x g) (place_column xs g (suc i) (omega arith))
  where
    go : (b : Bool) → (place_in xs g (suc i) < 8) ⊎ (place_in xs g (suc i) ≡ 11) → (cond b i (place_in xs g (suc i)) < 8) ⊎ (cond b i (place_in xs g (suc i)) ≡ 11)
    go true rest = inl (omega arith)
    go false rest = rest

-- what stands at the place that was found
place_back : (xs : List ℕ) (g i j : ℕ) → i + j < 11 → place_in xs g i ≡ i + j → get_or xs j 0 ≡ g
unfolding place_in
place_back [] g i j h e = absurd (omega arith)
place_back (x ∷ xs) g i zero h e = go (ℕ_discrete x g) e
  where
    go : Dec (x ≡ g) → cond (eqb x g) i (place_in xs g (suc i)) ≡ i + 0 → x ≡ g
    go (yes f) e = f
    go (no f) e = absurd (place_after_lem xs g (suc i) i (omega arith) (omega arith) (rw (ne_eqb x g f) at e ∙ omega arith))
place_back (x ∷ xs) g i (suc j) h e = go (ℕ_discrete x g) e (λ f. place_back xs g (suc i) j (omega arith) f)
  where
    go : Dec (x ≡ g) → cond (eqb x g) i (place_in xs g (suc i)) ≡ i + suc j → (place_in xs g (suc i) ≡ suc i + j → get_or xs j 0 ≡ g) → get_or xs j 0 ≡ g
    go (yes f) e rest = let z = rw (eq-eqb x g f) at e in absurd (omega arith)
    go (no f) e rest = rest (rw (ne_eqb x g f) at e ∙ omega arith)

-- the place of what stands in a list that rises
place_of : (xs : List ℕ) (i j : ℕ) → ((a b : ℕ) → a < b → b < length xs → get_or xs a 0 < get_or xs b 0) → j < length xs → place_in xs (get_or xs j 0) i ≡ i + j
unfolding place_in
place_of [] i j up h = absurd (omega arith)
place_of (x ∷ xs) i zero up h = rw (eq-eqb x x refl) (omega arith)
place_of (x ∷ xs) i (suc j) up h =
    rw (ne_eqb x (get_or xs j 0) (λ e. omega (arith, up 0 (suc j) (omega arith) h)))
    (place_of xs (suc i) j (λ a b p q. up (suc a) (suc b) (omega arith) (omega arith)) (omega arith) ∙ omega arith)

-- A group is at a place exactly if it is the group that stands there.
pub place_is : (path : List ℕ) (g i : ℕ) → length path ≤ 8 → i < length (rising_groups path)
    → eqb (place_in (rising_groups path) g 0) i ≡ eqb g (get_or (rising_groups path) i 0)
place_is path g i short h = go (ℕ_discrete g (get_or (rising_groups path) i 0))
  where
    go : Dec (g ≡ get_or (rising_groups path) i 0) → eqb (place_in (rising_groups path) g 0) i ≡ eqb g (get_or (rising_groups path) i 0)
    go (yes e) =
        eq-eqb (place_in (rising_groups path) g 0) i
        (ap (λ (x : ℕ). place_in (rising_groups path) x 0) e ∙ place_of (rising_groups path) 0 i (group_rises path) h ∙ omega arith)
        ∙ sym (eq-eqb g (get_or (rising_groups path) i 0) e)
    go (no f) =
        ne_eqb (place_in (rising_groups path) g 0) i
        (λ e. f (sym (place_back (rising_groups path) g 0 i (omega (arith, groups_few path)) (e ∙ omega arith))))
        ∙ sym (ne_eqb g (get_or (rising_groups path) i 0) f)
