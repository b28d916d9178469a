-- How much an entry lists for a group is what its acts, or its cells, count for the group.
use Prim.Native.Nat.{ℕ, zero, suc, ◌+◌, ◌<◌, ◌≤◌}
use native.Mathlib.Omega.{arith}
use native.Mathlib.Decide.{ℕ_discrete}
use mathlib.Core.Bool.{Bool, true, false, cond, not}
use mathlib.Core.List.{List, ◌∷◌, map}
use mathlib.Core.Path.{◌≡◌, refl, ◌∙◌}
use borrow.Author.Tests.{eq-eqb, ne_eqb}
use Rattle.inference.specs.Acts.{Component, Act}
use Rattle.inference.specs.Counts.{Count, fin, unlimited, is_zero}
use Rattle.inference.specs.Interface.{Disclosure, disclosures_of, entry_of, count_in}
use Rattle.inference.specs.Lists.{only, rising}
use Rattle.inference.specs.Needs.{disclosed}
use Rattle.inference.specs.Rows.{Orderly, cell, count_of, group_count, group_at, disclosures_at, entry_at}

nothing_counted : (x : Count) → is_zero x ≡ true → fin 0 ≡ x
unfolding is_zero
nothing_counted (fin zero) e = refl
nothing_counted (fin (suc n)) e = let z : ◌≡◌ {A = ℕ} 0 1 = cc in absurd (omega arith)
nothing_counted unlimited e = let z : ◌≡◌ {A = ℕ} 0 1 = cc in absurd (omega arith)

-- A list of the groups that have a count, group after group: as many as n from a place on, which rise.
Rises : (ℕ → ℕ) → ℕ → ℕ → Type 0
Rises g start n = (i j : ℕ) → start ≤ i → i < j → j < start + n → g i < g j

module _ (g : ℕ → ℕ) (f : ℕ → Count) where
  item : ℕ → Disclosure
  item i = record { group = g i; count = f i }

  items : ℕ → ℕ → List Disclosure
  items start n = only (λ d. not (is_zero d.count)) (map item (rising start n))

  passed_over : (h start n : ℕ) → ((i : ℕ) → start ≤ i → i < start + n → h < g i) → count_in h (items start n) ≡ fin 0
  unfolding items item only rising count_in
  passed_over h start zero l = refl
  passed_over h start (suc n) l = go (not (is_zero (f start))) (passed_over h (suc start) n (λ i p q. l i (omega arith) (omega arith))) (l start (omega arith) (omega arith))
    where
      go : (b : Bool) → count_in h (items (suc start) n) ≡ fin 0 → h < g start → count_in h (cond b (item start ∷ items (suc start) n) (items (suc start) n)) ≡ fin 0
      go true e k = rw (ne_eqb (g start) h (λ q. omega arith)) e
      go false e k = e

  counted_in_lem : (j start n : ℕ) → start ≤ j → j < start + n → Rises g start n → count_in (g j) (items start n) ≡ f j
  unfolding items item only rising count_in Rises
  counted_in_lem j start zero l u r = absurd (omega arith)
  counted_in_lem j start (suc n) l u r =
      go (ℕ_discrete start j) (is_zero (f start)) refl
      (λ later. counted_in_lem j (suc start) n later (omega arith) (λ i k p q s. r i k (omega arith) q (omega arith)))
      (passed_over (g start) (suc start) n (λ i p q. r start i (omega arith) (omega arith) (omega arith)))
      (λ later. r start j (omega arith) later (omega arith))
    where
      go : Dec (start ≡ j) → (z : Bool) → is_zero (f start) ≡ z → (suc start ≤ j → count_in (g j) (items (suc start) n) ≡ f j)
          → count_in (g start) (items (suc start) n) ≡ fin 0 → (start < j → g start < g j)
          → count_in (g j) (cond (not z) (item start ∷ items (suc start) n) (items (suc start) n)) ≡ f j
      go (yes s) true e rest none up = rw (← s) (none ∙ nothing_counted (f start) e)
      go (yes s) false e rest none up = rw (← s, eq-eqb (g start) (g start) refl)
      go (no q) true e rest none up = rest (omega (arith, q))
      go (no q) false e rest none up = rw (ne_eqb (g start) (g j) (λ k. omega (arith, q, up (omega (arith, q))))) (rest (omega (arith, q)))

-- An entry that was inferred lists what its acts disclose.
pub listed_acts : (c : Component) (acts : List Act) (kind h : ℕ) → h < 64 → count_in h (entry_of c acts kind).disclose ≡ disclosed kind h acts
unfolding entry_of disclosures_of items item Rises
listed_acts c acts kind h l = counted_in_lem (λ g. g) (λ g. disclosed kind g acts) h 0 64 (omega arith) (omega arith) (λ i j p q r. q)

-- An entry of a table whose groups rise lists what stands in its cells.
pub listed_cells : (table : List ℕ) (n kind i : ℕ) → i < group_count table n → Orderly table n
    → count_in (group_at table n i) (entry_at table n kind).disclose ≡ count_of (cell table n kind i)
unfolding entry_at disclosures_at items item Rises
listed_cells table n kind i l up =
    counted_in_lem (group_at table n) (λ j. count_of (cell table n kind j)) i 0 (group_count table n) (omega arith) (omega arith) (λ j k p q r. up.rises j k q (omega arith))
