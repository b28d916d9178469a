-- The length of the slack, the same whatever the policy and the sums: what each return and each turn of a loop has to show.
use Prim.Native.Nat.{ℕ, zero, suc, ◌+◌, ◌*◌, ◌<◌, ◌≤◌}
use Rattle.std.specs.Prelude.{Ok, Err}
use mathlib.Core.Path.{◌≡◌, refl, sym, ◌∙◌}
use mathlib.Core.List.{List, []}
use mathlib.Core.Bool.{Bool, true, false, not}
use native.Mathlib.Omega.{arith}
use mir.Syntax.{w64}
use mir.Val.{Fits}
use lib.ListN.{length}
use borrow.Author.Rules.{rules}
use borrow.Author.Tests.{not-true, not-false}
use Rattle.reading.specs.Told.{path_of}
use Rattle.reading.specs.declared.Path.{Path}
use Rattle.reading.specs.declared.Question.TheVariants as question
use Rattle.inference.specs.Interface.{map_of}
use Rattle.inference.specs.Rows.{is_set, cell, path_at, disclosures_at, entry_at}
use Rattle.interface.specs.Writes.{Stored}
use Rattle.interface.proofs.WriteLaws.{Counting, count_first, count_next, count_last, count_fits}
use Rattle.interface.proofs.InterfaceLaws.{map_none, map_some, path_few}
use Rattle.policy.specs.Loads.{no_trees}
use Rattle.policy.specs.declared.Trees.{Trees}
use Rattle.service.specs.Told.{Delivered}
use Rattle.service.proofs.CheckSteps.{no_room, room}
use Rattle.slack.specs.Rows.{slack_at, slack_row, slack_rows}
use Rattle.slack.proofs.SlackLaws.{sums_length, whole_length, at_few, row_is, rows_are, slack_row_few}

-- Up to the map.
module _ (t : List ℕ) (n : ℕ) where
  pub head_is : {r : ℕ} (p : Path) → path_of p ≡ path_at t n → r ≡ length (path_of p) → 4 + r ≡ 4 + length (path_at t n)
  head_is p e h = rw (h, e)

  pub head_few : {r : ℕ} (p : Path) → path_of p ≡ path_at t n → r ≡ length (path_of p) → 4 + r ≤ 12
  head_few p e h = rw (h, e) (omega (arith, path_few t n))

  pub head_fits : {r : ℕ} (p : Path) → path_of p ≡ path_at t n → r ≡ length (path_of p) → Fits w64 (4 + r)
  head_fits p e h = record { fits = omega (arith, head_few p e h) }

-- An entry.
module _ (t : List ℕ) (n k : ℕ) (u : Bool) (is : u ≡ is_set (cell t n k 11)) where
  abbrev Long : ℕ → Type 0
  Long r = (c nodes : List ℕ) (trees : Trees) (sums : List ℕ) → r ≡ length (slack_at c nodes trees t sums n k)

  pub long_unused : not u ≡ true → Long 0
  unfolding slack_at
  long_unused h c nodes trees sums = rw (← is, not-true u h)

  module _ (m : ℕ) (i : not u ≡ false) (e : m ≡ map_of (entry_at t n k)) where
    pub long_none : m ≡ 0 → Long 0
    unfolding slack_at
    long_none h c nodes trees sums = rw (← is, not-false u i, map_none (entry_at t n k) (sym e ∙ h))

    module _ (h : m ≡ 0 → ⊥) (g head : ℕ) (groups : g ≡ length (disclosures_at t n k)) (up : head ≡ 4 + length (path_at t n)) where
      long_some : Long (head + sums_length g)
      unfolding slack_at
      long_some c nodes trees sums =
          rw (← is, not-false u i, map_some (entry_at t n k) (λ q. h (e ∙ q)), up, groups) (omega (arith, whole_length c nodes trees t sums n k))

      pub long_flags : g ≡ 0 → Long head
      unfolding sums_length
      long_flags none c nodes trees sums = let z : head + 0 ≡ head = omega arith in sym z ∙ (rw none at (long_some c nodes trees sums))

      pub long_groups : (g ≡ 0 → ⊥) → Long (head + (1 + 5 * g))
      unfolding sums_length
      long_groups some c nodes trees sums = go g some (long_some c nodes trees sums)
        where
          go : (x : ℕ) → (x ≡ 0 → ⊥) → {l : ℕ} → head + sums_length x ≡ l → head + (1 + 5 * x) ≡ l
          go zero f d = absurd (f refl)
          go (suc x) f d = d

-- A component's entries.
pub record RowCounted (t : List ℕ) (n len k : ℕ) : Type 0 where
  pub counting : (c nodes : List ℕ) (trees : Trees) (sums : List ℕ) → Counting (slack_at c nodes trees t sums n) 53 16 len k

module _ (t : List ℕ) (n : ℕ) where
  pub row_counted_first : RowCounted t n 0 0
  row_counted_first = record { counting = λ c nodes trees sums. count_first (slack_at c nodes trees t sums n) 53 16 (at_few c nodes trees t sums n) }

  module _ (len k : ℕ) (w : RowCounted t n len k) where
    pub row_counted_last : 16 ≤ k → (c nodes : List ℕ) (trees : Trees) (sums : List ℕ) → len ≡ length (slack_row c nodes trees t sums n)
    row_counted_last h c nodes trees sums = rw (row_is c nodes trees t sums n) (count_last (w.counting c nodes trees sums) h)

    module _ (v : ℕ) (h : k < 16) (e : (c nodes : List ℕ) (trees : Trees) (sums : List ℕ) → v ≡ length (slack_at c nodes trees t sums n k)) where
      pub row_counted_next : RowCounted t n (len + v) (k + 1)
      row_counted_next = record { counting = λ c nodes trees sums. count_next (w.counting c nodes trees sums) v h (e c nodes trees sums) }

      pub row_counted_fits : Fits w64 (len + v)
      row_counted_fits = count_fits (w.counting [] [] no_trees []) v h (e [] [] no_trees []) (omega arith)

-- All of them.
pub record Counted (t : List ℕ) (m len n : ℕ) : Type 0 where
  pub counting : (c nodes : List ℕ) (trees : Trees) (sums : List ℕ) → Counting (slack_row c nodes trees t sums) 848 m len n

module _ (t : List ℕ) (m : ℕ) where
  pub counted_first : Counted t m 0 0
  counted_first = record { counting = λ c nodes trees sums. count_first (slack_row c nodes trees t sums) 848 m (slack_row_few c nodes trees t sums) }

  module _ (len n : ℕ) (w : Counted t m len n) where
    pub counted_last : m ≤ n → (c nodes : List ℕ) (trees : Trees) (sums : List ℕ) → len ≡ length (slack_rows c nodes trees t sums m)
    counted_last h c nodes trees sums = rw (rows_are c nodes trees t sums m) (count_last (w.counting c nodes trees sums) h)

    module _ (v : ℕ) (h : n < m) (e : (c nodes : List ℕ) (trees : Trees) (sums : List ℕ) → v ≡ length (slack_row c nodes trees t sums n)) where
      pub counted_next : Counted t m (len + v) (n + 1)
      counted_next = record { counting = λ c nodes trees sums. count_next (w.counting c nodes trees sums) v h (e c nodes trees sums) }

      pub counted_fits : m ≤ 32 → Fits w64 (len + v)
      counted_fits few = count_fits (w.counting [] [] no_trees []) v h (e [] [] no_trees []) (omega arith)

-- Question 19.
module _ (c nodes : List ℕ) (trees : Trees) (t sums : List ℕ) (m : ℕ) (output : List ℕ) (len : ℕ)
    (e : (c nodes : List ℕ) (trees : Trees) (sums : List ℕ) → len ≡ length (slack_rows c nodes trees t sums m)) where
  pub too_long : length output < len → Delivered (slack_rows c nodes trees t sums m) output output (Err question.Output)
  too_long h = no_room _ output len (e c nodes trees sums) h

  pub short_enough : (output' : List ℕ) (r : ℕ) → len ≤ length output → Stored output output' 0 (slack_rows c nodes trees t sums m) r
      → Delivered (slack_rows c nodes trees t sums m) output output' (Ok len)
  short_enough output' r h s = room _ output len (e c nodes trees sums) output' r h s

pub ruleset length_steps = (
  rules,
  head_is,
  head_few,
  head_fits,
  long_unused,
  long_none,
  long_flags,
  long_groups,
  row_counted_first,
  row_counted_last,
  row_counted_next,
  row_counted_fits,
  counted_first,
  counted_last,
  counted_next,
  counted_fits,
  too_long,
  short_enough,
)
