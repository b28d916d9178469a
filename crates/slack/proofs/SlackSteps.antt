-- What each return and each turn of a loop of the service has to show, over plain values.
use Prim.Native.Nat.{ℕ, ◌+◌, ◌/◌, ◌%◌, ◌<◌, ◌≤◌}
use mathlib.Core.Path.{◌≡◌, refl, sym, ◌∙◌}
use mathlib.Core.List.{List, [], ◌∷◌, map}
use mathlib.Core.Bool.{Bool, true, false, cond, not, ◌&&◌}
use native.Mathlib.Omega.{arith}
use lib.ListN.{length, take, get_or, length-map, length-take}
use lib.Seq.{take_all}
use borrow.Author.Rules.{rules}
use borrow.Author.Tests.{lt-ltb, le-ltb, not-true, not-false}
use Rattle.reading.proofs.TotalLaws.{both_left, both_right}
use Rattle.inference.specs.Lists.{only, gather}
use Rattle.inference.specs.Counts.{count_number}
use Rattle.inference.specs.Interface.{head_then, holds_any}
use Rattle.inference.specs.Rows.{is_set, cell, entry_at}
use Rattle.interface.specs.Writes.{Stored}
use Rattle.interface.proofs.WriteLaws.{stored_none, stored_more, parts_from, Writing, write_first, write_next, write_last}
use Rattle.interface.proofs.InterfaceLaws.{head_then_lem}
use Rattle.sharing.specs.Sums.{sum_count}
use Rattle.policy.specs.declared.Trees.{Trees}
use Rattle.fit.specs.declared.Covering.{Covering}
use Rattle.fit.specs.declared.Sum.{Sum}
use Rattle.fit.specs.declared.Sums.{Sums}
use Rattle.fit.specs.Covers.{sum_verdict, sum_verdicts, verdicts_of, verdicts_for}
use Rattle.fit.proofs.CoverSteps.{unmapped}
use Rattle.slack.specs.Slack.{count_bytes, verdict_bytes, on_group, sums_bytes}
use Rattle.slack.specs.Rows.{slack_at, slack_row, slack_rows}
use Rattle.slack.proofs.SlackLaws.{parts_are, gather_map, verdict_few, sums_only, at_few, row_is, rows_are, slack_row_few}

-- A sum as a number.
pub number_finite : (sum : ℕ) → sum < 4000000 → sum ≡ count_number (sum_count sum)
unfolding count_number sum_count
number_finite sum h = rw (lt-ltb sum 4000000 h) refl

pub number_unlimited : (sum : ℕ) → 4000000 ≤ sum → 65535 ≡ count_number (sum_count sum)
unfolding count_number sum_count
number_unlimited sum h = rw (le-ltb sum 4000000 h) refl

module _ (o : List ℕ) (at : ℕ) where
  -- two bytes, and five
  pub count_written : {o₁ o₂ : List ℕ} {a r : ℕ} (sum n : ℕ) → n ≡ count_number (sum_count sum) → Stored o o₁ at (n % 256 ∷ []) a
      → Stored o₁ o₂ a (n / 256 % 256 ∷ []) r → Stored o o₂ at (count_bytes (sum_count sum)) r
  unfolding count_bytes
  count_written sum n e s u = rw (← e) (stored_more s u)

  pub sum_written : {o₁ o₂ o₃ : List ℕ} {a b r : ℕ} (sum : Sum) → Stored o o₁ at (sum.group ∷ []) a → Stored o₁ o₂ a (count_bytes (sum_count sum.needed)) b
      → Stored o₂ o₃ b (count_bytes (sum_count sum.granted)) r → Stored o o₃ at (verdict_bytes (sum_verdict sum)) r
  unfolding verdict_bytes sum_verdict
  sum_written sum s u v = stored_more s (stored_more u v)

-- The sums of an entry.
abbrev pub none : Sum
none = record { group = 0; needed = 0; granted = 0 }

unfoldable pub sum_part : List Sum → ℕ → List ℕ
sum_part items i = verdict_bytes (sum_verdict (get_or items i none))

module _ (o : List ℕ) (at : ℕ) (xs : List Sum) where
  pub each_first : Writing (sum_part xs) 5 (length xs) o at o at 0
  each_first = write_first (sum_part xs) 5 (length xs) o at (λ j. unfold sum_part in verdict_few (sum_verdict (get_or xs j none)))

  pub each_next : {o₁ o₂ : List ℕ} {m r i : ℕ} → Writing (sum_part xs) 5 (length xs) o at o₁ m i → i < length xs
      → Stored o₁ o₂ m (verdict_bytes (sum_verdict (get_or xs i none))) r → Writing (sum_part xs) 5 (length xs) o at o₂ r (i + 1)
  each_next w h t = write_next w h (unfold sum_part in t)

  pub each_last : {o₁ : List ℕ} {m i : ℕ} → Writing (sum_part xs) 5 (length xs) o at o₁ m i → length xs ≤ i
      → Stored o o₁ at (gather verdict_bytes (map sum_verdict xs)) m
  each_last w h =
      rw (gather_map verdict_bytes sum_verdict xs, ← whole)
      (unfold sum_part in write_last w h)
    where
      whole : parts_from (λ i. verdict_bytes (sum_verdict (get_or xs i none))) (length xs) 0 ≡ gather (λ x. verdict_bytes (sum_verdict x)) xs
      whole = parts_are (λ x. verdict_bytes (sum_verdict x)) xs none (length xs) (omega arith) ∙ rw (take_all (length xs) xs (omega arith)) refl

-- How many, and each.
module _ (o : List ℕ) (at : ℕ) (s : Sums) where
  pub sums_none : s.len ≡ 0 → Stored o o at (sums_bytes (sum_verdicts s)) at
  unfolding sum_verdicts sums_bytes
  sums_none e = rw e (stored_none o at)

  pub sums_some : {o₁ o₂ : List ℕ} {a r : ℕ} → (s.len ≡ 0 → ⊥) → s.len ≤ 8 → length s.items ≡ 8 → Stored o o₁ at (s.len ∷ []) a
      → Stored o₁ o₂ a (gather verdict_bytes (map sum_verdict (take s.len s.items))) r → Stored o o₂ at (sums_bytes (sum_verdicts s)) r
  unfolding sum_verdicts
  sums_some {o₁} {o₂} {a} {r} h few l t u = go (map sum_verdict (take s.len s.items)) long u
    where
      long : length (map sum_verdict (take s.len s.items)) ≡ s.len
      long = length-map (take s.len s.items) sum_verdict ∙ omega (arith, length-take s.len s.items)

      go : (vs : List _) → length vs ≡ s.len → Stored o₁ o₂ a (gather verdict_bytes vs) r → Stored o o₂ at (sums_bytes vs) r
      go [] e v = absurd (h (sym e))
      go (x ∷ vs) e v = unfold sums_bytes in stored_more (rw (← e) at t) v

-- An entry.
module _ (o : List ℕ) (at : ℕ) (table : List ℕ) (n k : ℕ) where
  pub entry_written : {o₁ o₂ : List ℕ} {a r : ℕ} (found : Covering) → Stored o o₁ at (head_then (entry_at table n k) []) a
      → Stored o₁ o₂ a (sums_bytes (sum_verdicts found.sums)) r
      → Stored o o₂ at (head_then (entry_at table n k) (sums_bytes (only on_group (verdicts_of found)))) r
  entry_written found s t =
      rw (sums_only found) (rw (head_then_lem (entry_at table n k) (sums_bytes (sum_verdicts found.sums))) at (stored_more s t))

  module _ (c nodes : List ℕ) (trees : Trees) (sums : List ℕ) (u : Bool) (is : u ≡ (is_set (cell table n k 11) && holds_any (entry_at table n k))) where
    pub kind_unwritten : not u ≡ true → Stored o o at (slack_at c nodes trees table sums n k) at
    unfolding slack_at
    kind_unwritten h = go (is_set (cell table n k 11)) (holds_any (entry_at table n k)) _ (sym is ∙ not-true u h)
      where
        go : (a b : Bool) (bytes : List ℕ) → (a && b) ≡ false → Stored o o at (cond a (cond b bytes []) []) at
        go true true bytes e = let z : ◌≡◌ {A = ℕ} 0 1 = cc in absurd (omega arith)
        go true false bytes e = stored_none o at
        go false b bytes e = stored_none o at

    pub kind_written : {o₁ : List ℕ} {r : ℕ} (found : Covering) → not u ≡ false → verdicts_of found ≡ verdicts_for c nodes trees table sums n k
        → Stored o o₁ at (head_then (entry_at table n k) (sums_bytes (only on_group (verdicts_of found)))) r → Stored o o₁ at (slack_at c nodes trees table sums n k) r
    unfolding slack_at
    kind_written found h e s =
        let both : (is_set (cell table n k 11) && holds_any (entry_at table n k)) ≡ true = sym is ∙ not-false u h in
        rw (both_left (is_set (cell table n k 11)) (holds_any (entry_at table n k)) both, both_right (is_set (cell table n k 11)) (holds_any (entry_at table n k)) both, ← e) s

-- A component's entries, and all.
module _ (o : List ℕ) (at : ℕ) (c nodes : List ℕ) (trees : Trees) (table sums : List ℕ) where
  pub row_first : (n : ℕ) → Writing (slack_at c nodes trees table sums n) 53 16 o at o at 0
  row_first n = write_first (slack_at c nodes trees table sums n) 53 16 o at (at_few c nodes trees table sums n)

  pub row_last : {o₁ : List ℕ} {m k : ℕ} (n : ℕ) → Writing (slack_at c nodes trees table sums n) 53 16 o at o₁ m k → 16 ≤ k
      → Stored o o₁ at (slack_row c nodes trees table sums n) m
  row_last n w h = rw (row_is c nodes trees table sums n) (write_last w h)

  pub rows_first : (m : ℕ) → Writing (slack_row c nodes trees table sums) 848 m o at o at 0
  rows_first m = write_first (slack_row c nodes trees table sums) 848 m o at (slack_row_few c nodes trees table sums)

  pub rows_last : {o₁ : List ℕ} {r i : ℕ} (m : ℕ) → Writing (slack_row c nodes trees table sums) 848 m o at o₁ r i → m ≤ i
      → Stored o o₁ at (slack_rows c nodes trees table sums m) r
  rows_last m w h = rw (rows_are c nodes trees table sums m) (write_last w h)

pub ruleset slack_steps = (rules, number_finite, number_unlimited, count_written, sum_written, unmapped, each_first, each_next, each_last, sums_none, sums_some, entry_written, kind_unwritten, kind_written, row_first, row_last, rows_first, rows_last, write_next)
