-- Counting a script's moves: those counted so far, with those from the place reached on, are all of them.
use Prim.Native.Nat.{ℕ, suc, ◌+◌, ◌-◌, ◌<◌, ◌≤◌}
use Rattle.std.specs.Prelude.{Option, Some, None, IfSome, Result, Ok, Err, IfOk}
use mathlib.Core.List.{List, ◌∷◌}
use mathlib.Core.Path.{◌≡◌, refl, sym, ap, ◌∙◌}
use native.Mathlib.Nat.{zero-add, add-zero}
use native.Mathlib.Omega.{arith}
use borrow.Author.Rules.{rules}
use lib.ListN.{length}
use Rattle.reading.specs.Read.{Read, got, refused, and_then}
use Rattle.reading.specs.declared.Question.{Question}
use Rattle.reading.specs.declared.Question.TheVariants as question
use Rattle.running.specs.Moves.{Move}
use Rattle.running.specs.Script.{move_at, moves_from, as_twenty_one, read_script}
use Rattle.script.proofs.ScriptLaws.{moves_end, moves_full, moves_step}
use Rattle.script.specs.Told.{Spans, moves_in}

-- A reading's count, with n moves before it.
unfoldable pub counted_from : ℕ → Read (List Move) → Result ℕ Question
counted_from n (got ms e) = Ok (n + length ms)
counted_from n (refused q p) = Err question.Script

counted_all : (r : Read (List Move)) → moves_in (as_twenty_one r) ≡ counted_from 0 r
unfolding moves_in as_twenty_one counted_from
counted_all (got ms e) = rw (zero-add (length ms))
counted_all (refused q p) = refl

counted_more : (n : ℕ) (m : Move) (r : Read (List Move)) → counted_from n (and_then r (λ ms e. got (m ∷ ms) e)) ≡ counted_from (n + 1) r
unfolding counted_from and_then
counted_more n m (got ms e) = ap (λ (k : ℕ). Ok k) (omega arith)
counted_more n m (refused q p) = refl

-- A move without a count of bytes was not read, and one with such was.
not_read : (at : ℕ) (r : Read Move) → Spans at r None → (q : ℕ) × (p : ℕ) × (r ≡ refused q p)
unfolding Spans
not_read at (got m k) h = absurd h
not_read at (refused q p) h = (q, p, refl)

was_read : (at n : ℕ) (r : Read Move) → Spans at r (Some n) → (m : Move) × (r ≡ got m (at + n)) × (0 < n)
unfolding Spans
was_read at n (got m k) h = (m, ap (λ (i : ℕ). got m i) h.0, h.1)
was_read at n (refused q p) h = absurd h

-- The loop: `n` moves were counted, and `at` is the place after them.
pub record Turn (s : List ℕ) (at n : ℕ) : Type 0 where
  pub within : at ≤ length s
  pub most : n ≤ 1024
  pub passed : n ≤ at
  pub same : moves_in (read_script s) ≡ counted_from n (moves_from (1024 - n) s at)

pub first_turn : (s : List ℕ) → Turn s 0 0
unfolding read_script
first_turn s = record { within = omega arith; most = omega arith; passed = omega arith; same = counted_all (moves_from 1024 s 0) }

module _ (s : List ℕ) (at n : ℕ) (t : Turn s at n) where
  pub script_ends : at ≡ length s → Ok n ≡ moves_in (read_script s)
  unfolding counted_from
  script_ends h = rw (t.same, moves_end (1024 - n) s at h, add-zero n)

  -- Each move has a byte at least.
  pub few_moves : at ≡ length s → (n ≤ 1024) × (n ≤ length s)
  few_moves h = (t.most, omega (arith, t.passed))

  module _ (h : at ≡ length s → ⊥) where
    pub too_many : 1024 ≤ n → Err question.Script ≡ moves_in (read_script s)
    unfolding counted_from
    too_many k = let z : 1024 - n ≡ 0 = omega arith in rw (t.same, z, moves_full s at h)

    module _ (k : n < 1024) where
      counted_step : moves_in (read_script s) ≡ counted_from n (and_then (move_at s at) (λ m j. and_then (moves_from (1024 - (n + 1)) s j) (λ ms e. got (m ∷ ms) e)))
      counted_step = let z : 1024 - n ≡ suc (1024 - (n + 1)) = omega arith in rw (t.same, z, moves_step (1024 - (n + 1)) s at h)

      pub move_refused : (r : Option ℕ) → Spans at (move_at s at) r → r ≡ None → Err question.Script ≡ moves_in (read_script s)
      unfolding counted_from and_then
      move_refused r e f = let q = not_read at (move_at s at) (rw f at e) in rw (counted_step, q.2)

      pub next_turn : (o : Option ℕ) (len : ℕ) → Spans at (move_at s at) o → o ≡ Some len → IfSome o (λ m. m ≤ length s - at)
          → Turn s (at + len) (n + 1)
      unfolding and_then
      next_turn o len e f b =
          let r = was_read at len (move_at s at) (rw f at e) in
          let within : len ≤ length s - at = rw f at b in
          record {
            within = omega (arith, t.within);
            most = omega arith;
            passed = omega (arith, r.2, t.passed);
            same = rw (counted_step, r.1) (counted_more n r.0 (moves_from (1024 - (n + 1)) s (at + len)));
          }

pub ruleset count_steps = (rules, first_turn, script_ends, too_many, move_refused, next_turn, few_moves)

-- What the count tells of the script: at most 1,024 moves were read, or question 21 fails.
pub record Counted (s : List ℕ) (n : ℕ) : Type 0 where
  pub moves : List Move
  pub end : ℕ
  pub is : read_script s ≡ got moves end
  pub count : length moves ≡ n

counted_of : (r : Read (List Move)) {n : ℕ} → Ok n ≡ moves_in r → (moves : List Move) × (end : ℕ) × (r ≡ got moves end) × (length moves ≡ n)
unfolding moves_in
counted_of (got ms e) h = (ms, e, refl, cc)
counted_of (refused q p) h = cc

pub script_counted : (s : List ℕ) {r : Result ℕ Question} {n : ℕ} → r ≡ moves_in (read_script s) → r ≡ Ok n → Counted s n
script_counted s h k = let a = counted_of (read_script s) (sym k ∙ h) in record { moves = a.0; end = a.1; is = a.2; count = a.3 }

twenty_one : (r : Read (List Move)) {q : Question} → Err q ≡ moves_in (as_twenty_one r)
    → (q ≡ question.Script) × ((p : ℕ) × (as_twenty_one r ≡ refused 21 p))
unfolding as_twenty_one moves_in
twenty_one (got ms e) h = cc
twenty_one (refused q p) h = (cc, (p, refl))

pub script_refused : (s : List ℕ) {r : Result ℕ Question} {q : Question} → r ≡ moves_in (read_script s) → r ≡ Err q
    → (q ≡ question.Script) × ((p : ℕ) × (read_script s ≡ refused 21 p))
unfolding read_script
script_refused s h k = twenty_one (moves_from 1024 s 0) (sym k ∙ h)
