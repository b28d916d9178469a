-- A rule of a table, proved at all of its entries by one test that is computed, one entry after the other; and the test of the table of
-- answers.
use Prim.Native.Nat.{ℕ, zero, suc, ◌+◌, ◌*◌, ◌/◌, ◌%◌, ◌<◌}
use mathlib.Core.Bool.{Bool, true, cond, ◌&&◌}
use mathlib.Core.List.{List, [], ◌∷◌}
use mathlib.Core.Path.{◌≡◌, refl}
use native.Mathlib.Omega.{arith}
use borrow.Author.Tests.{eqb-true}
use lib.Dec.{eqb}
use lib.ListN.{length, get_or}
use Rattle.reading.proofs.FormLaws.{both_true}
use Rattle.inference.specs.Lists.{every, rising}
use Rattle.policy.specs.Syntax.{bit_at}
use Rattle.containment.specs.Bits.{implies, bits_among}
use Rattle.containment.specs.Answers.{Answers}

-- Each entry of a table, from place i on, passes a test of its place and itself.
unfoldable pub every_entry : (ℕ → ℕ → Bool) → ℕ → List ℕ → Bool
every_entry test i [] = true
every_entry test i (x ∷ xs) = test i x && every_entry test (suc i) xs

entry_passes : (test : ℕ → ℕ → Bool) (xs : List ℕ) (i : ℕ) → every_entry test i xs ≡ true → (k : ℕ) → k < length xs → test (i + k) (get_or xs k 0) ≡ true
unfolding every_entry
entry_passes test [] i t k h = absurd (omega arith)
entry_passes test (x ∷ xs) i t zero h = let z : i + 0 ≡ i = omega arith in rw z (both_true (test i x) (every_entry test (suc i) xs) t).0
entry_passes test (x ∷ xs) i t (suc k) h =
    let z : i + suc k ≡ suc i + k = omega arith in
    rw z (entry_passes test xs (suc i) (both_true (test i x) (every_entry test (suc i) xs) t).1 k (omega arith))

-- "entry 16 × a + b being 1 exactly if all bits of a stand in b", of the entry at a place.
unfoldable pub is_answer : ℕ → ℕ → Bool
is_answer k x = eqb x (cond (bits_among 4 (k / 16) (k % 16)) 1 0)

-- The rule at each pair of maps, of a table whose entries all pass.
table_rule : (table : List ℕ) → every_entry is_answer 0 table ≡ true → length table ≡ 256 → (a b : ℕ) → a < 16 → b < 16
    → get_or table (16 * a + b) 0 ≡ cond (bits_among 4 a b) 1 0
unfolding is_answer
table_rule table t l a b h k =
    let p = entry_passes is_answer table 0 t (16 * a + b) (omega arith) in
    let e : 0 + (16 * a + b) ≡ 16 * a + b = omega arith in
    let q : (16 * a + b) / 16 ≡ a = omega arith in
    let r : (16 * a + b) % 16 ≡ b = omega arith in
    eqb-true _ _ (rw (e, q, r) at p)

-- The table of src/lib.rt: a row for each a, of the entries for b from 0 to 15.
unfoldable pub answers : List ℕ
answers =
    1 ∷ 1 ∷ 1 ∷ 1 ∷ 1 ∷ 1 ∷ 1 ∷ 1 ∷ 1 ∷ 1 ∷ 1 ∷ 1 ∷ 1 ∷ 1 ∷ 1 ∷ 1 ∷
    0 ∷ 1 ∷ 0 ∷ 1 ∷ 0 ∷ 1 ∷ 0 ∷ 1 ∷ 0 ∷ 1 ∷ 0 ∷ 1 ∷ 0 ∷ 1 ∷ 0 ∷ 1 ∷
    0 ∷ 0 ∷ 1 ∷ 1 ∷ 0 ∷ 0 ∷ 1 ∷ 1 ∷ 0 ∷ 0 ∷ 1 ∷ 1 ∷ 0 ∷ 0 ∷ 1 ∷ 1 ∷
    0 ∷ 0 ∷ 0 ∷ 1 ∷ 0 ∷ 0 ∷ 0 ∷ 1 ∷ 0 ∷ 0 ∷ 0 ∷ 1 ∷ 0 ∷ 0 ∷ 0 ∷ 1 ∷
    0 ∷ 0 ∷ 0 ∷ 0 ∷ 1 ∷ 1 ∷ 1 ∷ 1 ∷ 0 ∷ 0 ∷ 0 ∷ 0 ∷ 1 ∷ 1 ∷ 1 ∷ 1 ∷
    0 ∷ 0 ∷ 0 ∷ 0 ∷ 0 ∷ 1 ∷ 0 ∷ 1 ∷ 0 ∷ 0 ∷ 0 ∷ 0 ∷ 0 ∷ 1 ∷ 0 ∷ 1 ∷
    0 ∷ 0 ∷ 0 ∷ 0 ∷ 0 ∷ 0 ∷ 1 ∷ 1 ∷ 0 ∷ 0 ∷ 0 ∷ 0 ∷ 0 ∷ 0 ∷ 1 ∷ 1 ∷
    0 ∷ 0 ∷ 0 ∷ 0 ∷ 0 ∷ 0 ∷ 0 ∷ 1 ∷ 0 ∷ 0 ∷ 0 ∷ 0 ∷ 0 ∷ 0 ∷ 0 ∷ 1 ∷
    0 ∷ 0 ∷ 0 ∷ 0 ∷ 0 ∷ 0 ∷ 0 ∷ 0 ∷ 1 ∷ 1 ∷ 1 ∷ 1 ∷ 1 ∷ 1 ∷ 1 ∷ 1 ∷
    0 ∷ 0 ∷ 0 ∷ 0 ∷ 0 ∷ 0 ∷ 0 ∷ 0 ∷ 0 ∷ 1 ∷ 0 ∷ 1 ∷ 0 ∷ 1 ∷ 0 ∷ 1 ∷
    0 ∷ 0 ∷ 0 ∷ 0 ∷ 0 ∷ 0 ∷ 0 ∷ 0 ∷ 0 ∷ 0 ∷ 1 ∷ 1 ∷ 0 ∷ 0 ∷ 1 ∷ 1 ∷
    0 ∷ 0 ∷ 0 ∷ 0 ∷ 0 ∷ 0 ∷ 0 ∷ 0 ∷ 0 ∷ 0 ∷ 0 ∷ 1 ∷ 0 ∷ 0 ∷ 0 ∷ 1 ∷
    0 ∷ 0 ∷ 0 ∷ 0 ∷ 0 ∷ 0 ∷ 0 ∷ 0 ∷ 0 ∷ 0 ∷ 0 ∷ 0 ∷ 1 ∷ 1 ∷ 1 ∷ 1 ∷
    0 ∷ 0 ∷ 0 ∷ 0 ∷ 0 ∷ 0 ∷ 0 ∷ 0 ∷ 0 ∷ 0 ∷ 0 ∷ 0 ∷ 0 ∷ 1 ∷ 0 ∷ 1 ∷
    0 ∷ 0 ∷ 0 ∷ 0 ∷ 0 ∷ 0 ∷ 0 ∷ 0 ∷ 0 ∷ 0 ∷ 0 ∷ 0 ∷ 0 ∷ 0 ∷ 1 ∷ 1 ∷
    0 ∷ 0 ∷ 0 ∷ 0 ∷ 0 ∷ 0 ∷ 0 ∷ 0 ∷ 0 ∷ 0 ∷ 0 ∷ 0 ∷ 0 ∷ 0 ∷ 0 ∷ 1 ∷
    []

-- Every entry passes, and there are 256.
answers_pass : every_entry is_answer 0 answers ≡ true
unfolding answers every_entry is_answer bits_among every rising bit_at implies
answers_pass = refl

answers_count : length answers ≡ 256
unfolding answers
answers_count = refl

pub answers_rule : (a b : ℕ) → a < 16 → b < 16 → get_or answers (16 * a + b) 0 ≡ cond (bits_among 4 a b) 1 0
answers_rule = table_rule answers answers_pass answers_count

pub answers_hold : Answers answers
answers_hold = record { count = answers_count; rule = answers_rule }
