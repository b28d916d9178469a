-- Writing a record: its bytes, one after another, and what stands around them.
use Prim.Native.Nat.{ℕ, suc, ◌+◌, ◌/◌, ◌%◌, ◌≤◌}
use mathlib.Core.List.{List, [], ◌∷◌, ◌++◌, append_assoc}
use mathlib.Core.Path.{◌≡◌, ◌∙◌}
use native.Mathlib.Numerals.{add-one}
use native.Mathlib.Omega.{arith}
use borrow.Author.Rules.{rules}
use lib.ListN.{length, set, take, drop}
use lib.Seq.{sets, sets-eq}
use Rattle.running.specs.Moves.{word}
use Rattle.script.specs.Told.{bytes_of}
use Rattle.script.specs.declared.Record.{Record}

-- Eight bytes stored one after another, each behind the one before.
eight_stored : (l : List ℕ) (at : ℕ) (a b c d e f g h : ℕ) → at + 8 ≤ length l
    → set (set (set (set (set (set (set (set l at a) (at + 1) b) (at + 2) c) (at + 3) d) (at + 4) e) (at + 5) f) (at + 6) g) (at + 7) h
    ≡ take at l ++ ((a ∷ b ∷ c ∷ d ∷ e ∷ f ∷ g ∷ h ∷ []) ++ drop (at + 8) l)
eight_stored l at a b c d e f g h p =
    let n1 : at + 1 ≡ suc at = omega arith in
    let n2 : at + 2 ≡ suc (suc at) = omega arith in
    let n3 : at + 3 ≡ suc (suc (suc at)) = omega arith in
    let n4 : at + 4 ≡ suc (suc (suc (suc at))) = omega arith in
    let n5 : at + 5 ≡ suc (suc (suc (suc (suc at)))) = omega arith in
    let n6 : at + 6 ≡ suc (suc (suc (suc (suc (suc at))))) = omega arith in
    let n7 : at + 7 ≡ suc (suc (suc (suc (suc (suc (suc at)))))) = omega arith in
    rw (n1, n2, n3, n4, n5, n6, n7)
    (sets-eq (a ∷ b ∷ c ∷ d ∷ e ∷ f ∷ g ∷ h ∷ []) l at p ∙ append_assoc (take at l) (a ∷ b ∷ c ∷ d ∷ e ∷ f ∷ g ∷ h ∷ []) (drop (at + 8) l))

-- The eight stores of a record.
pub record_written : (l₀ l₁ l₂ l₃ l₄ l₅ l₆ l₇ l₈ : List ℕ) (at : ℕ) (r : Record) → at + 8 ≤ length l₀
    → l₁ ≡ set l₀ at (r.number % 256)
    → l₂ ≡ set l₁ (at + 1) (r.label % 256)
    → l₃ ≡ set l₂ (at + 2) (r.channel % 256)
    → l₄ ≡ set l₃ (at + 3) (r.channel / 256 % 256)
    → l₅ ≡ set l₄ (at + 4) (r.name % 256)
    → l₆ ≡ set l₅ (at + 5) (r.name / 256 % 256)
    → l₇ ≡ set l₆ (at + 6) (r.actor % 256)
    → l₈ ≡ set l₇ (at + 7) (r.receiver % 256)
    → l₈ ≡ take at l₀ ++ (bytes_of r ++ drop (at + 8) l₀)
unfolding bytes_of word
record_written l₀ l₁ l₂ l₃ l₄ l₅ l₆ l₇ l₈ at r h a b c d e f g k =
    rw (k, g, f, e, d, c, b, a)
    (eight_stored l₀ at (r.number % 256) (r.label % 256) (r.channel % 256) (r.channel / 256 % 256) (r.name % 256) (r.name / 256 % 256)
    (r.actor % 256) (r.receiver % 256) h)

pub ruleset record_steps = (rules, record_written)
