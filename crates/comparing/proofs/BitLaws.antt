-- Bits among bits: of a map in itself, through a third, and one by one.
use Prim.Native.Nat.{ℕ, zero, suc, ◌+◌, ◌/◌, ◌<◌, ◌≤◌}
use mathlib.Core.Bool.{Bool, true, false, true≢false}
use mathlib.Core.Path.{◌≡◌, refl, sym}
use native.Mathlib.Omega.{arith}
use borrow.Author.Tests.{eqb-true, eqb-false}
use lib.Dec.{eqb}
use Rattle.reading.proofs.FormLaws.{both_true}
use Rattle.inference.specs.Lists.{every, rising}
use Rattle.inference.proofs.EveryLaws.{every_true, every_through}
use Rattle.policy.specs.Syntax.{has_bit, bit_at}
use Rattle.containment.specs.Bits.{implies, bits_among}

pub implies_self : (a : Bool) → implies a a ≡ true
unfolding implies
implies_self true = refl
implies_self false = refl

pub implies_through : (a b c : Bool) → implies a b ≡ true → implies b c ≡ true → implies a c ≡ true
unfolding implies
implies_through true true c e f = f
implies_through true false c e f = absurd (true≢false (sym e))
implies_through false b c e f = refl

pub implied : (a b : Bool) → implies a b ≡ true → a ≡ true → b ≡ true
unfolding implies
implied true b e h = e
implied false b e h = absurd (true≢false (sym h))

pub bits_self : (n a : ℕ) → bits_among n a a ≡ true
unfolding bits_among
bits_self n a = every_true (λ k. implies (bit_at k a) (bit_at k a)) (λ k. implies_self (bit_at k a)) (rising 0 n)

pub bits_through : (n a b c : ℕ) → bits_among n a b ≡ true → bits_among n b c ≡ true → bits_among n a c ≡ true
unfolding bits_among
bits_through n a b c =
    every_through (λ k. implies (bit_at k a) (bit_at k b)) (λ k. implies (bit_at k b) (bit_at k c)) (λ k. implies (bit_at k a) (bit_at k c))
    (λ k. implies_through (bit_at k a) (bit_at k b) (bit_at k c)) (rising 0 n)

-- One of the bits.
rising_at : (p : ℕ → Bool) (start n k : ℕ) → every p (rising start n) ≡ true → start ≤ k → k < start + n → p k ≡ true
unfolding every rising
rising_at p start zero k e l h = absurd (omega arith)
rising_at p start (suc n) k e l h =
    let o = both_true (p start) (every p (rising (suc start) n)) e in
    go (eqb start k) refl o.0 (rising_at p (suc start) n k o.1)
  where
    go : (t : Bool) → eqb start k ≡ t → p start ≡ true → (suc start ≤ k → k < suc start + n → p k ≡ true) → p k ≡ true
    go true q here later = rw (eqb-true start k q) at here
    go false q here later = let z = eqb-false start k q in later (omega arith) (omega arith)

pub bit_among : (n a b k : ℕ) → bits_among n a b ≡ true → k < n → bit_at k a ≡ true → bit_at k b ≡ true
unfolding bits_among
bit_among n a b k e h = implied (bit_at k a) (bit_at k b) (rising_at (λ i. implies (bit_at i a) (bit_at i b)) 0 n k e (omega arith) (omega arith))

-- The flags read, write and access, by their places.
pub record Flag (v : ℕ) : Type 0 where
  pub place : ℕ
  pub low : place < 3
  pub is : (m : ℕ) → has_bit v m ≡ bit_at place m

pub flag_read : Flag 1
unfolding has_bit bit_at
flag_read = record { place = 0; low = omega arith; is = λ m. let z : m / 1 ≡ m = omega arith in rw z }

pub flag_write : Flag 2
unfolding has_bit bit_at
flag_write = record { place = 1; low = omega arith; is = λ m. refl }

pub flag_access : Flag 4
unfolding has_bit bit_at
flag_access = record { place = 2; low = omega arith; is = λ m. let z : m / 4 ≡ m / 2 / 2 = omega arith in rw z }
