-- Maps digit by digit: the lowest four bits, and those of a sixteenth; and what of a map's lowest bits is left when higher ones are cut off.
use Prim.Native.Nat.{ℕ, zero, suc, ◌+◌, ◌-◌, ◌*◌, ◌/◌, ◌%◌, ◌<◌, ◌≤◌}
use mathlib.Core.Bool.{Bool, true, false, cond, not, ◌&&◌}
use mathlib.Core.List.{List}
use mathlib.Core.Path.{◌≡◌, refl, sym, ap, ◌∙◌}
use native.Mathlib.Omega.{arith}
use borrow.Author.Tests.{not-true, not-false}
use lib.Dec.{eqb}
use lib.ListN.{length, get_or}
use Rattle.reading.proofs.Tests.{tests}
use Rattle.inference.specs.Lists.{every, rising}
use Rattle.policy.specs.Syntax.{bit_at}
use Rattle.containment.specs.Bits.{implies, bits_among}
use Rattle.containment.specs.Answers.{Answers}

-- Every number from one more on, asked of the number after it.
every_shifted : (p : ℕ → Bool) (start n : ℕ) → every p (rising (suc start) n) ≡ every (λ k. p (suc k)) (rising start n)
unfolding every rising
every_shifted p start zero = refl
every_shifted p start (suc n) = ap (λ (t : Bool). p (suc start) && t) (every_shifted p (suc start) n)

-- The lowest bit, and the others of the half.
bits_half : (n a b : ℕ) → bits_among (suc n) a b ≡ (implies (bit_at 0 a) (bit_at 0 b) && bits_among n (a / 2) (b / 2))
unfolding bits_among every rising bit_at
bits_half n a b = ap (λ (t : Bool). implies (bit_at 0 a) (bit_at 0 b) && t) (every_shifted (λ k. implies (bit_at k a) (bit_at k b)) 0 n)

-- Four bits, one by one.
four_bits : (a b : ℕ) → bits_among 4 a b
    ≡ (implies (bit_at 0 a) (bit_at 0 b) && (implies (bit_at 1 a) (bit_at 1 b) && (implies (bit_at 2 a) (bit_at 2 b) && (implies (bit_at 3 a) (bit_at 3 b) && true))))
unfolding bits_among every rising
four_bits a b = refl

regroup : (x y z w t : Bool) → ((x && (y && (z && (w && true)))) && t) ≡ (x && (y && (z && (w && t))))
regroup true true true true t = refl
regroup true true true false t = refl
regroup true true false w t = refl
regroup true false z w t = refl
regroup false y z w t = refl

-- The half of what is left of a map is what is left of its half.
half_16 : (a : ℕ) → a % 16 / 2 ≡ a / 2 % 8
half_16 a = let w : a / 2 / 8 ≡ a / 16 = omega arith in omega arith

half_8 : (a : ℕ) → a % 8 / 2 ≡ a / 2 % 4
half_8 a = let w : a / 2 / 4 ≡ a / 8 = omega arith in omega arith

half_4 : (a : ℕ) → a % 4 / 2 ≡ a / 2 % 2
half_4 a = let w : a / 2 / 2 ≡ a / 4 = omega arith in omega arith

-- A digit keeps the four lowest bits.
digit_bit : (a : ℕ) → (bit_at 0 (a % 16) ≡ bit_at 0 a) × ((bit_at 1 (a % 16) ≡ bit_at 1 a) × ((bit_at 2 (a % 16) ≡ bit_at 2 a) × (bit_at 3 (a % 16) ≡ bit_at 3 a)))
unfolding bit_at
digit_bit a =
    let p : a % 16 % 2 ≡ a % 2 = omega arith in
    let q : a / 2 % 8 % 2 ≡ a / 2 % 2 = omega arith in
    let r : a / 2 / 2 % 4 % 2 ≡ a / 2 / 2 % 2 = omega arith in
    let s : a / 2 / 2 / 2 % 2 % 2 ≡ a / 2 / 2 / 2 % 2 = omega arith in
    (rw p, (rw (half_16 a, q), (rw (half_16 a, half_8 (a / 2), r), rw (half_16 a, half_8 (a / 2), half_4 (a / 2 / 2), s))))

sixteenth : (a : ℕ) → a / 2 / 2 / 2 / 2 ≡ a / 16
sixteenth a = omega arith

-- The lowest digit, and the others of the sixteenth.
low_digit : (a b : ℕ) → bits_among 4 (a % 16) (b % 16) ≡ bits_among 4 a b
low_digit a b =
    let d = digit_bit a in
    let e = digit_bit b in
    rw (four_bits (a % 16) (b % 16), four_bits a b, d.0, d.1.0, d.1.1.0, d.1.1.1, e.0, e.1.0, e.1.1.0, e.1.1.1)

low_four : (n a b : ℕ) → bits_among (suc (suc (suc (suc n)))) a b ≡ (bits_among 4 a b && bits_among n (a / 2 / 2 / 2 / 2) (b / 2 / 2 / 2 / 2))
low_four n a b =
    bits_half (suc (suc (suc n))) a b
    ∙ rw (bits_half (suc (suc n)) (a / 2) (b / 2), bits_half (suc n) (a / 2 / 2) (b / 2 / 2), bits_half n (a / 2 / 2 / 2) (b / 2 / 2 / 2), four_bits a b)
    (unfold bit_at in sym (regroup (one 0) (one 1) (one 2) (one 3) (bits_among n (a / 2 / 2 / 2 / 2) (b / 2 / 2 / 2 / 2))))
  where
    one : ℕ → Bool
    one k = implies (bit_at k a) (bit_at k b)

bits_digit : (n a b : ℕ) → bits_among (suc (suc (suc (suc n)))) a b ≡ (bits_among 4 (a % 16) (b % 16) && bits_among n (a / 16) (b / 16))
bits_digit n a b = low_four n a b ∙ rw (sixteenth a, sixteenth b, low_digit a b)

-- An entry of the table as a test: 1 is yes.
is_one : (x : ℕ) (t : Bool) → x ≡ cond t 1 0 → eqb x 1 ≡ t
is_one x true e = rw e
is_one x false e = rw e

module _ (table : List ℕ) (a b : ℕ) where
  pub entry_there : Answers table → a < 16 → b < 16 → 16 * a + b < length table
  entry_there t h k = omega (arith, t.count)

  pub entry_tells : Answers table → a < 16 → b < 16 → eqb (get_or table (16 * a + b) 0) 1 ≡ bits_among 4 a b
  entry_tells t h k = is_one (get_or table (16 * a + b) 0) (bits_among 4 a b) (t.rule a b h k)

-- Whether the bits of all digits stand in another map is whether those of the digits after the first `done` do.
pub record DigitsLeft (digits a b done x y : ℕ) : Type 0 where
  pub same : bits_among (4 * digits) a b ≡ bits_among (4 * (digits - done)) x y

pub digits_start : (digits a b : ℕ) → DigitsLeft digits a b 0 a b
digits_start digits a b = let z : digits - 0 ≡ digits = omega arith in record { same = rw z }

module _ (digits a b done x y : ℕ) (s : DigitsLeft digits a b done x y) where
  pub digits_end : digits ≤ done → true ≡ bits_among (4 * digits) a b
  unfolding bits_among every rising
  digits_end h = let z : 4 * (digits - done) ≡ 0 = omega arith in sym (rw z at s.same)

  module _ (h : done < digits) (t : Bool) (e : t ≡ bits_among 4 (x % 16) (y % 16)) where
    one_digit : bits_among (4 * digits) a b ≡ (t && bits_among (4 * (digits - (done + 1))) (x / 16) (y / 16))
    one_digit =
        let z : 4 * (digits - done) ≡ suc (suc (suc (suc (4 * (digits - (done + 1)))))) = omega arith in
        s.same ∙ rw (z, e) (bits_digit (4 * (digits - (done + 1))) x y)

    pub digits_differ : not t ≡ true → false ≡ bits_among (4 * digits) a b
    digits_differ k = sym (rw (not-true t k) at one_digit)

    pub digits_next : not t ≡ false → DigitsLeft digits a b (done + 1) (x / 16) (y / 16)
    digits_next k = record { same = rw (not-false t k) at one_digit }

pub ruleset digit_steps = (tests, entry_there, entry_tells, digits_start, digits_end, digits_differ, digits_next)

-- Maps of fewer bits than four: the bits that are cut off stand in neither.
pub three_bits : (a b : ℕ) → bits_among 4 (a % 8) (b % 8) ≡ bits_among 3 a b
unfolding bits_among every rising bit_at implies
three_bits a b =
    let p : (m : ℕ) → m % 8 % 2 ≡ m % 2 = λ m. omega arith in
    let q : (m : ℕ) → m % 8 / 2 % 2 ≡ m / 2 % 2 = λ m. omega arith in
    let r : (m : ℕ) → m % 8 / 2 / 2 % 2 ≡ m / 2 / 2 % 2 = λ m. omega arith in
    let s : (m : ℕ) → m % 8 / 2 / 2 / 2 % 2 ≡ 0 = λ m. omega arith in
    rw (p a, p b, q a, q b, r a, r b, s a)

pub one_bit : (a b : ℕ) → bits_among 4 (a % 2) (b % 2) ≡ bits_among 1 a b
unfolding bits_among every rising bit_at implies
one_bit a b =
    let p : (m : ℕ) → m % 2 % 2 ≡ m % 2 = λ m. omega arith in
    let s : (m : ℕ) → m % 2 / 2 ≡ 0 = λ m. omega arith in
    rw (p a, p b, s a)
