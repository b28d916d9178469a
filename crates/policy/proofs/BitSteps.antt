-- Bit p of a map is the lowest bit of the map shifted by p.
use Prim.Native.Nat.{ℕ, zero, suc, ◌+◌, ◌/◌, ◌%◌, ◌<◌, ◌≤◌, ◌^◌}
use mathlib.Core.Bool.{not}
use mathlib.Core.Path.{◌≡◌}
use native.Mathlib.Omega.{arith}
use lib.Dec.{eqb, ltb}
use mir.Syntax.{w64}
use mir.Val.{Fits}
use borrow.Author.Tests.{le-ltb}
use Rattle.std.proofs.Math.Facts.{Fits-lt-pow}
use Rattle.std.proofs.Math.Pow.{pow_mono}
use Rattle.std.proofs.lemmas.Nat.{shr-shr, shr_below}
use Rattle.reading.proofs.Tests.{tests}
use Rattle.policy.specs.Syntax.{bit_at}

shifted : (p map : ℕ) → not (eqb (map / 2 ^ p % 2) 0) ≡ bit_at p map
unfolding bit_at
shifted zero map = let e : map / 1 ≡ map = omega arith in rw e
shifted (suc p) map =
    let a : suc p ≡ 1 + p = omega arith in rw (a, ← shr-shr map 1 p) (shifted p (map / 2))

none_left : (map p : ℕ) → map < 2 ^ p → map / 2 ^ p ≡ 0
none_left map p h =
    let a : 0 + p ≡ p = omega arith in
    let e : map / 2 ^ p < 2 ^ 0 = shr_below map 0 p (rw a h) in omega arith

module _ (place map : ℕ) where
  pub bit_low : place < 64 → not (eqb (map / 2 ^ place % 2) 0) ≡ bit_at place map
  bit_low h = shifted place map

  pub bit_high : 64 ≤ place → Fits w64 map → ltb place 64 ≡ bit_at place map
  bit_high h k =
      let l : 2 ^ 64 ≤ 2 ^ place = pow_mono {i = 64} {j = place} h in
      let m : map < 2 ^ place = omega (arith, Fits-lt-pow k) in
      let e : map / 2 ^ place ≡ 0 = none_left map place m in
      rw (le-ltb place 64 h) (rw e at (shifted place map))

pub ruleset bit_steps = (tests, bit_low, bit_high)
