-- Types as numbers: every number is exactly one type, and a type that was read is small.
use Prim.Native.Nat.{ℕ, zero, suc, ◌+◌, ◌-◌, ◌*◌, ◌/◌, ◌%◌, ◌^◌, ◌<◌, ◌≤◌}
use mathlib.Core.Bool.{Bool, true, false, cond}
use mathlib.Core.List.{List}
use mathlib.Core.Path.{◌≡◌, refl}
use native.Mathlib.Nat.{add_assoc, mul-add, mul_assoc, pow-succ', pow-le-pow_right, div-add-mod', mod-lt}
use native.Mathlib.Numerals.{sub-one}
use native.Mathlib.Omega.{arith}
use borrow.Author.Tests.{ltb-false, lt-ltb, le-ltb}
use lib.Dec.{ltb, lit<}
use Rattle.reading.proofs.Parts.{parts, below_found}
use Rattle.reading.specs.Dialects.{groups_in, kinds_in}
use Rattle.reading.specs.Read.{got, and_then, below}
use Rattle.reading.specs.Types.{channel, number_of, shape, groups_then_kind_in, type_at_in}
use Rattle.reading.specs.declared.Dialect.{Dialect}
use Rattle.reading.specs.declared.Dialect.TheVariants.{Old, Current}
use Rattle.reading.specs.declared.Shape.TheVariants.{Plain, Channel}

-- Every number is the number of its shape.
pub number_shape : (t : ℕ) → number_of (shape t) ≡ t
unfolding number_of shape channel
number_shape t = go (ltb t 16) refl
  where
    go : (b : Bool) → ltb t 16 ≡ b → number_of (cond b (Plain t) (Channel ((t - 16) % 64) ((t - 16) / 64))) ≡ t
    go true e = refl
    go false e = omega (arith, ltb-false t 16 e, div-add-mod' (t - 16) 64)

-- Each shape is that of its number: the base types, and the channels of the 64 groups.
pub shape_plain : (k : ℕ) → k < 16 → shape k ≡ Plain k
unfolding shape
shape_plain k h = rw (lt-ltb k 16 h)

pub shape_channel : (g t : ℕ) → g < 64 → shape (channel g t) ≡ Channel g t
unfolding shape channel
shape_channel g t h =
    let n = t * 64 + g in
    let m : n % 64 < 64 = mod-lt n (lit< tt) in
    let i : (16 + n) - 16 ≡ n = omega arith in
    let r : n % 64 ≡ g = omega (arith, div-add-mod' n 64) in
    let d : n / 64 ≡ t = omega (arith, div-add-mod' n 64) in
    rw (le-ltb (16 + n) 16 (omega arith), i, r, d)

-- A channel's number is above that of the type that it carries.
pub carried_less : (g t : ℕ) → t < channel g t
unfolding channel
carried_less g t = omega arith

-- A channel's number, scaled and added to: the group's share and the carried type's.
pub channel_scaled : (sum factor g t : ℕ) → sum + factor * channel g t ≡ sum + factor * (16 + g) + factor * 64 * t
unfolding channel
channel_scaled sum factor g t =
    let z : 16 + (t * 64 + g) ≡ (16 + g) + 64 * t = omega arith in
    rw (z, mul-add factor (16 + g) (64 * t), mul_assoc factor 64 t, add_assoc)

pub power_step : (factor n : ℕ) → 0 < n → factor * 64 * 64 ^ (n - 1) ≡ factor * 64 ^ n
power_step factor zero h = absurd (omega arith)
power_step factor (suc n) h = rw (sub-one (suc n), pow-succ' 64 n, mul_assoc)

-- No dialect has a group or a kind but those that types are numbered for.
pub groups_64 : (d : Dialect) → groups_in d ≤ 64
unfolding groups_in
groups_64 Old = omega arith
groups_64 Current = omega arith

pub kinds_16 : (d : Dialect) → kinds_in d ≤ 16
unfolding kinds_in
kinds_16 Old = omega arith
kinds_16 Current = omega arith

-- A type read with n groups.
pub type_bound : (d : Dialect) (n : ℕ) (s : List ℕ) (at : ℕ) {t m : ℕ} → groups_then_kind_in d n s at ≡ got t m → t + 2 ≤ 17 * 64 ^ n
unfolding groups_then_kind_in channel
type_bound d zero s at e = let h = below_found (kinds_in d) s at e in omega (arith, kinds_16 d)
type_bound d (suc n) s at {t} e =
    let h = parts (below (groups_in d) s at) (λ g next. and_then (groups_then_kind_in d n s next) (λ u m. got (channel g u) m)) e in
    let i = parts (groups_then_kind_in d n s h.place) (λ u m. got (channel h.value u) m) h.rest in
    let v : 16 + (i.value * 64 + h.value) ≡ t = cc in
    omega (arith, groups_64 d, below_found (groups_in d) s at h.first, type_bound d n s h.place i.first)

-- A stored type has at most four groups, so its number fits.
pub few_groups : (d : Dialect) (n : ℕ) (s : List ℕ) (at : ℕ) {t m : ℕ} → n ≤ 4 → groups_then_kind_in d n s at ≡ got t m → t < 17 * 64 ^ 4
few_groups d n s at h e = let p : 64 ^ n ≤ 64 ^ 4 = pow-le-pow_right (lit< tt) h in omega (arith, type_bound d n s at e)

pub type_fits : (d : Dialect) (s : List ℕ) (at : ℕ) {t m : ℕ} → type_at_in d s at ≡ got t m → t < 17 * 64 ^ 4
unfolding type_at_in
type_fits d s at e =
    let h = parts (below 5 s at) (λ n next. groups_then_kind_in d n s next) e in
    few_groups d h.value s h.place (omega (arith, below_found 5 s at h.first)) h.rest
