-- How a stored type is read: the count of groups, at most four; then group after group, each of which adds to the type's number
-- and scales what is left of it; then the kind. Four groups are few enough for the sums and products to fit.
use Prim.Native.Nat.{ℕ, zero, suc, ◌+◌, ◌-◌, ◌*◌, ◌^◌, ◌<◌, ◌≤◌}
use mathlib.Core.List.{List}
use mathlib.Core.Path.{◌≡◌, refl, sym}
use native.Mathlib.Nat.{le-mul_of_pos_right, mul-le-mul_left, one-le-pow, pow-le-pow_right}
use native.Mathlib.Numerals.{sub-one}
use native.Mathlib.Omega.{arith}
use borrow.Author.Rules.{rules}
use lib.Dec.{lit<}
use mir.Syntax.{w64}
use mir.Val.{Fits}
use Rattle.reading.proofs.Parts.{below_found}
use Rattle.reading.proofs.TypeLaws.{groups_64, kinds_16, channel_scaled, power_step}
use Rattle.reading.specs.Dialects.{groups_in, kinds_in}
use Rattle.std.specs.Prelude.{Result, Ok, Err}
use Rattle.reading.specs.Read.{Read, got, refused, and_then, below}
use Rattle.reading.specs.Told.{number}
use Rattle.reading.specs.Types.{channel, groups_then_kind_in, type_at_in}
use Rattle.reading.specs.declared.Dialect.{Dialect}
use Rattle.reading.specs.declared.Number.{Number}
use Rattle.reading.specs.declared.Refusal.{Refusal}

small : (n : ℕ) (s : List ℕ) (at : ℕ) (q : Result Number Refusal) (g : Number) → q ≡ Ok g → number q ≡ below n s at
    → g.value < n
small n s at q g f e = below_found n s at {b = g.value} {k = g.next} (rw f at (sym e))

-- A stored type: the count of its groups, and then these and the kind.
module _ (d : Dialect) (s : List ℕ) (at : ℕ) where
  module _ {n m : ℕ} (e : below 5 s at ≡ got n m) where
    pub count_fits : n ≤ 4
    count_fits = omega (arith, below_found 5 s at e)

    pub type_at_got : type_at_in d s at ≡ groups_then_kind_in d n s m
    unfolding type_at_in and_then
    type_at_got = rw e

  pub type_at_refused : {q p : ℕ} → below 5 s at ≡ refused q p → type_at_in d s at ≡ refused q p
  unfolding type_at_in and_then
  type_at_refused e = rw e

pub ruleset type_steps = (count_fits, type_at_got, type_at_refused)

-- A type in its groups: its number is scaled and added to what they make.
unfoldable pub in_groups : ℕ → ℕ → Read ℕ → Read ℕ
in_groups sum factor x = and_then x (λ t m. got (sum + factor * t) m)

in_none : (x : Read ℕ) → x ≡ in_groups 0 1 x
unfolding in_groups and_then
in_none (got t m) = let z : 0 + 1 * t ≡ t = omega arith in rw z
in_none (refused q p) = refl

in_one_more : (sum factor g : ℕ) (x : Read ℕ)
    → in_groups sum factor (and_then x (λ t m. got (channel g t) m)) ≡ in_groups (sum + factor * (16 + g)) (factor * 64) x
unfolding in_groups and_then
in_one_more sum factor g (got t m) = rw (channel_scaled sum factor g t)
in_one_more sum factor g (refused q p) = refl

-- One group, then the rest.
group_step : (d : Dialect) (n : ℕ) (s : List ℕ) (at : ℕ) → 0 < n
    → groups_then_kind_in d n s at ≡ and_then (below (groups_in d) s at) (λ g next. and_then (groups_then_kind_in d (n - 1) s next) (λ t m. got (channel g t) m))
unfolding groups_then_kind_in
group_step d zero s at h = absurd (omega arith)
group_step d (suc n) s at h = rw (sub-one (suc n))

-- The loop over a type's groups: `done` of them are read, the rest from `next` on.
pub record GroupsLeft (d : Dialect) (s : List ℕ) (at count next done sum factor : ℕ) : Type 0 where
  pub same : groups_then_kind_in d count s at ≡ in_groups sum factor (groups_then_kind_in d (count - done) s next)
  pub room : factor * 64 ^ (count - done) ≤ 64 ^ 4
  pub low : sum ≤ 2 * factor

pub all_left : (d : Dialect) (s : List ℕ) (at count : ℕ) → count ≤ 4 → GroupsLeft d s at count at 0 0 1
all_left d s at count h =
    let p : 64 ^ count ≤ 64 ^ 4 = pow-le-pow_right (lit< tt) h in
    let z : count - 0 ≡ count = omega arith in
    record { same = rw z (in_none (groups_then_kind_in d count s at)); room = rw z (omega arith); low = omega arith }

module _ (d : Dialect) (s : List ℕ) (at count next done sum factor : ℕ) (l : GroupsLeft d s at count next done sum factor) where
  factor_small : factor ≤ 64 ^ 4
  factor_small =
      let p : 0 < 64 ^ (count - done) = omega (arith, one-le-pow (count - done) 64 (lit< tt)) in
      omega (arith, le-mul_of_pos_right factor p, l.room)

  pub factor_fits : Fits w64 (factor * 64)
  factor_fits = record { fits = omega (arith, factor_small) }

  -- a group
  module _ (k : ℕ) (b : k ≡ groups_in d) (r : Result Number Refusal) (e : number r ≡ below k s next) where
    pub group_refused : (q : Refusal) → done < count → r ≡ Err q → number r ≡ groups_then_kind_in d count s at
    unfolding in_groups and_then
    group_refused q h f =
        let z = sym (rw (f, b) at e) in
        let pos : 0 < count - done = omega arith in
        rw (l.same, group_step d (count - done) s next pos, z, f)

    module _ (g : Number) (f : r ≡ Ok g) where
      group_small : g.value < 64
      group_small = omega (arith, small k s next r g f e, groups_64 d, b)

      scaled_small : factor * (16 + g.value) ≤ factor * 79
      scaled_small = let p : 16 + g.value ≤ 79 = omega (arith, group_small) in mul-le-mul_left factor p

      pub group_fits : Fits w64 (16 + g.value)
      group_fits = record { fits = omega (arith, group_small) }

      pub scaled_fits : Fits w64 (factor * (16 + g.value))
      scaled_fits = record { fits = omega (arith, scaled_small, factor_small) }

      pub sum_fits : Fits w64 (sum + factor * (16 + g.value))
      sum_fits = record { fits = omega (arith, scaled_small, factor_small, l.low) }

      pub group_read : done < count → GroupsLeft d s at count g.next (done + 1) (sum + factor * (16 + g.value)) (factor * 64)
      unfolding and_then
      group_read h =
          let z = sym (rw (f, b) at e) in
          let pos : 0 < count - done = omega arith in
          let k : count - (done + 1) ≡ (count - done) - 1 = omega arith in
          record {
            same = rw (l.same, group_step d (count - done) s next pos, z, k) (in_one_more sum factor g.value (groups_then_kind_in d ((count - done) - 1) s g.next));
            room = rw (k, power_step factor (count - done) pos) l.room;
            low = omega (arith, scaled_small, l.low);
          }

  -- the kind
  module _ (k : ℕ) (b : k ≡ kinds_in d) (r : Result Number Refusal) (e : number r ≡ below k s next) where
    last : count ≤ done → groups_then_kind_in d (count - done) s next ≡ number r
    unfolding groups_then_kind_in
    last h = let z : count - done ≡ 0 = omega arith in rw (z, ← b) (sym e)

    pub kind_refused : (q : Refusal) → count ≤ done → r ≡ Err q → number r ≡ groups_then_kind_in d count s at
    unfolding in_groups and_then
    kind_refused q h f = rw (l.same, last h, f)

    module _ (n : Number) (f : r ≡ Ok n) where
      kind_small : factor * n.value ≤ factor * 16
      kind_small = let p : n.value ≤ 16 = omega (arith, small k s next r n f e, kinds_16 d, b) in mul-le-mul_left factor p

      pub kind_scaled_fits : Fits w64 (factor * n.value)
      kind_scaled_fits = record { fits = omega (arith, kind_small, factor_small) }

      pub kind_fits : Fits w64 (sum + factor * n.value)
      kind_fits = record { fits = omega (arith, kind_small, factor_small, l.low) }

      pub kind_read : count ≤ done → got (sum + factor * n.value) n.next ≡ groups_then_kind_in d count s at
      unfolding in_groups and_then
      kind_read h = rw (l.same, last h, f)

pub ruleset groups_left = (
  rules,
  all_left,
  factor_fits,
  group_refused,
  group_fits,
  scaled_fits,
  sum_fits,
  group_read,
  kind_refused,
  kind_scaled_fits,
  kind_fits,
  kind_read,
)
