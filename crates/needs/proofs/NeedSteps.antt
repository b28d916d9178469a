-- What an act needs: each lemma is one return of the functions, from the shape or the case that was matched and the tests that
-- were made.
use Prim.Native.Nat.{ℕ}
use mathlib.Core.Bool.{Bool, true, false}
use mathlib.Core.Path.{◌≡◌}
use borrow.Author.Tests.{not-true, not-false}
use Rattle.reading.proofs.Tests.{tests}
use Rattle.reading.specs.Types.{shape}
use Rattle.reading.specs.declared.Shape.{Shape}
use Rattle.reading.specs.declared.Shape.TheVariants.{Plain, Channel}
use Rattle.needs.specs.Needs.{need, channel_need, case_need, carries, link_to}
use Rattle.needs.specs.declared.Carried.{Carried}
use Rattle.needs.specs.declared.Carried.TheVariants.{Data, Link, Deeper}
use Rattle.needs.specs.declared.Need.{Need}
use Rattle.needs.specs.declared.Need.TheVariants as need_case

-- What a channel carries.
module _ (t : ℕ) (s : Shape) (q : s ≡ shape t) where
  pub carries_data : (k : ℕ) → s ≡ Plain k → Data k ≡ carries (shape t)
  unfolding carries
  carries_data k e = rw (← q, e)

  module _ (h u : ℕ) (e : s ≡ Channel h u) (r : Shape) (f : r ≡ shape u) where
    pub carries_link : (k : ℕ) → r ≡ Plain k → Link k ≡ carries (shape t)
    unfolding carries link_to
    carries_link k d = rw (← q, e, ← f, d)

    pub carries_deeper : (i v : ℕ) → r ≡ Channel i v → Deeper ≡ carries (shape t)
    unfolding carries link_to
    carries_deeper i v d = rw (← q, e, ← f, d)

-- The six cases, c being what was found.
module _ (b : Bool) (g t : ℕ) (c : Carried) (q : c ≡ carries (shape t)) where
  pub receives_data : (k : ℕ) → c ≡ Data k → b ≡ false → need_case.Read k ≡ case_need b g (carries (shape t))
  unfolding case_need
  receives_data k e h = rw (← q, e, h)

  pub receives_link : (k : ℕ) → c ≡ Link k → b ≡ false → need_case.Access k ≡ case_need b g (carries (shape t))
  unfolding case_need
  receives_link k e h = rw (← q, e, h)

  pub receives_deeper : c ≡ Deeper → b ≡ false → need_case.Nothing ≡ case_need b g (carries (shape t))
  unfolding case_need
  receives_deeper e h = rw (← q, e, h)

  pub sends_data : (k : ℕ) → c ≡ Data k → b ≡ true → need_case.Write k ≡ case_need b g (carries (shape t))
  unfolding case_need
  sends_data k e h = rw (← q, e, h)

  pub sends_link : (k : ℕ) → c ≡ Link k → b ≡ true → need_case.Disclose k g ≡ case_need b g (carries (shape t))
  unfolding case_need
  sends_link k e h = rw (← q, e, h)

  pub sends_deeper : c ≡ Deeper → b ≡ true → need_case.Nothing ≡ case_need b g (carries (shape t))
  unfolding case_need
  sends_deeper e h = rw (← q, e, h)

-- The channel's type.
module _ (b : Bool) (t : ℕ) (s : Shape) (q : s ≡ shape t) where
  pub no_channel : (k : ℕ) → s ≡ Plain k → need_case.Nothing ≡ need b t
  unfolding need channel_need
  no_channel k e = rw (← q, e)

  pub on_channel_lem : {y : Need} (g u : ℕ) → s ≡ Channel g u → y ≡ case_need b g (carries (shape u)) → y ≡ need b t
  unfolding need channel_need
  on_channel_lem g u e p = rw (← q, e) p

pub ruleset need_steps = (
  tests,
  not-true,
  not-false,
  carries_data,
  carries_link,
  carries_deeper,
  receives_data,
  receives_link,
  receives_deeper,
  sends_data,
  sends_link,
  sends_deeper,
  no_channel,
  on_channel_lem,
)
