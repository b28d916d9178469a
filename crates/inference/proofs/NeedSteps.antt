-- What an act needs where its channel's name may be out of scope, and the first question that it fails, by the shape of its
-- channel's type: each lemma is one return of the functions of acts, from what was matched and the tests that were made.
use Prim.Native.Nat.{ℕ, ◌<◌, ◌≤◌, min}
use native.Mathlib.Omega.{arith}
use mathlib.Core.Bool.{Bool, true, false}
use mathlib.Core.List.{List}
use mathlib.Core.Option.{some}
use Rattle.std.specs.Prelude.{Option, Some, None}
use mathlib.Core.Path.{◌≡◌, refl}
use borrow.Author.Tests.{eq-eqb, ne_eqb}
use Rattle.reading.proofs.Tests.{tests}
use Rattle.reading.specs.Forms.{member}
use Rattle.reading.specs.Questions.{number_of}
use Rattle.reading.specs.Told.{failed_below}
use Rattle.reading.specs.declared.Question.{Question}
use Rattle.reading.specs.Types.{shape}
use Rattle.reading.specs.declared.Shape.{Shape}
use Rattle.reading.specs.declared.Shape.TheVariants.{Plain, Channel}
use Rattle.needs.specs.Needs.{need}
use Rattle.needs.specs.declared.Need.{Need}
use Rattle.needs.specs.declared.Need.TheVariants as need_case
use Rattle.inference.specs.Needs.{need_on}
use Rattle.inference.specs.Told.{known, sooner}
use Rattle.inference.specs.Typing.{is_known, of_channel, of_shape, is_type}
use Rattle.inference.specs.Walks.{fault, Noted}
use Rattle.inference.specs.declared.Walker.{Walker}

module _ (b : Bool) (k : Option ℕ) where
  pub known_need : {y : Need} (t : ℕ) → k ≡ Some t → y ≡ need b t → y ≡ need_on b (known k)
  unfolding need_on
  known_need t e p = rw e p

  pub unknown_need : k ≡ None → need_case.Nothing ≡ need_on b (known k)
  unfolding need_on
  unknown_need e = rw e

module _ (t u : ℕ) (path : List ℕ) (s : Shape) (q : s ≡ shape t) where
  pub fails_eight : (k : ℕ) → s ≡ Plain k → Some 8 ≡ failed_below 11 (fault (some t) (some u) path)
  unfolding failed_below fault is_known of_channel of_shape
  fails_eight k e = rw (← q, e)

  pub fails_nine : (g v : ℕ) → s ≡ Channel g v → (v ≡ u → ⊥) → Some 9 ≡ failed_below 11 (fault (some t) (some u) path)
  unfolding failed_below fault is_known of_channel of_shape is_type
  fails_nine g v e h = rw (← q, e, ne_eqb v u h)

  pub fails_ten : (g v : ℕ) (b : Bool) → s ≡ Channel g v → v ≡ u → b ≡ member g path → b ≡ false → Some 10 ≡ failed_below 11 (fault (some t) (some u) path)
  unfolding failed_below fault is_known of_channel of_shape is_type
  fails_ten g v b e h m f = rw (← q, e, eq-eqb v u h, ← m, f)

  pub fails_none : (g v : ℕ) (b : Bool) → s ≡ Channel g v → v ≡ u → b ≡ member g path → b ≡ true → None ≡ failed_below 11 (fault (some t) (some u) path)
  unfolding failed_below fault is_known of_channel of_shape is_type
  fails_none g v b e h m f = rw (← q, e, eq-eqb v u h, ← m, f)

module _ (k o : Option ℕ) (path : List ℕ) where
  pub no_such_channel : k ≡ None → Some 7 ≡ failed_below 11 (fault (known k) (known o) path)
  unfolding failed_below fault is_known
  no_such_channel e = rw e

  pub no_such_object : (t : ℕ) → k ≡ Some t → o ≡ None → Some 7 ≡ failed_below 11 (fault (known k) (known o) path)
  unfolding failed_below fault is_known
  no_such_object t e f = rw (e, f)

  pub both_known : {y : Option ℕ} (t u : ℕ) → k ≡ Some t → o ≡ Some u → y ≡ failed_below 11 (fault (some t) (some u) path)
      → y ≡ failed_below 11 (fault (known k) (known o) path)
  both_known t u e f p = rw (e, f) p

-- A question is noted: where one failed before, the first of the two stays.
module _ (w : Walker) (q : Question) where
  pub noted_sooner : (p : Question) → w.fault ≡ Some p → number_of q < number_of p → Noted (number_of q) w (record w { fault = Some q })
  unfolding sooner
  noted_sooner p e h = record {
    first = rw e (let m : min (number_of p) (number_of q) ≡ number_of q = omega arith in rw m refl);
    counted = refl;
    kept = refl;
    number = refl;
    same = refl;
    lent = refl;
  }

  pub noted_later : (p : Question) → w.fault ≡ Some p → number_of p ≤ number_of q → Noted (number_of q) w w
  unfolding sooner
  noted_later p e h = record {
    first = rw e (let m : min (number_of p) (number_of q) ≡ number_of p = omega arith in rw m refl);
    counted = refl;
    kept = refl;
    number = refl;
    same = refl;
    lent = refl;
  }

  pub noted_first : w.fault ≡ None → Noted (number_of q) w (record w { fault = Some q })
  unfolding sooner
  noted_first e = record { first = rw e refl; counted = refl; kept = refl; number = refl; same = refl; lent = refl }

pub ruleset need_steps = (
  tests,
  known_need,
  unknown_need,
  fails_eight,
  fails_nine,
  fails_ten,
  fails_none,
  no_such_channel,
  no_such_object,
  both_known,
)
