-- Questions 17 and 18, from what an entry comes to, and the earlier of two questions that fail.
use Prim.Native.Nat.{ℕ, ◌<◌, ◌≤◌, min}
use mathlib.Core.Path.{◌≡◌, refl, sym, ap, ◌∙◌}
use mathlib.Core.List.{List, [], ◌∷◌}
use mathlib.Core.Bool.{Bool, true, false, cond, not, ◌&&◌}
use mathlib.Core.Option.{Option, some, none}
use native.Mathlib.Omega.{arith}
use lib.Dec.{ltb}
use borrow.Author.Rules.{rules}
use borrow.Author.Tests.{lt-ltb, le-ltb, ltb-true, ltb-false, not-true, not-false}
use Rattle.std.specs.Prelude.{Option as Answer, Some, None}
use Rattle.reading.specs.Questions.{number_of}
use Rattle.reading.specs.Told.{numbered, failed_below}
use Rattle.reading.specs.declared.Question.{Question}
use Rattle.reading.specs.declared.Question.TheVariants.{Reached, Covered}
use Rattle.inference.specs.Lists.{every}
use Rattle.fit.specs.declared.Covering.{Covering}
use Rattle.fit.specs.declared.Permission.{Permission as Told}
use Rattle.fit.specs.Satisfies.{Verdict, holds}
use Rattle.fit.specs.Uncovered.{first, or_none}
use Rattle.fit.specs.Covers.{verdicts_of, told_in, lacking_in, CoveringIs, rows_fault}

-- What lacks nothing is covered.
unfoldable pub is_none : {A : Type 0} → Option A → Bool
is_none none = true
is_none (some a) = false

pub every_first : (vs : List Verdict) → every holds vs ≡ is_none (lacking_in vs)
unfolding every first is_none or_none lacking_in
every_first [] = refl
every_first (v ∷ vs) = go (holds v) (every_first vs)
  where
    go : (b : Bool) → every holds vs ≡ is_none (or_none (first (λ w. not (holds w)) vs))
        → (b && every holds vs) ≡ is_none (or_none (cond (not b) (some v) (first (λ w. not (holds w)) vs)))
    go true e = e
    go false e = unfold is_none or_none in refl

module _ (c nodes rows table sums : List ℕ) (n k : ℕ) (r : Covering) (is : CoveringIs c nodes rows table sums n k r) where
  pub path_missing : not r.reached ≡ true → numbered (Some Reached) ≡ failed_below 19 (rows_fault c nodes rows table sums n k)
  unfolding rows_fault failed_below
  path_missing h = rw (← is.reached, not-true r.reached h) refl

  module _ (reached : not r.reached ≡ false) where
    pub one_missing : (p : Told) → told_in (Some p) ≡ lacking_in (verdicts_of r) → numbered (Some Covered) ≡ failed_below 19 (rows_fault c nodes rows table sums n k)
    unfolding rows_fault failed_below is_none
    one_missing p e = rw (← is.reached, not-false r.reached reached, ← is.verdicts, every_first (verdicts_of r), ← e) refl

    pub none_missing : told_in None ≡ lacking_in (verdicts_of r) → numbered None ≡ failed_below 19 (rows_fault c nodes rows table sums n k)
    unfolding rows_fault failed_below is_none
    none_missing e = rw (← is.reached, not-false r.reached reached, ← is.verdicts, every_first (verdicts_of r), ← e) refl

pub ruleset entry_steps = (rules, path_missing, one_missing, none_missing)

-- What a fault that is told by a number says of a question.
failed_some : (bound n : ℕ) (q : Question) → numbered (Some q) ≡ failed_below bound n → number_of q ≡ n
unfolding failed_below
failed_some bound n q e = go (ltb n bound) e
  where
    go : (b : Bool) → Some (number_of q) ≡ cond b (Some n) None → number_of q ≡ n
    go true f = cc
    go false f = cc

failed_none : (bound n : ℕ) → numbered None ≡ failed_below bound n → bound ≤ n
unfolding failed_below
failed_none bound n e = go (ltb n bound) refl e
  where
    go : (b : Bool) → ltb n bound ≡ b → ◌≡◌ {A = Answer ℕ} None (cond b (Some n) None) → bound ≤ n
    go true h f = cc
    go false h f = ltb-false n bound h

-- a number that is at least the bound changes nothing
pub failed_past : (bound n m : ℕ) → bound ≤ m → failed_below bound (min n m) ≡ failed_below bound n
unfolding failed_below
failed_past bound n m h = go (ltb n bound) refl
  where
    go : (b : Bool) → ltb n bound ≡ b → cond (ltb (min n m) bound) (Some (min n m)) None ≡ cond b (Some n) None
    go true e =
        let i : n < bound = ltb-true n bound e in
        let z : min n m ≡ n = omega arith in
        rw (z, lt-ltb n bound i) refl
    go false e =
        let i : bound ≤ n = ltb-false n bound e in
        rw (le-ltb (min n m) bound (omega arith)) refl

pub failed_swap : (bound n m : ℕ) → failed_below bound (min n m) ≡ failed_below bound (min m n)
failed_swap bound n m = ap (failed_below bound) (omega arith)

-- Each return of `earlier`.
pub earlier_none : (b : Answer Question) (bound n m : ℕ) → numbered None ≡ failed_below bound n → numbered b ≡ failed_below bound m → numbered b ≡ failed_below bound (min n m)
earlier_none b bound n m e f = f ∙ sym (failed_swap bound n m ∙ failed_past bound m n (failed_none bound n e))

pub earlier_alone : (a : Answer Question) (bound n m : ℕ) → numbered a ≡ failed_below bound n → numbered None ≡ failed_below bound m → numbered a ≡ failed_below bound (min n m)
earlier_alone a bound n m e f = e ∙ sym (failed_past bound n m (failed_none bound m f))

module _ (p q : Question) (bound n m : ℕ) (e : numbered (Some p) ≡ failed_below bound n) (f : numbered (Some q) ≡ failed_below bound m) where
  pub earlier_other : number_of q < number_of p → numbered (Some q) ≡ failed_below bound (min n m)
  earlier_other h =
      let z : min n m ≡ m = omega (arith, failed_some bound n p e, failed_some bound m q f) in rw z f

  pub earlier_first : number_of p ≤ number_of q → numbered (Some p) ≡ failed_below bound (min n m)
  earlier_first h =
      let z : min n m ≡ n = omega (arith, failed_some bound n p e, failed_some bound m q f) in rw z e

pub ruleset earlier_steps = (rules, earlier_none, earlier_alone, earlier_other, earlier_first)
