-- Laws of what a walk finds: acts that follow one another, acts of components that differ in their purpose, components that follow one
-- another, and a name that is bound.
use Prim.Native.Nat.{ℕ, zero, suc, ◌+◌, ◌<◌, ◌≤◌, min}
use mathlib.Core.List.{List, [], ◌∷◌, ◌++◌, map}
use mathlib.Core.Option.{Option, some}
use mathlib.Core.Path.{◌≡◌, refl, sym, ap, ◌∙◌}
use native.Mathlib.Numerals.{add-one}
use native.Mathlib.Omega.{arith}
use lib.ListN.{length, take, set, get_elem?}
use lib.Seq.{take-suc-set, take-set-le, take-take}
use mathlib.Core.Bool.{Bool, true, false, cond}
use borrow.Author.Tests.{lt-ltb, le-ltb, ltb-true, ltb-false}
use lib.Dec.{ltb}
use Rattle.std.specs.Prelude.{Option as Answer, Some, None}
use Rattle.reading.specs.Told.{failed_below}
use Rattle.inference.specs.Told.{sooner}
use Rattle.reading.specs.Syntax.{Process, nil, par, new, input, output, repl}
use Rattle.inference.specs.Acts.{Act, Component, Located, type_of, acts, acts_of}
use Rattle.inference.specs.Needs.{need_of}
use Rattle.inference.specs.Rows.{charge, with_component}
use Rattle.inference.specs.Walks.{fault_of, worst, charged, worst_all, charged_all}

pub min_cong : {a b c d : ℕ} → a ≡ c → b ≡ d → min a b ≡ min c d
min_cong p q = rw (p, q)

-- The first question that fails is at most 11.
min_assoc : (a b c : ℕ) → min (min a b) c ≡ min a (min b c)
min_assoc a b c = omega arith

pub worst_most : (xs : List Act) → worst xs ≤ 11
unfolding worst
worst_most [] = omega arith
worst_most (a ∷ xs) = omega (arith, worst_most xs)

pub worst_append : (xs ys : List Act) → worst (xs ++ ys) ≡ min (worst xs) (worst ys)
unfolding worst
worst_append [] ys = omega (arith, worst_most ys)
worst_append (a ∷ xs) ys = rw (worst_append xs ys) (sym (min_assoc (fault_of a) (worst xs) (worst ys)))

pub charged_append : (t : List ℕ) (xs ys : List Act) → charged t (xs ++ ys) ≡ charged (charged t xs) ys
unfolding charged
charged_append t [] ys = refl
charged_append t (a ∷ xs) ys = charged_append (charge t a.component.number (need_of a) a.repeated) xs ys

-- A component's purpose has no part in what its acts fail and count.
module _ (number : ℕ) (path : List ℕ) (one other : ℕ) where
  abbrev with : ℕ → Component
  with purpose = record { number = number; path = path; purpose = purpose }

  pub purpose_aside : (r : Bool) (scope : List (Option ℕ)) (p : Process) → worst (acts (with one) r scope p) ≡ worst (acts (with other) r scope p)
  unfolding acts worst fault_of
  purpose_aside r scope nil = refl
  purpose_aside r scope (par p q) =
      worst_append (acts (with one) r scope p) (acts (with one) r scope q)
      ∙ min_cong (purpose_aside r scope p) (purpose_aside r scope q)
      ∙ sym (worst_append (acts (with other) r scope p) (acts (with other) r scope q))
  purpose_aside r scope (new t p) = purpose_aside r (scope ++ (some t ∷ [])) p
  purpose_aside r scope (input x t p) = min_cong refl (purpose_aside r (scope ++ (some t ∷ [])) p)
  purpose_aside r scope (output x y p) = min_cong refl (purpose_aside r scope p)
  purpose_aside r scope (repl p) = purpose_aside true scope p

  pub purpose_uncounted : (table : List ℕ) (r : Bool) (scope : List (Option ℕ)) (p : Process)
      → charged table (acts (with one) r scope p) ≡ charged table (acts (with other) r scope p)
  unfolding acts charged need_of
  purpose_uncounted table r scope nil = refl
  purpose_uncounted table r scope (par p q) =
      charged_append table (acts (with one) r scope p) (acts (with one) r scope q)
      ∙ purpose_uncounted (charged table (acts (with one) r scope p)) r scope q
      ∙ ap (λ (t : List ℕ). charged t (acts (with other) r scope q)) (purpose_uncounted table r scope p)
      ∙ sym (charged_append table (acts (with other) r scope p) (acts (with other) r scope q))
  purpose_uncounted table r scope (new t p) = purpose_uncounted table r (scope ++ (some t ∷ [])) p
  purpose_uncounted table r scope (input x t p) = purpose_uncounted _ r (scope ++ (some t ∷ [])) p
  purpose_uncounted table r scope (output x y p) = purpose_uncounted _ r scope p
  purpose_uncounted table r scope (repl p) = purpose_uncounted table true scope p

pub worst_all_most : (xs : List Located) → worst_all xs ≤ 11
unfolding worst_all
worst_all_most [] = omega arith
worst_all_most (l ∷ xs) = omega (arith, worst_all_most xs)

pub worst_all_append : (xs ys : List Located) → worst_all (xs ++ ys) ≡ min (worst_all xs) (worst_all ys)
unfolding worst_all
worst_all_append [] ys = omega (arith, worst_all_most ys)
worst_all_append (l ∷ xs) ys = rw (worst_all_append xs ys) (sym (min_assoc (worst (acts_of l)) (worst_all xs) (worst_all ys)))

pub charged_all_append : (t : List ℕ) (xs ys : List Located) → charged_all t (xs ++ ys) ≡ charged_all (charged_all t xs) ys
unfolding charged_all
charged_all_append t [] ys = refl
charged_all_append t (l ∷ xs) ys =
    charged_all_append (charged (with_component t l.component) (acts_of l)) xs ys

-- Of questions that fail: which fails first.
pub sooner_none : (f : Answer ℕ) → sooner f None ≡ f
unfolding sooner
sooner_none None = refl
sooner_none (Some n) = refl

pub none_fails : (f : Answer ℕ) → f ≡ sooner f (failed_below 11 11)
unfolding failed_below
none_fails f = sym (sooner_none f)

pub sooner_assoc : (f g h : Answer ℕ) → sooner (sooner f g) h ≡ sooner f (sooner g h)
unfolding sooner
sooner_assoc None g h = refl
sooner_assoc (Some a) None h = refl
sooner_assoc (Some a) (Some b) None = refl
sooner_assoc (Some a) (Some b) (Some c) = rw (min_assoc a b c)

-- the lesser of two faults fails the sooner
fails_sooner : (a b : ℕ) (s t : Bool) → ltb a 11 ≡ s → ltb b 11 ≡ t
    → cond (ltb (min a b) 11) (Some (min a b)) None ≡ sooner (cond s (Some a) None) (cond t (Some b) None)
unfolding sooner
fails_sooner a b true true e f = rw (lt-ltb (min a b) 11 (omega (arith, ltb-true a 11 e)))
fails_sooner a b true false e f =
    let h : min a b ≡ a = omega (arith, ltb-true a 11 e, ltb-false b 11 f) in rw (h, e)
fails_sooner a b false true e f =
    let h : min a b ≡ b = omega (arith, ltb-false a 11 e, ltb-true b 11 f) in rw (h, f)
fails_sooner a b false false e f = rw (le-ltb (min a b) 11 (omega (arith, ltb-false a 11 e, ltb-false b 11 f)))

pub failed_min : (a b : ℕ) → failed_below 11 (min a b) ≡ sooner (failed_below 11 a) (failed_below 11 b)
unfolding failed_below
failed_min a b = fails_sooner a b (ltb a 11) (ltb b 11) refl refl

-- What fails first of one and then another.
pub first_then : (f g h : Answer ℕ) (a b : ℕ) → g ≡ sooner f (failed_below 11 a) → h ≡ sooner g (failed_below 11 b)
    → h ≡ sooner f (failed_below 11 (min a b))
first_then f g h a b p q = rw (failed_min a b, ← sooner_assoc, ← p) q

-- The scope after a name was bound, and what is kept of it.
pub bound : (l : List ℕ) (n t : ℕ) → n < length l → take (n + 1) (set l n t) ≡ take n l ++ (t ∷ [])
bound l n t h = rw add-one (take-suc-set l n t h)

pub bound_in : (l m : List ℕ) (n t : ℕ) → m ≡ set l n t → n < length l → take (n + 1) m ≡ take n l ++ (t ∷ [])
bound_in l m n t e h = rw e (bound l n t h)

-- Stored types as a scope: every level has its type.
some_snoc : (l : List ℕ) (t : ℕ) → map some (l ++ (t ∷ [])) ≡ map some l ++ (some t ∷ [])
some_snoc [] t = refl
some_snoc (x ∷ l) t = ap (λ r. some x ∷ r) (some_snoc l t)

pub some_type : (l : List ℕ) (x : ℕ) → type_of (map some l) x ≡ get_elem? l x
unfolding type_of
some_type [] x = refl
some_type (t ∷ l) zero = refl
some_type (t ∷ l) (suc x) = some_type l x

pub scope_bound : (l m : List ℕ) (n t : ℕ) → m ≡ set l n t → n < length l → map some (take (n + 1) m) ≡ map some (take n l) ++ (some t ∷ [])
scope_bound l m n t e h = ap (map some) (bound_in l m n t e h) ∙ some_snoc (take n l) t

pub kept_below_lem : (l m k : List ℕ) (n t : ℕ) → m ≡ set l n t → take (n + 1) k ≡ take (n + 1) m → take n k ≡ take n l
kept_below_lem l m k n t e h =
    sym (take-take n (n + 1) k (omega arith)) ∙ ap (λ (x : List ℕ). take n x) h ∙ take-take n (n + 1) m (omega arith)
    ∙ rw e (take-set-le n l n t (omega arith))
