-- What is known where a reading succeeds: each part of it succeeded, each test on the way came out so, and there was room.
use Prim.Native.Nat.{ℕ, ◌<◌, ◌≤◌, ◌+◌}
use mathlib.Core.Bool.{Bool, true, false, cond}
use mathlib.Core.List.{List}
use mathlib.Core.Path.{◌≡◌, refl}
use native.Mathlib.Omega.{arith}
use borrow.Author.Tests.{ltb-true, lt-ltb, le-ltb}
use lib.Dec.{ltb}
use lib.ListN.{length, get_or}
use Rattle.reading.specs.Read.{Read, got, refused, and_then, byte_at, below}
use Rattle.reading.specs.Forms.{limited}

-- The two parts of one reading after another.
pub record Parts {A B : Type 0} (x : Read A) (f : A → ℕ → Read B) (b : B) (k : ℕ) : Type 0 where
  pub value : A
  pub place : ℕ
  pub first : x ≡ got value place
  pub rest : f value place ≡ got b k

-- Nothing that is refused was found.
pub never : {A : Type 0} {P : Type 0} {a : A} {k q p : ℕ} → refused q p ≡ got a k → P
never e = let z : ◌≡◌ {A = ℕ} 0 1 = cc in absurd (omega arith)

pub parts : {A B : Type 0} (x : Read A) (f : A → ℕ → Read B) {b : B} {k : ℕ} → and_then x f ≡ got b k → Parts x f b k
unfolding and_then
parts (got a n) f e = record { value = a; place = n; first = refl; rest = e }
parts (refused q p) f e = never e

-- A test that guards against a refusal.
pub record Passed {A : Type 0} (t : Bool) (x : Read A) (a : A) (k : ℕ) : Type 0 where
  pub test : t ≡ true
  pub then : x ≡ got a k

pub passed : {A : Type 0} (t : Bool) (x : Read A) (q p : ℕ) {a : A} {k : ℕ} → cond t x (refused q p) ≡ got a k
    → Passed t x a k
passed true x q p e = record { test = refl; then = e }
passed false x q p e = never e

-- A byte that was read, and one that is below a bound.
pub byte_found : (s : List ℕ) (at : ℕ) {b k : ℕ} → byte_at s at ≡ got b k
    → Passed (ltb at (length s)) (got (get_or s at 0) (at + 1)) b k
unfolding byte_at
byte_found s at e = passed (ltb at (length s)) (got (get_or s at 0) (at + 1)) 2 at e

pub below_found : (n : ℕ) (s : List ℕ) (at : ℕ) {b k : ℕ} → below n s at ≡ got b k → b < n
unfolding below
below_found n s at {b} e =
    let h = parts (byte_at s at) (λ b next. cond (ltb b n) (got b next) (refused 4 at)) e in
    let g = passed (ltb h.value n) (got h.value h.place) 4 at h.rest in
    let v : h.value ≡ b = cc in
    omega (arith, ltb-true h.value n g.test)

-- P holds of what is read, if anything is.
unfoldable pub Every : {A : Type 0} → (A → Type 0) → Read A → Type 0
Every P (got a k) = P a
Every P (refused q p) = Unit

pub of_found : {A : Type 0} (P : A → Type 0) (r : Read A) {a : A} {k : ℕ} → Every P r → r ≡ got a k → P a
unfolding Every
of_found P (got b m) {a} h e = let q : b ≡ a = cc in rw q at h
of_found P (refused q p) h e = never e

module _ {A : Type 0} (P : A → Type 0) where
  pub every_then : {B : Type 0} (x : Read B) (f : B → ℕ → Read A) → ((b : B) (k : ℕ) → x ≡ got b k → Every P (f b k))
      → Every P (and_then x f)
  unfolding Every and_then
  every_then (got b k) f h = h b k refl
  every_then (refused q p) f h = tt

  pub every_cond : (t : Bool) (x y : Read A) → Every P x → Every P y → Every P (cond t x y)
  every_cond true x y h k = h
  every_cond false x y h k = k

  pub every_limited : (t : Bool) (at : ℕ) (x : Read A) → (t ≡ true → Every P x) → Every P (limited t at x)
  unfolding Every limited
  every_limited true at x h = h refl
  every_limited false at x h = tt

-- A byte below a bound, by its parts.
module _ (n : ℕ) (s : List ℕ) (at : ℕ) where
  module _ {b k : ℕ} (e : byte_at s at ≡ got b k) where
    pub below_in : b < n → below n s at ≡ got b k
    unfolding below and_then
    below_in h = rw (e, lt-ltb b n h)

    pub below_out : n ≤ b → below n s at ≡ refused 4 at
    unfolding below and_then
    below_out h = rw (e, le-ltb b n h)

  pub below_refused : {q p : ℕ} → byte_at s at ≡ refused q p → below n s at ≡ refused q p
  unfolding below and_then
  below_refused e = rw e

pub ruleset below_steps = (below_in, below_out, below_refused)
