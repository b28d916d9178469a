-- Local readers: the answer depends only on the bytes up to where the reading ends, which are those before the place after
-- what was read, or those up to the byte at which it was refused. Readings one after another, tests and limits keep it.
use Prim.Native.Nat.{ℕ, ◌+◌, ◌≤◌}
use mathlib.Core.Bool.{Bool, true, false, cond}
use mathlib.Core.List.{List}
use mathlib.Core.Path.{◌≡◌, refl, sym, ap, ◌∙◌}
use native.Mathlib.Omega.{arith}
use lib.ListN.{take}
use lib.Seq.{take-take}
use Rattle.reading.specs.Read.{Read, got, refused, and_then}
use Rattle.reading.specs.Forms.{limited}

-- Lists that agree so far agree before.
pub agree_before : (n k : ℕ) (s s' : List ℕ) → n ≤ k → take k s ≡ take k s' → take n s ≡ take n s'
agree_before n k s s' h e = sym (take-take n k s h) ∙ ap (λ (l : List ℕ). take n l) e ∙ take-take n k s' h

-- Where a reading ends.
unfoldable pub ends : {A : Type 0} → Read A → ℕ
ends (got a k) = k
ends (refused q p) = p + 1

pub record Local {A : Type 0} (from : ℕ) (R : List ℕ → Read A) : Type 0 where
  pub later : (s : List ℕ) → from ≤ ends (R s)
  pub same : (s s' : List ℕ) → take (ends (R s)) s ≡ take (ends (R s)) s' → R s' ≡ R s

-- The law as callers use it.
module _ {A : Type 0} (from : ℕ) (R : List ℕ → Read A) (l : Local from R) (s : List ℕ) {a : A} {k : ℕ} (e : R s ≡ got a k) where
  pub place_after_lem : from ≤ k
  unfolding ends
  place_after_lem = rw e at (l.later s)

  pub same_bytes : (s' : List ℕ) → take k s ≡ take k s' → R s' ≡ got a k
  unfolding ends
  same_bytes s' h = l.same s s' (rw e h) ∙ e

pub same_refusal : {A : Type 0} (from : ℕ) (R : List ℕ → Read A) → Local from R → (s : List ℕ) {q p : ℕ} → R s ≡ refused q p
    → (s' : List ℕ) → take (p + 1) s ≡ take (p + 1) s' → R s' ≡ refused q p
unfolding ends
same_refusal from R l s e s' h = l.same s s' (rw e h) ∙ e

-- What keeps it.
pub from_earlier : {A : Type 0} {from after : ℕ} {R : List ℕ → Read A} → from ≤ after → Local after R → Local from R
from_earlier h l = record { later = λ s. omega (arith, l.later s); same = l.same }

pub got_local : {A : Type 0} {from : ℕ} (a : A) (k : ℕ) → from ≤ k → Local from (λ s. got a k)
unfolding ends
got_local a k h = record { later = λ s. h; same = λ s s' e. refl }

pub refused_local : {A : Type 0} {from : ℕ} (q p : ℕ) → from ≤ p + 1 → Local {A = A} from (λ s. refused q p)
unfolding ends
refused_local q p h = record { later = λ s. h; same = λ s s' e. refl }

pub cond_local : {A : Type 0} {from : ℕ} (t : Bool) (X Y : List ℕ → Read A) → Local from X → Local from Y
    → Local from (λ s. cond t (X s) (Y s))
cond_local true X Y l m = l
cond_local false X Y l m = m

pub limited_local : {A : Type 0} {from : ℕ} (t : Bool) (at : ℕ) (X : List ℕ → Read A) → from ≤ at + 1 → Local from X
    → Local from (λ s. limited t at (X s))
unfolding limited
limited_local true at X h l = l
limited_local false at X h l = refused_local 5 at h

module _ {A B : Type 0} {from : ℕ} (X : List ℕ → Read A) (F : List ℕ → A → ℕ → Read B) (l : Local from X)
    (m : (s : List ℕ) (a : A) (n : ℕ) → X s ≡ got a n → Local n (λ s'. F s' a n)) where
  then_later : (s : List ℕ) (x : Read A) → X s ≡ x → from ≤ ends (and_then x (F s))
  unfolding ends and_then
  then_later s (got a n) e = omega (arith, rw e at (l.later s), (m s a n e).later s)
  then_later s (refused q p) e = rw e at (l.later s)

  then_same : (s s' : List ℕ) (x : Read A) → X s ≡ x → take (ends (and_then x (F s))) s ≡ take (ends (and_then x (F s))) s'
      → and_then (X s') (F s') ≡ and_then x (F s)
  unfolding ends and_then
  then_same s s' (got a n) e h =
      let t = agree_before n (ends (F s a n)) s s' ((m s a n e).later s) h in
      rw (same_bytes from X l s e s' t) ((m s a n e).same s s' h)
  then_same s s' (refused q p) e h = rw (same_refusal from X l s e s' h)

  pub then_local : Local from (λ s. and_then (X s) (F s))
  then_local = record { later = λ s. then_later s (X s) refl; same = λ s s' h. then_same s s' (X s) refl h }
