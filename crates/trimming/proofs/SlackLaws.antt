-- By at most the slack: what is at most the least of some counts is at most each of them; and where a granted count covers a needed one, it
-- still does with as much taken away as is left over.
use Prim.Native.Nat.{ℕ, ◌+◌, ◌-◌}
use mathlib.Core.Bool.{Bool, true, false, cond}
use mathlib.Core.Path.{◌≡◌, refl, sym}
use native.Mathlib.Omega.{arith}
use borrow.Author.Tests.{leb-true, leb-false, le-leb}
use Rattle.inference.specs.Counts.{Count, fin, unlimited, ◌⊕◌, at_most}
use Rattle.inference.proofs.CountLaws.{at_most_trans}
use Rattle.trimming.specs.Trim.{left_over, lesser}

-- Of two counts one is at most the other.
at_most_other : (a b : Count) → at_most a b ≡ false → at_most b a ≡ true
unfolding at_most
at_most_other (fin m) (fin n) e = le-leb n m (omega (arith, leb-false m n e))
at_most_other (fin m) unlimited e = sym e
at_most_other unlimited (fin n) e = refl
at_most_other unlimited unlimited e = refl

pub lesser_first : (x a b : Count) → at_most x (lesser a b) ≡ true → at_most x a ≡ true
unfolding lesser
lesser_first x a b h = go (at_most a b) refl h
  where
    go : (t : Bool) → at_most a b ≡ t → at_most x (cond t a b) ≡ true → at_most x a ≡ true
    go true e k = k
    go false e k = at_most_trans x b a k (at_most_other a b e)

pub lesser_second : (x a b : Count) → at_most x (lesser a b) ≡ true → at_most x b ≡ true
unfolding lesser
lesser_second x a b h = go (at_most a b) refl h
  where
    go : (t : Bool) → at_most a b ≡ t → at_most x (cond t a b) ≡ true → at_most x b ≡ true
    go true e k = at_most_trans x a b k e
    go false e k = k

-- `after` is what is granted when `by` is taken away.
pub still_covers : (needed granted after : Count) (by : ℕ) → at_most needed granted ≡ true → at_most (fin by) (left_over needed granted) ≡ true
    → at_most granted (fin by ⊕ after) ≡ true → at_most needed after ≡ true
unfolding at_most left_over ◌⊕◌
still_covers (fin n) (fin m) (fin k) by covers slack kept = le-leb n k (omega (arith, leb-true n m covers, leb-true by (m - n) slack, leb-true m (by + k) kept))
still_covers (fin n) (fin m) unlimited by covers slack kept = refl
still_covers (fin n) unlimited (fin k) by covers slack kept = let z : ◌≡◌ {A = ℕ} 0 1 = cc in absurd (omega arith)
still_covers (fin n) unlimited unlimited by covers slack kept = refl
still_covers unlimited (fin m) after by covers slack kept = let z : ◌≡◌ {A = ℕ} 0 1 = cc in absurd (omega arith)
still_covers unlimited unlimited (fin k) by covers slack kept = kept
still_covers unlimited unlimited unlimited by covers slack kept = refl
