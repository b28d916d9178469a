-- What stands ahead of a place: a byte that is read there, and the bytes after it.
use Prim.Native.Nat.{ℕ, suc, ◌+◌, ◌<◌}
use mathlib.Core.Bool.{cond}
use mathlib.Core.List.{List, [], ◌∷◌, ◌++◌}
use mathlib.Core.Path.{◌≡◌, sym, ap, ap₂, ◌∙◌}
use native.Mathlib.Numerals.{add-one}
use native.Mathlib.Omega.{arith}
use borrow.Author.Tests.{ltb-true, lt-ltb}
use lib.Dec.{ltb}
use lib.ListN.{length, get_or, drop, length-drop}
use lib.Seq.{drop-cons, drop-drop, get_or-drop, drop-append_seam}
use Rattle.reading.proofs.Parts.{parts, passed, byte_found}
use Rattle.reading.specs.Read.{got, refused, and_then, byte_at, below}

-- A byte that was read, and then what follows it.
pub byte_ahead : (s : List ℕ) (at : ℕ) {b k : ℕ} → byte_at s at ≡ got b k → drop at s ≡ b ∷ drop k s
byte_ahead s at {b} {k} e =
    let h = byte_found s at e in
    let v : get_or s at 0 ≡ b = let z = h.then in cc in
    let m : at + 1 ≡ k = let z = h.then in cc in
    rw (← add-one) at (drop-cons s at 0 (ltb-true at (length s) h.test)) ∙ ap₂ (λ (x i : ℕ). x ∷ drop i s) v m

pub below_ahead : (n : ℕ) (s : List ℕ) (at : ℕ) {b k : ℕ} → below n s at ≡ got b k → drop at s ≡ b ∷ drop k s
unfolding below
below_ahead n s at {b} {k} e =
    let h = parts (byte_at s at) (λ b next. cond (ltb b n) (got b next) (refused 4 at)) e in
    let g = passed (ltb h.value n) (got h.value h.place) 4 at h.rest in
    let v : h.value ≡ b = let z = g.then in cc in
    let m : h.place ≡ k = let z = g.then in cc in
    byte_ahead s at h.first ∙ ap₂ (λ (x i : ℕ). x ∷ drop i s) v m

-- Where a byte stands ahead, it is read.
module _ (s : List ℕ) (at : ℕ) {b : ℕ} {rest : List ℕ} (e : drop at s ≡ b ∷ rest) where
  long : at < length s
  long = let z : length (drop at s) ≡ suc (length rest) = ap length e in omega (arith, length-drop at s)

  pub value_there : get_or s at 0 ≡ b
  value_there =
      let z : at + 0 ≡ at = omega arith in
      let h : get_or (drop at s) 0 0 ≡ get_or s (at + 0) 0 = get_or-drop at s 0 0 in
      rw z at (sym h ∙ ap (λ (l : List ℕ). get_or l 0 0) e)

  pub byte_there : byte_at s at ≡ got b (at + 1)
  unfolding byte_at
  byte_there = rw (lt-ltb at (length s) long, value_there)

  pub below_there : (n : ℕ) → b < n → below n s at ≡ got b (at + 1)
  unfolding below and_then
  below_there n h = rw (byte_there, lt-ltb b n h)

-- What stands after what stands ahead.
pub after_there : (s : List ℕ) (at : ℕ) (xs : List ℕ) {rest : List ℕ} → drop at s ≡ xs ++ rest → drop (at + length xs) s ≡ rest
after_there s at xs {rest} e = sym (drop-drop (length xs) at s) ∙ ap (λ (l : List ℕ). drop (length xs) l) e ∙ drop-append_seam xs rest

pub next_there : (s : List ℕ) (at : ℕ) {b : ℕ} {rest : List ℕ} → drop at s ≡ b ∷ rest → drop (at + 1) s ≡ rest
next_there s at {b} e = after_there s at (b ∷ []) e
