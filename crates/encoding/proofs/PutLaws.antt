-- Bytes put into lent memory: one stretch after another, and what stands before and after them.
use Prim.Native.Nat.{ℕ, ◌+◌, ◌≤◌}
use mathlib.Core.List.{List, [], ◌++◌, append_assoc, append-nil}
use mathlib.Core.Path.{◌≡◌, sym, ap, ◌∙◌}
use native.Mathlib.Omega.{arith}
use lib.ListN.{length, take, drop, length-append, length-drop, take-append-drop}
use lib.Seq.{length-take-le, take_at, drop_at, drop-drop}
use Rattle.encoding.specs.Copying.{Put}

module _ {out out' : List ℕ} {at : ℕ} {bytes : List ℕ} {r : ℕ} (p : Put out out' at bytes r) (h : at + length bytes ≤ length out) where
  long : length (take at out ++ bytes) ≡ at + length bytes
  long = omega (arith, length-append (take at out) bytes, length-take-le at out (omega arith))

  pub put_before : take r out' ≡ take at out ++ bytes
  put_before = rw p.left (take_at (take at out ++ bytes) (drop (at + length bytes) out) r (omega (arith, long, p.next)))

  pub put_after : drop r out' ≡ drop r out
  put_after = rw p.left (drop_at (take at out ++ bytes) (drop (at + length bytes) out) r (omega (arith, long, p.next)) ∙ ap (λ (k : ℕ). drop k out) (sym p.next))

  pub put_length : length out' ≡ length out
  put_length = ap length p.left ∙ omega (arith, length-append (take at out ++ bytes) (drop (at + length bytes) out), long, length-drop (at + length bytes) out)

pub put_none : (out : List ℕ) (at : ℕ) → Put out out at [] at
put_none out at = record {
  next = omega arith;
  left = let z : at + 0 ≡ at = omega arith in rw (z, append-nil) (sym (take-append-drop at out));
}

module _ {o o' o'' : List ℕ} {at m r : ℕ} {xs ys : List ℕ} (p : Put o o' at xs m) (q : Put o' o'' m ys r) (h : at + length xs ≤ length o) where
  pub put_both : Put o o'' at (xs ++ ys) r
  put_both = record {
    next = omega (arith, p.next, q.next, length-append xs ys);
    left =
        let z : m + length ys ≡ at + length (xs ++ ys) = omega (arith, p.next, length-append xs ys) in
        let d : drop (m + length ys) o' ≡ drop (m + length ys) o = sym (drop-drop (length ys) m o') ∙ ap (λ (l : List ℕ). drop (length ys) l) (put_after p h) ∙ drop-drop (length ys) m o in
        rw (q.left, put_before p h, d, z, append_assoc (take at o) xs ys);
  }
