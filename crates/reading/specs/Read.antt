-- Reading: what stands at a place of a byte string, or the first question that fails and the place of its byte.
use Rattle.std.specs.Prelude.{ℕ, ◌+◌, List, cond, length, get_or, ltb}

-- A value and the place after it; or the number of the question that fails and the place of the byte at which it fails.
pub data Read (A : Type 0) : Type 0 where
  got : A → ℕ → Read A
  refused : ℕ → ℕ → Read A

-- One reading after another. "Where the reading stops, no later question is asked."
unfoldable pub and_then : {A B : Type 0} → Read A → (A → ℕ → Read B) → Read B
and_then (got a next) f = f a next
and_then (refused question at) f = refused question at

-- Question 2: "is there a byte where one is due?" (The 0 of `get_or` is never met: the place is tested first.)
unfoldable pub byte_at : List ℕ → ℕ → Read ℕ
byte_at s at = cond (ltb at (length s)) (got (get_or s at 0) (at + 1)) (refused 2 at)

-- Question 4: "code, group, kind or count in its range?", which is 0 to bound - 1.
unfoldable pub below : ℕ → List ℕ → ℕ → Read ℕ
below bound s at = and_then (byte_at s at) (λ b next. cond (ltb b bound) (got b next) (refused 4 at))
