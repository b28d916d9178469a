-- Which value of the definitions an answer of the code is, and of two questions that fail the sooner.
use Rattle.std.specs.Prelude.{ℕ, min, Option as Answer, Some, None}
use Rattle.std.proofs.Math.Option.{Option, some, none}

abbrev pub known : Answer ℕ → Option ℕ
known (Some t) = some t
known None = none

-- Of two questions that fail, if any does, the one with the lower number.
unfoldable pub sooner : Answer ℕ → Answer ℕ → Answer ℕ
sooner None other = other
sooner (Some one) None = Some one
sooner (Some one) (Some other) = Some (min one other)
