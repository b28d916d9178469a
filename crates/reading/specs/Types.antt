-- Types (document 01, "Types and sheets"): "A type is plain data of some kind or a channel G[T]: group G, carrying T."
-- A type is a number, and every number is exactly one type (`number_shape`, `shape_plain` and `shape_channel` of
-- proofs/TypeLaws.antt), so that types are compared as numbers.
use Rattle.std.specs.Prelude.{ℕ, zero, suc, ◌+◌, ◌-◌, ◌*◌, ◌/◌, ◌%◌, List, cond, ltb}
use Rattle.reading.specs.Read.{Read, got, and_then, below}
use Rattle.reading.specs.Dialects.{current, groups_in, kinds_in}
use Rattle.reading.specs.declared.Dialect.{Dialect}
use Rattle.reading.specs.declared.Shape.{Shape}
use Rattle.reading.specs.declared.Shape.TheVariants.{Plain, Channel}

-- The number of the channel type G[T].
unfoldable pub channel : ℕ → ℕ → ℕ
channel g t = 16 + (t * 64 + g)

-- The number of a type: plain data of kind t is t, 0 to 15; the channels follow.
unfoldable pub number_of : Shape → ℕ
number_of (Plain t) = t
number_of (Channel g t) = channel g t

-- Which type a number is.
unfoldable pub shape : ℕ → Shape
shape t = cond (ltb t 16) (Plain t) (Channel ((t - 16) % 64) ((t - 16) / 64))

-- "the groups with the outermost first, the kind"
unfoldable pub groups_then_kind_in : Dialect → ℕ → List ℕ → ℕ → Read ℕ
groups_then_kind_in d zero s at = below (kinds_in d) s at
groups_then_kind_in d (suc n) s at =
    and_then (below (groups_in d) s at) (λ g next. and_then (groups_then_kind_in d n s next) (λ t m. got (channel g t) m))

-- "Stored: the count of groups (0 to 4), the groups with the outermost first, the kind."
unfoldable pub type_at_in : Dialect → List ℕ → ℕ → Read ℕ
type_at_in d s at = and_then (below 5 s at) (λ n next. groups_then_kind_in d n s next)

-- The same in the current dialect.
abbrev pub type_at : List ℕ → ℕ → Read ℕ
type_at = type_at_in current
