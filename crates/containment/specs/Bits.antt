-- Which bits of a map stand in another (document 02, Q-8).
use Rattle.std.specs.Prelude.{ℕ, Bool, not, ◌||◌}
use Rattle.inference.specs.Lists.{every, rising}
use Rattle.policy.specs.Syntax.{bit_at}

-- Where the first stands, the second stands too.
unfoldable pub implies : Bool → Bool → Bool
implies a b = not a || b

-- "all bits of a stand in b", of the lowest n bits.
unfoldable pub bits_among : ℕ → ℕ → ℕ → Bool
bits_among n a b = every (λ k. implies (bit_at k a) (bit_at k b)) (rising 0 n)
