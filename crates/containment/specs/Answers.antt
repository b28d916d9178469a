-- What a table of answers holds (document 02, Q-8).
use Rattle.std.specs.Prelude.{ℕ, ◌+◌, ◌*◌, ◌<◌, cond, List, ◌≡◌, length, get_or}
use Rattle.containment.specs.Bits.{bits_among}

-- "one for each pair of four-bit maps, entry 16 × a + b being 1 exactly if all bits of a stand in b"
pub record Answers (table : List ℕ) : Type 0 where
  pub count : length table ≡ 256
  pub rule : (a b : ℕ) → a < 16 → b < 16 → get_or table (16 * a + b) 0 ≡ cond (bits_among 4 a b) 1 0
