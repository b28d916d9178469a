-- Dialects of the sheet format, the variants of the code's enum: one reader serves them all, and they differ in what stands here.
-- `old` is the dialect of document 01, whose posts state no purpose: "A group is 0 to 63, a data kind 0 to 15." `current` is that of
-- document 02 from Q-6 on: "A post is stored as 04, group, purpose (0 to 15), process".
use Rattle.std.specs.Prelude.{ℕ}
use Rattle.reading.specs.declared.Dialect.{Dialect}
pub use Rattle.reading.specs.declared.Dialect.TheVariants.{Old as old, Current as current}

unfoldable pub groups_in : Dialect → ℕ
groups_in old = 64
groups_in current = 64

unfoldable pub kinds_in : Dialect → ℕ
kinds_in old = 16
kinds_in current = 16

-- how many purposes there are; 0 where a post states none
unfoldable pub purposes_in : Dialect → ℕ
purposes_in old = 0
purposes_in current = 16
