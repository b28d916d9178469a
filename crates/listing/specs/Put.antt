-- The text of a line as it is composed (src/lib.rt).
use Rattle.std.specs.Prelude.{ℕ, ◌≡◌, List}
use Rattle.interface.specs.Writes.{Stored}
use Rattle.listing.specs.declared.Text.{Text}

-- Bytes added to a text, in the memory that was lent to it.
pub record Put (before after : Text) (bytes : List ℕ) : Type 0 where
  pub same_memory : after.out.ghost_name ≡ before.out.ghost_name
  pub stored : Stored before.out.now after.out.now before.len bytes after.len
