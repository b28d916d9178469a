-- Lines as they are composed (src/sentence.rt).
use Rattle.std.specs.Prelude.{ℕ, ◌≡◌, List}
use Rattle.interface.specs.Writes.{Stored}
use Rattle.naming.specs.declared.sentence.Line.{Line}

-- Bytes added to a line, in the memory that was lent to it.
pub record Put (before after : Line) (bytes : List ℕ) : Type 0 where
  pub same_memory : after.out.ghost_name ≡ before.out.ghost_name
  pub stored : Stored before.out.now after.out.now before.len bytes after.len
