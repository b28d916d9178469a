-- What the calls of the services promise.
use Rattle.std.specs.Prelude.{ℕ, ◌≤◌, ◌≡◌, List, length, Result}
use Rattle.reading.specs.declared.Dialect.{Dialect}
use Rattle.reading.specs.declared.Question.{Question}
use Rattle.encoding.specs.Copying.{system_start, copy_of}
use Rattle.service.specs.Check.{fitting, written}
use Rattle.service.specs.Told.{told}
use Rattle.moving.specs.Moving.{upgraded, downgraded}

-- What `upgrade` promises: its answer and the final bytes of the lent output are those of the definition.
pub record Upgraded (sheet output output' : List ℕ) (r : Result ℕ Question) : Type 0 where
  pub answer : told r ≡ (upgraded sheet output).answer
  pub lent : output' ≡ (upgraded sheet output).lent

-- What `downgrade` promises.
pub record Downgraded (sheet output output' : List ℕ) (r : Result ℕ Question) : Type 0 where
  pub answer : told r ≡ (downgraded sheet output).answer
  pub lent : output' ≡ (downgraded sheet output).lent

-- Bytes that can be copied from one dialect to another, where the copy has `len` bytes.
pub record Movable (from to : Dialect) (s : List ℕ) (len : ℕ) : Type 0 where
  pub long : len ≡ length (copy_of from to s)
  pub start : system_start s ≤ length s
  pub short : length s ≤ 4096

-- Bytes that are written where there is room for them (question 19).
pub record Moved (bytes output output' : List ℕ) (r : Result ℕ Question) : Type 0 where
  pub answer : told r ≡ (written output (fitting output bytes)).answer
  pub lent : output' ≡ (written output (fitting output bytes)).lent
