-- What the calls of the service promise.
use Rattle.std.specs.Prelude.{◌≡◌, List, ℕ, Result}
use Rattle.reading.specs.declared.Question.{Question}
use Rattle.std.proofs.Math.Option.{Option}
use Rattle.fit.specs.Uncovered.{Uncovered}
use Rattle.naming.specs.Names.{read_names}
use Rattle.service.specs.Check.{written}
use Rattle.service.specs.Told.{told}
use Rattle.slack.specs.Told.{Tells}
use Rattle.explaining.specs.Explain.{said, explained}
use Rattle.explaining.specs.declared.Examined.{Examined}

-- What `explain` promises: its answer and the final bytes of the lent line are those of the definition.
pub record Explained (sheet charter names line line' : List ℕ) (r : Result ℕ Question) : Type 0 where
  pub answer : told r ≡ (explained sheet charter names line).answer
  pub lent : line' ≡ (explained sheet charter names line).lent

-- What is said of an uncovered permission.
pub record Says (names : List ℕ) (u : Option Uncovered) (line line' : List ℕ) (r : Result ℕ Question) : Type 0 where
  pub answer : told r ≡ (written line (said line (read_names names) u)).answer
  pub lent : line' ≡ (written line (said line (read_names names) u)).lent

-- Both services at once.
pub record ExaminedAs (sheet charter names output output' line line' : List ℕ) (r : Examined) : Type 0 where
  pub tells : Tells sheet charter output output' r.told
  pub explains : Explained sheet charter names line line' r.explained
