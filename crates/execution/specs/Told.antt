-- What a call of `play` promises.
use Rattle.std.specs.Prelude.{Result as Answer, ℕ, ◌≡◌, List}
use Rattle.service.specs.Told.{told}
use Rattle.reading.specs.declared.Question.{Question}
use Rattle.running.specs.Play.{played}

-- Its answer and the final bytes of the lent log are those of the definition.
pub record Played (sheet charter script log log' : List ℕ) (r : Answer ℕ Question) : Type 0 where
  pub answer : told r ≡ (played sheet charter script log).answer
  pub lent : log' ≡ (played sheet charter script log).lent
