-- Questions 11 to 18 as the code asks them: of a charter and of what a sheet requires.
use Rattle.std.specs.Prelude.{ℕ, List, cond, ltb}
use Rattle.reading.specs.Read.{Read, got, refused}
use Rattle.inference.specs.Interface.{Required}
use Rattle.policy.specs.Syntax.{Tree}
use Rattle.policy.specs.Reading.{read_policy}
use Rattle.wellformed.specs.Faults.{policy_fault}
use Rattle.fit.specs.Faults.{entries_fault}

-- The number of a question that an entry fails, or 64, a number that no question has, where no entry fails any (19).
unfoldable pub or_passed : ℕ → ℕ
or_passed fault = cond (ltb fault 19) fault 64

-- The first of questions 12 to 18 that fails, or 64.
unfoldable pub policy_then_entries : List Tree → Required → ℕ
policy_then_entries policy required =
    cond (ltb (policy_fault policy) 16) (policy_fault policy) (or_passed (entries_fault policy required required.entries))

unfoldable pub after_policy : Read (List Tree) → Required → ℕ
after_policy (got policy next) required = policy_then_entries policy required
after_policy (refused question at) required = question

-- The first of questions 11 to 18 that fails, or 64.
unfoldable pub later_fault : List ℕ → Required → ℕ
later_fault c required = after_policy (read_policy c) required
