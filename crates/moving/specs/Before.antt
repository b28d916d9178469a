-- The service `check` in any dialect: the same questions over sheets and charters as the dialect has them, and the interface with or
-- without purposes. In the current dialect it is `check` (`check_now` of proofs/SameLaws.antt); in the old one it is `check` "just before
-- Q-6" (document 02, Q-7), when a post stated no purpose, bit 5 of a map failed question 11, and an entry had no purpose.
use Rattle.std.specs.Prelude.{ℕ, List, ◌∷◌, ◌++◌, length}
use Rattle.reading.specs.System.{sheet_of_in}
use Rattle.reading.specs.declared.Dialect.{Dialect}
use Rattle.encoding.specs.Encoding.{purpose_bytes}
use Rattle.inference.specs.Interface.{Entry, interface, map_of, list_bytes}
use Rattle.inference.specs.Lists.{gather}
use Rattle.policy.specs.Reading.{read_policy_in}
use Rattle.service.specs.Questions.{Asked, passed, failed, Accepted, judged_from}
use Rattle.service.specs.Check.{Outcome, fitting, written}

-- Questions 1 to 18.
unfoldable pub judged_in : Dialect → List ℕ → List ℕ → Asked Accepted
judged_in d s c = judged_from (sheet_of_in d s c) (read_policy_in d c)

-- "An entry: kind, path length, path, then a permission map ..", a purpose before the map where posts state one.
unfoldable pub entry_bytes_in : Dialect → Entry → List ℕ
entry_bytes_in d e =
    e.kind ∷ length e.component.path ∷ (e.component.path
    ++ (purpose_bytes d e.component.purpose ++ (map_of e ∷ list_bytes e.disclose)))

unfoldable pub interface_bytes_in : Dialect → List Entry → List ℕ
interface_bytes_in d es = gather (entry_bytes_in d) es

-- Questions 1 to 19.
unfoldable pub interface_for_in : Dialect → List ℕ → Asked Accepted → Asked (List ℕ)
interface_for_in d output (failed number) = failed number
interface_for_in d output (passed a) = fitting output (interface_bytes_in d (interface a.sheet))

unfoldable pub checked_in : Dialect → List ℕ → List ℕ → List ℕ → Outcome
checked_in d s c output = written output (interface_for_in d output (judged_in d s c))
