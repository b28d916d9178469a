-- The service `check`: its answer, and the final content of the lent output.
use Rattle.std.specs.Prelude.{ℕ, List, ◌++◌, length, drop, leb}
use Rattle.inference.specs.Interface.{interface, interface_bytes}
use Rattle.service.specs.Questions.{Asked, passed, failed, ask, Accepted, judged}

-- What a call answers, and what stands in the lent memory afterwards.
pub record Outcome : Type 0 where
  pub answer : Asked ℕ
  pub lent : List ℕ

-- Question 19: "output long enough for the interface?"
unfoldable pub fitting : List ℕ → List ℕ → Asked (List ℕ)
fitting output written = ask 19 (leb (length written) (length output)) (passed written)

-- What is written: questions 1 to 19.
unfoldable pub interface_for : List ℕ → Asked Accepted → Asked (List ℕ)
interface_for output (failed number) = failed number
interface_for output (passed a) = fitting output (interface_bytes (interface a.sheet))

-- "A refused call leaves output or log untouched; an accepted one leaves the bytes past what it writes. Check answers the
-- length written."
unfoldable pub written : List ℕ → Asked (List ℕ) → Outcome
written output (failed number) = record { answer = failed number; lent = output }
written output (passed bytes) = record { answer = passed (length bytes); lent = bytes ++ drop (length bytes) output }

-- The service.
unfoldable pub checked : List ℕ → List ℕ → List ℕ → Outcome
checked sheet charter output = written output (interface_for output (judged sheet charter))
