-- The slack of an accepted sheet (document 02, Q-5), "for each disclosed group, the granted sum beside the needed one", as bytes; and the
-- service that writes it.
use Rattle.std.specs.Prelude.{ℕ, ◌/◌, ◌%◌, List, [], ◌∷◌, ◌++◌, Bool, true, false, length}
use Rattle.inference.specs.Lists.{only, gather}
use Rattle.inference.specs.Counts.{Count, count_number}
use Rattle.inference.specs.Interface.{Entry, head_then, Required, required_of}
use Rattle.policy.specs.Syntax.{Tree}
use Rattle.fit.specs.Satisfies.{Verdict, flag, counts, covering}
use Rattle.service.specs.Questions.{Asked, passed, failed, Accepted, judged}
use Rattle.service.specs.Check.{Outcome, fitting, written}

-- two bytes, the low byte first; 65,535 is unlimited
unfoldable pub count_bytes : Count → List ℕ
count_bytes n = count_number n % 256 ∷ count_number n / 256 % 256 ∷ []

-- A group, what is needed, what is granted.
unfoldable pub verdict_bytes : Verdict → List ℕ
verdict_bytes (flag p granted) = []
verdict_bytes (counts h needed granted) = h ∷ (count_bytes needed ++ count_bytes granted)

unfoldable pub on_group : Verdict → Bool
on_group (flag p granted) = false
on_group (counts h needed granted) = true

-- how many groups, then each, only where there is one
unfoldable pub sums_bytes : List Verdict → List ℕ
sums_bytes [] = []
sums_bytes (v ∷ rest) = length (v ∷ rest) ∷ gather verdict_bytes (v ∷ rest)

-- An entry with its slack: as in the interface up to its map, and in place of the counts of its list the needed and the granted sums.
unfoldable pub slack_entry : List Tree → Required → Entry → List ℕ
slack_entry policy required e = head_then e (sums_bytes (only on_group (covering policy required e)))

unfoldable pub slack_bytes : List Tree → Required → List ℕ
slack_bytes policy required = gather (slack_entry policy required) required.entries

-- What is written: questions 1 to 18, and 19 of this output.
unfoldable pub slack_for : List ℕ → Asked Accepted → Asked (List ℕ)
slack_for output (failed number) = failed number
slack_for output (passed a) = fitting output (slack_bytes a.policy (required_of a.sheet))

-- The service.
unfoldable pub slack_told : List ℕ → List ℕ → List ℕ → Outcome
slack_told sheet charter output = written output (slack_for output (judged sheet charter))
