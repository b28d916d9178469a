-- The sentence for a sheet that question 18 refuses (document 02, Q-1): "For the first uncovered permission the list program writes as
-- one line below `refused 18`" the sentence; "40, the names file breaks these rules, asked after 18 fails and before any sentence".
use Rattle.std.specs.Prelude.{ℕ, List, [], cond, eqb}
use Rattle.std.proofs.Math.Option.{Option, some, none}
use Rattle.reading.specs.Read.{Read, got, refused}
use Rattle.reading.specs.Syntax.{Sheet}
use Rattle.reading.specs.System.{sheet_of}
use Rattle.inference.specs.Interface.{required_of}
use Rattle.policy.specs.Syntax.{Tree}
use Rattle.policy.specs.Reading.{read_policy}
use Rattle.fit.specs.Uncovered.{Uncovered, first_uncovered}
use Rattle.naming.specs.Names.{Names, read_names}
use Rattle.naming.specs.Sentence.{sentence}
use Rattle.service.specs.Questions.{Asked, passed, failed, Accepted, judged}
use Rattle.service.specs.Check.{Outcome, fitting, written}

-- The first uncovered permission of a sheet under a charter. (Where one of them does not read, question 18 is not asked.)
unfoldable pub uncovered_in : Read Sheet → Read (List Tree) → Option Uncovered
uncovered_in (got sheet next) (got policy end) = first_uncovered policy (required_of sheet) (required_of sheet).entries
uncovered_in (got sheet next) (refused question at) = none
uncovered_in (refused question at) charter = none

-- The sentence, where the names file reads and the line is long enough. (There is an uncovered permission wherever question 18 fails:
-- `refused_uncovered` in proofs/ExplainLaws.antt.)
unfoldable pub said : List ℕ → Read Names → Option Uncovered → Asked (List ℕ)
said line (refused question at) u = failed question
said line (got names end) (some u) = fitting line (sentence names u)
said line (got names end) none = passed []

-- Where questions 1 to 18 pass there is nothing to explain; where another than 18 fails, its number is all that is told.
unfoldable pub explanation : Asked Accepted → Asked (List ℕ) → Asked (List ℕ)
explanation (passed a) sentence = passed []
explanation (failed number) sentence = cond (eqb number 18) sentence (failed number)

-- The service.
unfoldable pub explained : List ℕ → List ℕ → List ℕ → List ℕ → Outcome
explained sheet charter names line =
    written line (explanation (judged sheet charter) (said line (read_names names) (uncovered_in (sheet_of sheet charter) (read_policy charter))))
