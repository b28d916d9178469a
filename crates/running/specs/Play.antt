-- The service `play`: questions 1 to 18, 20, 21 and 22 in order, its answer, and the final content of the lent log.
use Rattle.std.specs.Prelude.{ℕ, ◌*◌, List, ◌++◌, length, drop, leb}
use Rattle.reading.specs.Read.{Read}
use Rattle.service.specs.Questions.{Asked, passed, failed, ask, after_reading, Accepted, judged}
use Rattle.service.specs.Check.{Outcome}
use Rattle.running.specs.State.{State}
use Rattle.running.specs.Products.{start}
use Rattle.running.specs.Moves.{Move, has_room, run_log}
use Rattle.running.specs.Script.{read_script}

-- A run that may begin: its start and its moves.
pub record Opened : Type 0 where
  pub begin : State
  pub moves : List Move

-- 20: "start with at most 64 threads and 1,024 names?", then 21.
unfoldable pub opened_from : List ℕ → Asked Accepted → Asked Opened
opened_from script (failed number) = failed number
opened_from script (passed a) =
    ask 20 (has_room (start a.sheet))
    (after_reading (read_script script) (λ moves. passed (record { begin = start a.sheet; moves = moves })))

unfoldable pub opened : List ℕ → List ℕ → List ℕ → Asked Opened
opened sheet charter script = opened_from script (judged sheet charter)

-- 22: "log at least 8 bytes a move?" "an accepted one leaves the bytes past what it writes. .. play [answers] the number of moves."
unfoldable pub logged : List ℕ → Asked Opened → Asked Opened
logged log (failed number) = failed number
logged log (passed o) = ask 22 (leb (8 * length o.moves) (length log)) (passed o)

unfoldable pub outcome_of : List ℕ → Asked Opened → Outcome
outcome_of log (failed number) = record { answer = failed number; lent = log }
outcome_of log (passed o) = record {
  answer = passed (length o.moves);
  lent = run_log o.begin o.moves ++ drop (length (run_log o.begin o.moves)) log;
}

unfoldable pub played : List ℕ → List ℕ → List ℕ → List ℕ → Outcome
played sheet charter script log = outcome_of log (logged log (opened sheet charter script))
