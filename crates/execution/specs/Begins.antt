-- A run before its first move: its start, its script, the tables lent to it, and the outcome from the questions left on.
use Rattle.std.specs.Prelude.{Result as Answer, ℕ, ◌+◌, ◌≤◌, min, ◌≡◌, List, [], ◌++◌, Bool, length, drop}
use Rattle.reading.specs.Read.{Read, got, refused}
use Rattle.reading.specs.Syntax.{Sheet}
use Rattle.reading.specs.System.{read_sheet}
use Rattle.service.specs.Questions.{Asked, passed, ask, after_reading}
use Rattle.service.specs.Check.{Outcome}
use Rattle.service.specs.Told.{told}
use Rattle.reading.specs.declared.Question.{Question}
use Rattle.running.specs.State.{State}
use Rattle.running.specs.Products.{start}
use Rattle.running.specs.Moves.{Move, has_room}
use Rattle.running.specs.Script.{read_script}
use Rattle.running.specs.Play.{Opened, logged, outcome_of}
use Rattle.products.specs.declared.Sizes.{Sizes}
use Rattle.products.specs.Held.{Holds}

-- A sheet that passes questions 1 to 6.
pub record Reads (s : List ℕ) : Type 0 where
  pub short : length s ≤ 4096
  pub tree : Sheet
  pub end : ℕ
  pub reads : read_sheet s ≡ got tree end

-- The start of what was read; no thread and no name where nothing was.
unfoldable pub begun : Read Sheet → State
begun (got sheet end) = start sheet
begun (refused question at) = record { threads = []; types = []; known = [] }

unfoldable pub start_of : List ℕ → State
start_of s = begun (read_sheet s)

-- The moves of a script; none where it does not read.
unfoldable pub listed : Read (List Move) → List Move
listed (got moves end) = moves
listed (refused question at) = []

unfoldable pub moves_of : List ℕ → List Move
moves_of script = listed (read_script script)

-- The log of a whole run, and what stood behind it.
unfoldable pub ran_over : List ℕ → List ℕ → List ℕ
ran_over run log = run ++ drop (length run) log

-- Question 21, then 22 and the run; and the same from question 20 on.
unfoldable pub scripted : State → List ℕ → Asked Opened
scripted begin script = after_reading (read_script script) (λ moves. passed (record { begin = begin; moves = moves }))

unfoldable pub played_script : State → List ℕ → List ℕ → Outcome
played_script begin script log = outcome_of log (logged log (scripted begin script))

unfoldable pub played_from : State → List ℕ → List ℕ → Outcome
played_from begin script log = outcome_of log (logged log (ask 20 (has_room begin) (scripted begin script)))

-- An answer and a lent log that are those of an outcome.
pub record Comes (outcome : Outcome) (log' : List ℕ) (r : Answer ℕ Question) : Type 0 where
  pub answer : told r ≡ outcome.answer
  pub lent : log' ≡ outcome.lent

-- Memory holds some state before the first move.
pub record Standing (forms : List ℕ) (z : Sizes) (threads types : List ℕ) (known : List Bool) (cells : List ℕ) : Type 0 where
  pub state : State
  pub holds : Holds forms z 1 threads types known cells state

-- There are cells for a run under a script: no script has more than 1,024 moves, and none more than bytes.
unfoldable pub Enough : List ℕ → ℕ → Type 0
Enough script cells = min 1024 (length script) + 1029 ≤ cells

-- The tables of a run have their lengths.
pub record Lent (threads made types : List ℕ) (known : List Bool) (cells : List ℕ) : Type 0 where
  pub thread_room : length threads ≡ 128
  pub made_room : length made ≡ 128
  pub type_room : length types ≡ 1024
  pub cell_room : length cells ≤ 2304
  pub known_room : length known ≡ 1024
