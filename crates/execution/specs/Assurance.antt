-- Demand 3 as a user of the services meets it: what `check`'s acceptance, and what `play` logs, assure (proofs/Assurance.antt shows
-- that their contracts do). What is promised of every list of moves is `Guaranteed` of the crate running (specs/Guarantees.antt):
-- each state of each run is typed, no component infers anything beyond the start, no next act is an error, and no finite count of
-- the charter is ever exceeded.
use Rattle.std.specs.Prelude.{ℕ, ◌*◌, List, ◌++◌, ◌≡◌, length, drop}
use Rattle.reading.specs.Read.{got}
use Rattle.service.specs.Questions.{passed, Accepted, judged}
use Rattle.running.specs.Products.{start}
use Rattle.running.specs.Moves.{Move, run_log}
use Rattle.running.specs.Script.{read_script}
use Rattle.running.specs.Guarantees.{Guaranteed}

-- A sheet and a charter for which demand 3 holds: they pass questions 1 to 18, and every list of moves, of any length, keeps its
-- promises.
pub record Assured (sheet charter : List ℕ) : Type 0 where
  pub accepted : Accepted
  pub passes : judged sheet charter ≡ passed accepted
  pub holds : (ms : List Move) → Guaranteed accepted ms

-- What `play` logs, where it answers accepted: the records of the script's moves, one after another, each on the state that the move
-- before it left, and after them the log as it was; and demand 3 for these moves and for every other list of moves.
pub record AssuredRun (sheet charter script log log' : List ℕ) (n : ℕ) : Type 0 where
  pub assured : Assured sheet charter
  pub moves : List Move
  pub end : ℕ
  pub reads : read_script script ≡ got moves end
  pub count : n ≡ length moves
  pub records : log' ≡ run_log (start assured.accepted.sheet) moves ++ drop (8 * n) log
