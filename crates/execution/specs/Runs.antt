-- A run between two moves.
use Rattle.std.specs.Prelude.{ℕ, ◌+◌, ◌-◌, ◌*◌, ◌≤◌, ◌≡◌, List, ◌++◌, Bool, length, take, drop}
use Rattle.reading.specs.Read.{got}
use Rattle.running.specs.State.{State}
use Rattle.running.specs.Moves.{Move, run_log}
use Rattle.running.specs.Script.{moves_from}
use Rattle.products.specs.Held.{Holds}
use Rattle.execution.specs.declared.Point.{Point}

-- Memory holds a state, and the script's moves from a place on are left: what is logged, with what a run of these logs from that
-- state on, is the log `run` of the whole. There are `count` moves in all.
pub record Going (forms script run : List ℕ) (count : ℕ) (p : Point) (log threads types : List ℕ) (known : List Bool)
    (cells : List ℕ) : Type 0 where
  pub state : State
  pub rest : List Move
  pub end : ℕ
  pub holds : Holds forms p.sizes (p.done + 1) threads types known cells state
  pub reads : moves_from (1024 - p.done) script p.at ≡ got rest end
  pub whole : take (p.done * 8) log ++ run_log state rest ≡ run
  pub all : p.done + length rest ≡ count
  pub room : count * 8 ≤ length log

-- Some run goes on so.
pub record Ongoing (forms script : List ℕ) (count : ℕ) (p : Point) (log threads types : List ℕ) (known : List Bool) (cells : List ℕ) : Type 0 where
  pub run : List ℕ
  pub going : Going forms script run count p log threads types known cells

-- One move more is made, and nothing is written past the records of all.
pub record Turned (forms script run : List ℕ) (count : ℕ) (p : Point) (log log' threads types : List ℕ) (known : List Bool)
    (cells : List ℕ) (r : Point) : Type 0 where
  pub going : Going forms script run count r log' threads types known cells
  pub done : r.done ≡ p.done + 1
  pub kept : drop (count * 8) log' ≡ drop (count * 8) log
