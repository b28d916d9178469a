-- A state of a run, as memory holds it.
use Rattle.std.specs.Prelude.{ℕ, ◌+◌, ◌<◌, ◌≤◌, ◌≡◌, List, Bool, false, get_or, take}
use Rattle.running.specs.State.{Thread, State}
use Rattle.decoding.specs.Tables.{process_in}
use Rattle.memory.specs.Threads.{unpacked}
use Rattle.memory.specs.Chains.{chain}
use Rattle.products.specs.declared.Sizes.{Sizes}
use Rattle.products.specs.Pairs.{Pairs}

-- The thread that a number stands for: its component, its run names, and the process that the table of forms holds at its place;
-- `top` cells are in use. Names that its process may still bind have room.
pub record Runs (forms cells : List ℕ) (top w : ℕ) (t : Thread) : Type 0 where
  pub env : (unpacked w).env < top
  pub component : t.component.number ≡ (unpacked w).component
  pub names : t.names ≡ chain cells (unpacked w).names (unpacked w).env
  pub process : t.process ≡ process_in (unpacked w).nest forms (unpacked w).at
  pub scope : (unpacked w).names + (unpacked w).nest ≤ 128
  pub deep : (unpacked w).nest ≤ 64

-- The state that memory holds after at most `turns` receives. No name that is yet to come is known to the environment.
pub record Holds (forms : List ℕ) (z : Sizes) (turns : ℕ) (thread_table type_table : List ℕ) (known_table : List Bool) (cells : List ℕ)
    (state : State) : Type 0 where
  pub few : z.threads ≤ 64
  pub given : z.names ≤ 1024
  pub slack : z.cells ≤ z.names + turns
  pub threads : Pairs (Runs forms cells z.cells) (take z.threads thread_table) state.threads
  pub types : take z.names type_table ≡ state.types
  pub known : take z.names known_table ≡ state.known
  pub quiet : (i : ℕ) → z.names ≤ i → get_or known_table i false ≡ false
