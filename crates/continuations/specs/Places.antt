-- Products in their thread's place, where there is room.
use Rattle.std.specs.Prelude.{Option, Some, None, is_some, ℕ, ◌+◌, ◌-◌, ◌<◌, ◌≤◌, ◌≡◌, List, ◌++◌, Bool, false, cond, ◌&&◌, leb, ltb, length, take, replicate}
use Rattle.reading.specs.Syntax.{Process}
use Rattle.decoding.specs.Tables.{process_in}
use Rattle.inference.specs.Acts.{Component}
use Rattle.running.specs.State.{Thread, State}
use Rattle.running.specs.Products.{news, threads_of}
use Rattle.running.specs.Moves.{has_room}
use Rattle.memory.specs.Threads.{replaced}
use Rattle.memory.specs.Chains.{chain}
use Rattle.memory.specs.declared.Thread.{Thread as Place}
use Rattle.products.specs.declared.Sizes.{Sizes}
use Rattle.products.specs.Held.{Holds}

-- The tables lent to a move have their lengths, and its threads are few.
pub record Tables (z : Sizes) (threads made types cells : List ℕ) : Type 0 where
  pub few : z.threads ≤ 64
  pub thread_room : length threads ≡ 128
  pub made_room : length made ≡ 128
  pub type_room : length types ≡ 1024
  pub cell_room : length cells ≤ 2304

-- A process to be taken apart: its component, names, nesting and place in their ranges, its run names among the cells in use.
pub record Ranged (t : Place) (top : ℕ) : Type 0 where
  pub component : t.component < 256
  pub scope : t.names + t.nest ≤ 128
  pub deep : t.nest ≤ 64
  pub place : t.at < 8192
  pub env : t.env < top

-- The process at a place.
unfoldable pub remaining_at : List ℕ → Place → Process
remaining_at forms t = process_in t.nest forms t.at

-- A process under one name more, in a cell; and the sizes with one cell more.
unfoldable pub under_cell : Place → ℕ → Place
under_cell t cell = cond (ltb t.names 128) (record { component = t.component; env = cell; names = t.names + 1; nest = t.nest; at = t.at }) t

unfoldable pub with_cell : Sizes → Sizes
with_cell z = cond (ltb z.cells 2304) (record { threads = z.threads; names = z.names; cells = z.cells + 1 }) z

-- A state with other threads and with new names that are not known to the environment.
unfoldable pub changed : State → List Thread → List ℕ → State
changed state threads types = record {
  threads = threads;
  types = state.types ++ types;
  known = state.known ++ replicate (length types) false;
}

-- 35: "room for 64 threads and 1,024 names afterwards?", where `kept` threads stay beside those made.
unfoldable pub room_for : ℕ → Sizes → Bool
room_for kept z = leb (kept + z.threads) 64 && leb z.names 1024

-- What was made, put in place of the threads from `at` up to `from`: the sizes afterwards, where there is room.
pub record Puts (z : Sizes) (at from : ℕ) (after : Sizes) (made threads threads' : List ℕ) (r : Option Sizes) : Type 0 where
  pub fits : is_some r ≡ room_for (at + (z.threads - from)) after
  pub sizes : (s : Sizes) → r ≡ Some s
      → s ≡ record { threads = at + (z.threads - from) + after.threads; names = after.names; cells = after.cells }
  pub placed : (s : Sizes) → r ≡ Some s → take (at + (z.threads - from) + after.threads) threads'
      ≡ replaced (take z.threads threads) at from (take after.threads made)
  pub kept : r ≡ None → threads' ≡ threads

-- What the tables held before, with no more cells in use than now, they hold afterwards.
abbrev pub Keeps : List ℕ → Sizes → List ℕ → List ℕ → List ℕ → List ℕ → List Bool → List ℕ → List ℕ → State → Type 0
Keeps forms z threads threads' types types' known cells cells' state =
    (turns top : ℕ) → top ≤ z.cells
    → Holds forms (record { threads = z.threads; names = z.names; cells = top }) turns threads types known cells state
    → Holds forms (record { threads = z.threads; names = z.names; cells = top }) turns threads' types' known cells' state

-- The state with a process's products in place of the threads from `at` up to `from`; `cells` are those before.
unfoldable pub put : List ℕ → Place → ℕ → ℕ → List ℕ → State → Component → State
put forms process at from cells state c =
    changed state (replaced state.threads at from
    (threads_of c (chain cells process.names process.env) (length state.types) (remaining_at forms process))) (news (remaining_at forms process))

pub record Replaces (forms : List ℕ) (process : Place) (at from : ℕ) (z : Sizes) (turns : ℕ) (threads threads' types types' : List ℕ)
    (known : List Bool) (cells cells' : List ℕ) (state : State) (c : Component) (r : Option Sizes) : Type 0 where
  pub fits : is_some r ≡ has_room (put forms process at from cells state c)
  pub taken : (s : Sizes) → r ≡ Some s → Holds forms s turns threads' types' known cells' (put forms process at from cells state c)
  pub kept : r ≡ None → Keeps forms z threads threads' types types' known cells cells' state

-- The same for every state that memory holds before, with cells for its turns, whichever names are known.
abbrev pub Replacing : List ℕ → Place → ℕ → ℕ → Sizes → List ℕ → List ℕ → List ℕ → List ℕ → List ℕ → List ℕ → Option Sizes → Type 0
Replacing forms process at from z threads types cells threads' types' cells' r =
    (state : State) (c : Component) (turns : ℕ) (known : List Bool) → turns + 1028 ≤ length cells → length known ≡ 1024 → c.number ≡ process.component
    → Ranged process z.cells → Holds forms z turns threads types known cells state
    → Replaces forms process at from z turns threads threads' types types' known cells cells' state c r
