-- What a walk over a process makes of it, in memory.
use Rattle.std.specs.Prelude.{ℕ, ◌+◌, ◌<◌, ◌≤◌, min, ◌≡◌, List, ◌++◌, cond, length, take, set, ltb}
use Rattle.reading.specs.Syntax.{Process, nil, par, new, input, output, repl, System, nilₛ, parₛ, groupₛ, newₛ, compₛ, components}
use Rattle.inference.specs.Acts.{Component}
use Rattle.running.specs.State.{Thread}
use Rattle.running.specs.Products.{news, threads_of, system_news, system_threads}
use Rattle.memory.specs.Threads.{packed}
use Rattle.memory.specs.Chains.{bound, chain}
use Rattle.memory.specs.declared.Thread.{Thread as Place}
use Rattle.products.specs.declared.Sizes.{Sizes}
use Rattle.products.specs.declared.MadeSystem.{MadeSystem}
use Rattle.products.specs.Pairs.{Pairs}
use Rattle.products.specs.Held.{Runs}

-- How many threads a process makes at once, and a system.
unfoldable pub crowd : Process → ℕ
crowd nil = 0
crowd (par p q) = crowd p + crowd q
crowd (new t p) = crowd p
crowd (input x t p) = 1
crowd (output x y p) = 1
crowd (repl p) = 1

unfoldable pub system_crowd : System → ℕ
system_crowd nilₛ = 0
system_crowd (parₛ l r) = system_crowd l + system_crowd r
system_crowd (groupₛ g p) = system_crowd p
system_crowd (newₛ t p) = system_crowd p
system_crowd (compₛ own p) = crowd p

-- A name of a type is given: the sizes with it, and the tables. Where no name or cell is left, the names count as too many.
unfoldable pub sizes_given : Sizes → Sizes
sizes_given z =
    cond (ltb z.names 1024)
    (cond (ltb z.cells 2304)
    (record { threads = z.threads; names = z.names + 1; cells = z.cells + 1 })
    (record { threads = z.threads; names = 1025; cells = z.cells }))
    (record { threads = z.threads; names = 1025; cells = z.cells })

unfoldable pub types_given : Sizes → ℕ → List ℕ → List ℕ
types_given z t types = cond (ltb z.names 1024) (cond (ltb z.cells 2304) (set types z.names t) types) types

unfoldable pub cells_given : Sizes → ℕ → List ℕ → List ℕ
cells_given z env cells = cond (ltb z.names 1024) (cond (ltb z.cells 2304) (bound cells z.cells env z.names) cells) cells

-- A thread stands after those made so far.
unfoldable pub sizes_pushed : Sizes → Sizes
sizes_pushed z = cond (ltb z.threads 64)
    (record { threads = z.threads + 1; names = z.names; cells = z.cells })
    (record { threads = 65; names = z.names; cells = z.cells })

unfoldable pub threads_pushed : Sizes → Place → List ℕ → List ℕ
threads_pushed z t made = cond (ltb z.threads 64) (set made z.threads (packed t)) made

-- What one name given, and one thread made, leave.
pub record Gives (z : Sizes) (t env : ℕ) (types types' cells cells' : List ℕ) (r : Sizes) : Type 0 where
  pub sizes : r ≡ sizes_given z
  pub typed : types' ≡ types_given z t types
  pub bound_to : cells' ≡ cells_given z env cells

pub record Pushes (z : Sizes) (t : Place) (made made' : List ℕ) (r : Sizes) : Type 0 where
  pub sizes : r ≡ sizes_pushed z
  pub last : made' ≡ threads_pushed z t made

-- What a walk begins with: a place with a component, and tables that are long enough.
pub record Ready (t : Place) (z : Sizes) (made types cells : List ℕ) : Type 0 where
  pub component : t.component < 256
  pub scope : t.names + t.nest ≤ 128
  pub deep : t.nest ≤ 64
  pub place : t.at < 8192
  pub env : t.env < z.cells
  pub few : z.threads ≤ 65
  pub given : z.names ≤ 1025
  pub slack : z.cells + 1028 ≤ z.names + length cells
  pub made_room : 64 ≤ length made
  pub types_room : length types ≡ 1024
  pub cells_room : length cells ≤ 2304

-- What holds of the sizes and cells after any walk.
pub record Grows (z : Sizes) (more new : ℕ) (before after : List ℕ) (z' : Sizes) : Type 0 where
  pub threads : z'.threads ≡ min 65 (z.threads + more)
  pub names : z'.names ≡ min 1025 (z.names + new)
  pub cells : z.cells ≤ z'.cells
  pub slack : z'.cells + z.names ≤ z.cells + z'.names
  pub kept : take z.cells after ≡ take z.cells before

-- The products of a process at a place: threads after those made so far, new names after those given so far. They count only
-- where all fit.
pub record Makes (forms : List ℕ) (t : Place) (p : Process) (z : Sizes) (made made' types types' cells cells' : List ℕ)
    (r : Sizes) : Type 0 where
  pub grows : Grows z (crowd p) (length (news p)) cells cells' r
  pub before : take z.names types' ≡ take z.names types
  pub given : r.names ≤ 1024 → take r.names types' ≡ take z.names types ++ news p
  pub products : r.threads ≤ 64 → r.names ≤ 1024 → (c : Component) → c.number ≡ t.component → (ts : List Thread)
      → Pairs (Runs forms cells z.cells) (take z.threads made) ts
      → Pairs (Runs forms cells' r.cells) (take r.threads made')
      (ts ++ threads_of c (chain cells t.names t.env) z.names p)

-- The same of a system.
pub record MakesSystem (forms : List ℕ) (t : Place) (p : System) (z : Sizes) (made made' types types' cells cells' : List ℕ)
    (r : MadeSystem) : Type 0 where
  pub number : r.components ≡ t.component + components p
  pub grows : Grows z (system_crowd p) (length (system_news p)) cells cells' r.sizes
  pub given : r.sizes.names ≤ 1024 → take r.sizes.names types' ≡ take z.names types ++ system_news p
  pub products : r.sizes.threads ≤ 64 → r.sizes.names ≤ 1024 → (path : List ℕ) → (ts : List Thread)
      → Pairs (Runs forms cells z.cells) (take z.threads made) ts
      → Pairs (Runs forms cells' r.sizes.cells) (take r.sizes.threads made')
      (ts ++ system_threads t.component path (chain cells t.names t.env) z.names p)
