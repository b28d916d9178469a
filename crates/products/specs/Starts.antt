-- The start of a run, in memory.
use Rattle.std.specs.Prelude.{ℕ, ◌≤◌, min, ◌≡◌, List, Bool, false, length, get_or}
use Rattle.reading.specs.Syntax.{Sheet}
use Rattle.running.specs.Products.{start}
use Rattle.products.specs.declared.Sizes.{Sizes}
use Rattle.products.specs.Held.{Holds}

-- Tables before the run of a sheet: each of its bytes has a place in the table of forms, and no name is known to the environment.
pub record Blank (s forms threads types : List ℕ) (known : List Bool) (cells : List ℕ) : Type 0 where
  pub form_room : length s ≤ length forms
  pub thread_room : length threads ≡ 128
  pub type_room : length types ≡ 1024
  pub known_room : length known ≡ 1024
  pub cell_room : 1029 ≤ length cells
  pub cell_few : length cells ≤ 2304
  pub unknown : (i : ℕ) → get_or known i false ≡ false

-- What a start leaves: how many threads and names there are, and the state where all fit.
pub record Starts (forms : List ℕ) (sheet : Sheet) (threads types : List ℕ) (known : List Bool) (cells : List ℕ) (z : Sizes) : Type 0 where
  pub crowded : z.threads ≡ min 65 (length (start sheet).threads)
  pub named : z.names ≡ min 1025 (length (start sheet).types)
  pub holds : z.threads ≤ 64 → z.names ≤ 1024 → Holds forms z 1 threads types known cells (start sheet)
