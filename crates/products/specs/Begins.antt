-- How a run begins, step by step: the free names given one after another, the names known to the environment, and what the system makes.
use Rattle.std.specs.Prelude.{ℕ, zero, suc, ◌+◌, ◌≤◌, min, ◌≡◌, List, [], ◌∷◌, Bool, true, length, take}
use Rattle.reading.specs.Read.{Read, got, refused, below}
use Rattle.reading.specs.Syntax.{Sheet}
use Rattle.reading.specs.System.{free_types, header}
use Rattle.reading.specs.declared.Number.{Number}
use Rattle.inference.specs.Lists.{rising}
use Rattle.running.specs.Products.{start}
use Rattle.memory.specs.Chains.{chain}
use Rattle.products.specs.declared.Sizes.{Sizes}
use Rattle.products.specs.declared.Made.{Made}
use Rattle.products.specs.Pairs.{Pairs}
use Rattle.products.specs.Held.{Runs}

-- A number that was read; 0 where none was.
unfoldable pub or_zero : Read ℕ → Number
or_zero (got n next) = record { value = n; next = next }
or_zero (refused question at) = record { value = 0; next = 0 }

-- How many free names a sheet has, and the place of their types.
unfoldable pub free_count : List ℕ → Number
free_count s = or_zero (below 33 s 0)

-- The first names become known to the environment.
unfoldable pub first_known : ℕ → List Bool → List Bool
first_known zero known = known
first_known (suc n) [] = []
first_known (suc n) (k ∷ known) = true ∷ first_known n known

-- Tables of names and cells that are long enough.
pub record Room (types cells : List ℕ) : Type 0 where
  pub type_room : length types ≡ 1024
  pub cell_room : 1029 ≤ length cells
  pub cell_few : length cells ≤ 2304

-- Memory in which the first names are given, of types `ts`: the cell of each comes after that of the one before, the first is
-- cell 1, and there are no threads.
pub record Named (count : ℕ) (ts types cells : List ℕ) (z : Sizes) : Type 0 where
  pub room : Room types cells
  pub sizes : z ≡ record { threads = 0; names = count; cells = count + 1 }
  pub typed : take count types ≡ ts
  pub chained : chain cells count count ≡ rising 0 count

-- Names given whose types stand from a place on, where these can be read.
pub record GivenTypes (count : ℕ) (s : List ℕ) (at : ℕ) (types types' cells cells' : List ℕ) (r : Made) : Type 0 where
  pub given : Room types cells → count ≤ 64 → (ts : List ℕ) (next : ℕ) → free_types count s at ≡ got ts next
      → (r.next ≡ next) × Named count ts types' cells' r.sizes

-- The same of a sheet's free names.
pub record GivenFree (s types types' cells cells' : List ℕ) (r : Made) : Type 0 where
  pub given : Room types cells → (free : List ℕ) (at : ℕ) → header s ≡ got free at
      → (r.next ≡ at) × Named (length free) free types' cells' r.sizes

-- The threads and names of a sheet at its start: how many there are, and which, where all fit.
pub record MadeSheet (forms : List ℕ) (sheet : Sheet) (thread_table type_table cells : List ℕ) (z : Sizes) : Type 0 where
  pub crowded : z.threads ≡ min 65 (length (start sheet).threads)
  pub named : z.names ≡ min 1025 (length (start sheet).types)
  pub slack : z.cells ≤ z.names + 1
  pub types : z.names ≤ 1024 → take z.names type_table ≡ (start sheet).types
  pub threads : z.threads ≤ 64 → z.names ≤ 1024 → Pairs (Runs forms cells z.cells) (take z.threads thread_table) (start sheet).threads
