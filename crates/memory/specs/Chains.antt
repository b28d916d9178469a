-- Chains of cells: the run names of the binders passed, by level. A cell holds the cell before it and a name.
use Rattle.std.specs.Prelude.{ℕ, zero, suc, ◌+◌, ◌*◌, ◌/◌, ◌%◌, List, [], ◌∷◌, ◌++◌, cond, get_or, set, ltb}

-- a cell with the cell before it and its name
unfoldable pub bound : List ℕ → ℕ → ℕ → ℕ → List ℕ
bound cells cell env name = set cells cell (env % 65536 * 65536 + name % 65536)

-- the cell before; never a later one
unfoldable pub parent_of : List ℕ → ℕ → ℕ
parent_of cells cell = cond (ltb (get_or cells cell 0 / 65536) cell) (get_or cells cell 0 / 65536) 0

unfoldable pub name_of : List ℕ → ℕ → ℕ
name_of cells cell = get_or cells cell 0 % 65536

-- the names of a chain of `count` cells that ends with a cell, by level
unfoldable pub chain : List ℕ → ℕ → ℕ → List ℕ
chain cells zero cell = []
chain cells (suc count) cell = chain cells count (parent_of cells cell) ++ (name_of cells cell ∷ [])
