-- The rows of the table of nodes that give to a path, and what they give together: the code's view of "reached" and of the
-- grant (`GrantLaws`, `GrantTrees` of proofs/ tie it to document 01's definitions).
use Rattle.std.specs.Prelude.{ℕ, suc, ◌+◌, ◌<◌, ◌≡◌, List, [], ◌∷◌, map, cond, take, get_or, ltb, eqb}
use Rattle.reading.specs.Forms.{member}
use Rattle.inference.specs.Counts.{Count, fin, ◌⊕◌}
use Rattle.policy.specs.Syntax.{Permissions, Head, bit_at}
use Rattle.fit.specs.Grants.{no_permissions, listed}
use Rattle.policy.specs.Rows.{node_at, permissions_of, Flat, flats}
use Rattle.fit.specs.declared.Givers.{Givers}

-- The nodes of a tree's rows that a path reaches: a node at a depth above `limit` stands below one that is not reached.
unfoldable pub reached_in : List ℕ → ℕ → List Flat → List Head
reached_in path limit [] = []
reached_in path limit (f ∷ later) =
    cond (ltb limit f.depth) (reached_in path limit later)
    (cond (member f.head.group path) (f.head ∷ reached_in path (f.depth + 1) later) (reached_in path f.depth later))

-- The row of the first reached node of a group, or 64; `row` is that of the first of the nodes.
unfoldable pub giver_in : List ℕ → ℕ → ℕ → ℕ → List Flat → ℕ
giver_in path g limit row [] = 64
giver_in path g limit row (f ∷ later) =
    cond (ltb limit f.depth) (giver_in path g limit (row + 1) later)
    (cond (member f.head.group path)
    (cond (eqb f.head.group g) row (giver_in path g (f.depth + 1) (row + 1) later))
    (giver_in path g f.depth (row + 1) later))

-- A table by group, as the scan of a tree keeps it (src/grants.rt): 65 for a group that is not in the path, 64 for one of which no node is
-- reached so far, else the row of its first reached node. This is the table before the scan.
abbrev pub Marked : List ℕ → List ℕ → Type 0
Marked path first = (g : ℕ) → g < 64 → get_or first g 64 ≡ cond (member g path) 64 65

-- The row that such a table tells of a group, or 64.
unfoldable pub row_in : List ℕ → ℕ → ℕ
row_in first g = cond (ltb (get_or first g 64) 64) (get_or first g 64) 64

-- The rows that give to a path in a tree, which is in n rows from `start` on.
abbrev pub givers_in : List ℕ → List ℕ → List ℕ → ℕ → ℕ → List ℕ
givers_in c nodes path start n = map (λ g. giver_in path g 0 start (flats c nodes start n)) path

-- the rows that give to a path, as the code holds them
abbrev pub given_rows : Givers → List ℕ
given_rows g = take g.len g.rows

-- What a giver gives: the permissions of its row, nothing at 64.
unfoldable pub given_at : List ℕ → List ℕ → ℕ → Permissions
given_at c nodes row = cond (ltb row 64) (permissions_of c (node_at nodes row).permissions) no_permissions

-- a row that grants for a purpose, else 64; and those of rows
unfoldable pub granting_row : ℕ → List ℕ → ℕ → ℕ
granting_row purpose nodes row = cond (ltb row 64) (cond (bit_at purpose (node_at nodes row).permissions.purposes) row 64) 64

abbrev pub granting_rows : ℕ → List ℕ → List ℕ → List ℕ
granting_rows purpose nodes rows = map (granting_row purpose nodes) rows

-- the counts for group h that rows give, joined
unfoldable pub joined_at : ℕ → List ℕ → List ℕ → List ℕ → Count
joined_at h c nodes [] = fin 0
joined_at h c nodes (row ∷ rest) = listed h (given_at c nodes row).list ⊕ joined_at h c nodes rest

-- which of a list of kinds is the first to be k; their number where none is
unfoldable pub index_of : ℕ → List ℕ → ℕ
index_of k [] = 0
index_of k (x ∷ xs) = cond (eqb x k) 0 (suc (index_of k xs))
