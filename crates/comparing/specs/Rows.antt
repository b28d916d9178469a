-- Two policies compared row by row, as the code does it (proofs/ListLaws.antt and RowLaws.antt: of policies that were read it says what the
-- definition says).
use Rattle.std.specs.Prelude.{ℕ, List, [], ◌∷◌, Bool, true, false, cond, ◌&&◌, ltb, leb, eqb}
use Rattle.std.proofs.Math.Option.{Option, some, none as nothing}
use Rattle.inference.specs.Lists.{every}
use Rattle.policy.specs.Syntax.{Granted, Node, Tree, alone}
use Rattle.policy.specs.Rows.{Flat, flatten}
use Rattle.fit.specs.Grants.{tree_for}
use Rattle.comparing.specs.NoLooser.{maps_no_looser}

-- The items of a list from the first on whose group is not below one.
unfoldable pub from_group : ℕ → List Granted → List Granted
from_group g [] = []
from_group g (d ∷ rest) = cond (ltb d.group g) (from_group g rest) (d ∷ rest)

-- The stored count of a group at the first item, 0 where that is another group's or there is none.
unfoldable pub first_count : ℕ → List Granted → ℕ
first_count g [] = 0
first_count g (d ∷ rest) = cond (eqb d.group g) d.count 0

-- Two lists whose groups rise, in one pass. Stored counts compare as they are, 65,535, unlimited, being the greatest.
unfoldable pub lists_within : List Granted → List Granted → Bool
lists_within [] b = true
lists_within (d ∷ a) b = leb d.count (first_count d.group (from_group d.group b)) && lists_within a (from_group d.group b)

-- Two rows: the same depth, the same group, permissions that are no looser.
unfoldable pub row_within : Flat → Flat → Bool
row_within f g =
    (eqb f.depth g.depth && eqb f.head.group g.head.group)
    && (maps_no_looser f.head.permissions g.head.permissions && lists_within f.head.permissions.list g.head.permissions.list)

-- As many rows, one beside the other.
unfoldable pub rows_within : List Flat → List Flat → Bool
rows_within [] [] = true
rows_within [] (g ∷ later) = false
rows_within (f ∷ later) [] = false
rows_within (f ∷ fs) (g ∷ gs) = row_within f g && rows_within fs gs

unfoldable pub root_within : Node → Option Node → Bool
root_within root nothing = false
root_within root (some other) = rows_within (flatten 0 (alone root)) (flatten 0 (alone other))

unfoldable pub trees_within : List Tree → List Tree → Bool
trees_within a b = every (λ t. root_within t.root (tree_for t.kind b)) a
