-- The table of a policy's nodes (src/nodes.rt): rows of six cells, in reading order, each node with the number of nodes above
-- it. A cell is read within its range, so that no fact about the table has to be carried along. A tree's rows hold that tree
-- (`flatten`).
use Rattle.std.specs.Prelude.{ℕ, zero, suc, ◌+◌, ◌*◌, ◌%◌, List, [], ◌∷◌, ◌++◌, map, get_or, set}
use Rattle.inference.specs.Lists.{rising}
use Rattle.policy.specs.Syntax.{Granted, Permissions, Nodes, none, more, Head}
use Rattle.policy.specs.declared.Node.{Node}
use Rattle.policy.specs.declared.Permissions.{Permissions as Stored}

unfoldable pub node_at : List ℕ → ℕ → Node
node_at nodes row = record {
  group = get_or nodes (row * 6) 0 % 64;
  permissions = record {
    map = get_or nodes (row * 6 + 1) 0 % 64;
    list = get_or nodes (row * 6 + 2) 0 % 8192;
    count = get_or nodes (row * 6 + 3) 0 % 128;
    purposes = get_or nodes (row * 6 + 5) 0 % 65536;
  };
  depth = get_or nodes (row * 6 + 4) 0 % 8;
}

-- The table with a node in a row, each cell cut to two bytes.
unfoldable pub with_node : List ℕ → ℕ → Node → List ℕ
with_node nodes row n =
    set (set (set (set (set (set nodes (row * 6) (n.group % 65536)) (row * 6 + 1) (n.permissions.map % 65536))
    (row * 6 + 2) (n.permissions.list % 65536)) (row * 6 + 3) (n.permissions.count % 65536)) (row * 6 + 4) (n.depth % 65536))
    (row * 6 + 5) (n.permissions.purposes % 65536)

-- the two-byte number at a place
unfoldable pub word_in : List ℕ → ℕ → ℕ
word_in c at = get_or c at 0 + 256 * get_or c (at + 1) 0

-- the items of a disclose list that was read before
unfoldable pub items_at : ℕ → List ℕ → ℕ → List Granted
items_at zero c at = []
items_at (suc n) c at = record { group = get_or c at 0; count = word_in c (at + 1) } ∷ items_at n c (at + 3)

-- the permissions that a row points to
unfoldable pub permissions_of : List ℕ → Stored → Permissions
permissions_of c p = record { map = p.map; list = items_at p.count c p.list; purposes = p.purposes }

-- A node of the table: its head, and how many nodes stand above it.
pub record Flat : Type 0 where
  pub head : Head
  pub depth : ℕ

unfoldable pub flat_of : List ℕ → Node → Flat
flat_of c n = record { head = record { group = n.group; permissions = permissions_of c n.permissions }; depth = n.depth }

-- The nodes of `len` rows.
unfoldable pub flats : List ℕ → List ℕ → ℕ → ℕ → List Flat
flats c nodes start len = map (λ row. flat_of c (node_at nodes row)) (rising start len)

-- Nodes in reading order, the first at a depth.
unfoldable pub flatten : ℕ → Nodes → List Flat
flatten depth none = []
flatten depth (more g p below rest) =
    record { head = record { group = g; permissions = p }; depth = depth } ∷ (flatten (depth + 1) below ++ flatten depth rest)
