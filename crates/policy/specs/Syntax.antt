-- Policies (document 01, "Charter"): a hierarchy of groups for each kind, each node with permissions.
use Rattle.std.specs.Prelude.{ℕ, zero, suc, ◌/◌, ◌%◌, List, [], ◌∷◌, ◌++◌, Bool, not, eqb}

-- A group that a node discloses to, with the stored count: 1 to 4,095, or 65,535 for unlimited.
pub record Granted : Type 0 where
  pub group : ℕ
  pub count : ℕ

-- "permission map with its list" (bit 0 read, 1 write, 2 access, 3 nondisclose, 4 disclose list); "bit 5 announces a two-byte map of
-- purposes, bit p for purpose p" (document 02, Q-6).
pub record Permissions : Type 0 where
  pub map : ℕ
  pub list : List Granted
  -- the purposes for which a node grants, bit p for purpose p; all sixteen, 65,535, where bit 5 does not stand
  pub purposes : ℕ

-- Nodes that stand side by side: the first, with the nodes below it, and the rest.
pub data Nodes : Type 0 where
  none : Nodes
  more : ℕ → Permissions → Nodes → Nodes → Nodes

-- "A node: group, permission map with its list, count of children, children."
pub record Node : Type 0 where
  pub group : ℕ
  pub permissions : Permissions
  pub below : Nodes

-- A node alone.
unfoldable pub alone : Node → Nodes
alone n = more n.group n.permissions n.below none

-- "each tree is a kind and a node"
pub record Tree : Type 0 where
  pub kind : ℕ
  pub root : Node

-- Bit 2 ^ k of a map; `value` is 2 ^ k.
unfoldable pub has_bit : ℕ → ℕ → Bool
has_bit value map = not (eqb (map / value % 2) 0)

-- Bit p of a map.
unfoldable pub bit_at : ℕ → ℕ → Bool
bit_at zero map = not (eqb (map % 2) 0)
bit_at (suc p) map = bit_at p (map / 2)

-- A node without its children.
pub record Head : Type 0 where
  pub group : ℕ
  pub permissions : Permissions

-- The heads of nodes and of all nodes below them, in reading order.
unfoldable pub heads_of : Nodes → List Head
heads_of none = []
heads_of (more g p below rest) = record { group = g; permissions = p } ∷ (heads_of below ++ heads_of rest)

unfoldable pub heads : Node → List Head
heads n = heads_of (alone n)
