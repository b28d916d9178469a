-- What the policy's reader answers and what it leaves in the table of nodes.
use Rattle.std.specs.Prelude.{ℕ, zero, suc, ◌+◌, ◌-◌, ◌%◌, ◌<◌, ◌≤◌, ◌≡◌, List, [], ◌∷◌, ◌++◌, length, get_or, set, replicate, Result, Ok, Err}
use Rattle.reading.specs.Read.{Read, got, refused, and_then, byte_at, below}
use Rattle.reading.specs.System.{to_its_end}
use Rattle.reading.specs.Questions.{number_of}
use Rattle.reading.specs.Told.{number, told}
use Rattle.reading.specs.declared.Number.{Number}
use Rattle.reading.specs.declared.Refusal.{Refusal}
use Rattle.policy.specs.declared.PermissionsAt.{PermissionsAt}
use Rattle.policy.specs.declared.Permissions.{Permissions as Stored}
use Rattle.policy.specs.declared.Node.{Node as Row}
use Rattle.policy.specs.declared.Opening.{Opening}
use Rattle.policy.specs.declared.PolicyAt.{PolicyAt}
use Rattle.policy.specs.declared.Trees.{Trees}
use Rattle.policy.specs.Syntax.{Granted, Permissions, Node, Nodes, Head, alone, heads_of, Tree}
use Rattle.policy.specs.Reading.{as_eleven, children, read_permissions, read_node, read_trees}
use Rattle.policy.specs.Rows.{permissions_of, flat_of, flats, flatten}

-- permissions that were read, by where they stand
abbrev pub permissions_read : List ℕ → Result PermissionsAt Refusal → Read Permissions
permissions_read c = told (λ p. got (permissions_of c p.permissions) p.next)

-- What is stored of permissions fits its cells, and so does what is stored of a node.
pub record PermissionsFit (p : Stored) : Type 0 where
  pub small_map : p.map < 64
  pub small_list : p.list < 8192
  pub small_count : p.count < 128
  pub small_purposes : p.purposes < 65536

pub record NodeFits (n : Row) : Type 0 where
  pub small_group : n.group < 64
  pub small_permissions : PermissionsFit n.permissions
  pub small_depth : n.depth < 8

abbrev pub PermissionsReadFit : Result PermissionsAt Refusal → Type 0
PermissionsReadFit (Ok p) = PermissionsFit p.permissions
PermissionsReadFit (Err r) = Unit {0}

-- A node without its children, and how many follow.
pub record Opened : Type 0 where
  pub head : Head
  pub children : ℕ

unfoldable pub read_opening : List ℕ → ℕ → Read Opened
read_opening c at =
    and_then (below 64 c at) (λ g m.
    and_then (read_permissions c m) (λ p k.
    and_then (byte_at c k) (λ n e. got (record { head = record { group = g; permissions = p }; children = n }) e)))

abbrev pub opening_read : List ℕ → Result Opening Refusal → Read Opened
opening_read c = told (λ o. got (record { head = (flat_of c o.node).head; children = o.children }) o.next)

pub record OpeningFits (depth : ℕ) (o : Opening) : Type 0 where
  pub fits : NodeFits o.node
  pub at_depth : o.node.depth ≡ depth
  pub few : o.children < 256

abbrev pub OpeningReadFits : ℕ → Result Opening Refusal → Type 0
OpeningReadFits depth (Ok o) = OpeningFits depth o
OpeningReadFits depth (Err r) = Unit {0}

-- an item of which only the group is kept
unfoldable pub group_only : Read Granted → Read ℕ
group_only (got d next) = got d.group next
group_only (refused question at) = refused question at

-- a list of which only the length is kept
unfoldable pub count_only : Read (List Granted) → Read ℕ
count_only (got ds next) = got (length ds) next
count_only (refused question at) = refused question at

-- a node as nodes that stand side by side
unfoldable pub node_read : Read Node → Read Nodes
node_read (got n next) = got (alone n) next
node_read (refused question at) = refused question at

-- `count` nodes one after another, where `level` more may be nested
unfoldable pub children_read : ℕ → List ℕ → ℕ → ℕ → ℕ → Read Nodes
children_read level c count used at = children (λ u i. read_node level c u i) count used at

-- nodes of which only the number of rows then used is kept
unfoldable pub rows_only : ℕ → Read Nodes → Read ℕ
rows_only used (got ns next) = got (used + length (heads_of ns)) next
rows_only used (refused question at) = refused question at

-- Nodes that were read into the table from row `used` on, the first at a depth: where they read, the table's rows are those
-- before and then theirs.
pub record Loaded (c : List ℕ) (read : Read Nodes) (depth used : ℕ) (nodes nodes' : List ℕ) (r : Result Number Refusal) : Type 0 where
  pub answer : number r ≡ rows_only used read
  pub rows : (ns : Nodes) (next : ℕ) → read ≡ got ns next
      → flats c nodes' 0 (used + length (heads_of ns)) ≡ flats c nodes 0 used ++ flatten depth ns

-- No trees, and one tree more: its kind, and the row after its last node, each cut to a byte.
unfoldable pub no_trees : Trees
no_trees = record { len = 0; kinds = replicate 16 0; ends = replicate 16 0 }

unfoldable pub with_tree : Trees → ℕ → ℕ → Trees
with_tree trees kind end = record {
  len = trees.len + 1;
  kinds = set trees.kinds trees.len (kind % 256);
  ends = set trees.ends trees.len (end % 256);
}

-- `count` trees, to the end of the policy
unfoldable pub trees_to_end : ℕ → List ℕ → ℕ → Read (List Tree)
trees_to_end count c at = as_eleven (and_then (read_trees count c 0 at) (λ trees k. to_its_end c trees k))

-- The row where a tree begins.
unfoldable pub start_of : Trees → ℕ → ℕ
start_of trees zero = 0
start_of trees (suc t) = get_or trees.ends t 0

-- A tree's rows hold it.
pub record Holds (c nodes : List ℕ) (trees : Trees) (t : ℕ) (tree : Tree) : Type 0 where
  pub kind : get_or trees.kinds t 0 ≡ tree.kind
  pub low : start_of trees t ≤ get_or trees.ends t 0
  pub high : get_or trees.ends t 0 ≤ 64
  pub rows : flats c nodes (start_of trees t) (get_or trees.ends t 0 - start_of trees t) ≡ flatten 0 (alone tree.root)

-- The trees from the t-th on are those of a list.
pub data AllHeld (c nodes : List ℕ) (trees : Trees) : ℕ → List Tree → Type 0 where
  held_none : {t : ℕ} → t ≡ trees.len → AllHeld c nodes trees t []
  held_more : {t : ℕ} {tree : Tree} {rest : List Tree} → Holds c nodes trees t tree → AllHeld c nodes trees (suc t) rest
      → AllHeld c nodes trees t (tree ∷ rest)

-- The trees' rows are rows of the table.
pub record Bounded (trees : Trees) : Type 0 where
  pub few : trees.len ≤ 16
  pub rows : (t : ℕ) → get_or trees.ends t 0 ≤ 64

-- What the reading of a whole policy answers: the refusal of the definition, question and place; or its trees and the place after it, and
-- then the table holds its trees.
pub data LoadedPolicy (c : List ℕ) (read : Read (List Tree)) (nodes : List ℕ) (r : Result PolicyAt Refusal) : Type 0 where
  unread : {why : Refusal} → read ≡ refused (number_of why.question) why.at → r ≡ Err why → LoadedPolicy c read nodes r
  loaded : {policy : List Tree} {next : ℕ} {p : PolicyAt} → read ≡ got policy next → r ≡ Ok p → p.next ≡ next → Bounded p.trees
      → AllHeld c nodes p.trees 0 policy → LoadedPolicy c read nodes r
