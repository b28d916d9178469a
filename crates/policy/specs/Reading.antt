-- Question 11: "does the charter read, in its ranges, to its end?" Every fault of the stored form is question 11. In any dialect
-- (`..In`), and in the current one; and which charters have no purpose maps.
use Rattle.std.specs.Prelude.{ℕ, zero, suc, ◌+◌, ◌*◌, List, [], ◌∷◌, Bool, true, false, cond, not, ◌&&◌, ◌||◌, length, ltb, leb, eqb}
use Rattle.inference.specs.Lists.{every}
use Rattle.reading.specs.Read.{Read, got, refused, and_then, byte_at, below}
use Rattle.reading.specs.System.{to_its_end}
use Rattle.reading.specs.declared.Dialect.{Dialect}
use Rattle.reading.specs.declared.Dialect.TheVariants.{Old as old, Current as current}
use Rattle.policy.specs.Syntax.{Granted, Permissions, Node, Nodes, none, more, Tree, Head, has_bit, heads}

unfoldable pub as_eleven : {A : Type 0} → Read A → Read A
as_eleven (got a next) = got a next
as_eleven (refused question at) = refused 11 at

-- what must hold of what was read at a place
unfoldable pub must : {A : Type 0} → Bool → ℕ → Read A → Read A
must true at r = r
must false at r = refused 11 at

-- "two-byte numbers have the low byte first"
unfoldable pub two_bytes : List ℕ → ℕ → Read ℕ
two_bytes s at = and_then (byte_at s at) (λ low m. and_then (byte_at s m) (λ high k. got (low + 256 * high) k))

-- "Finite counts are 1 to 4,095; 65,535 is unlimited."
unfoldable pub is_count : ℕ → Bool
is_count n = (leb 1 n && leb n 4095) || eqb n 65535

-- "group and two-byte count", the group not below `lowest`
unfoldable pub item_at : List ℕ → ℕ → ℕ → Read Granted
item_at s lowest at =
    and_then (below 64 s at) (λ g m. must (leb lowest g) at
    (and_then (two_bytes s m) (λ c k. must (is_count c) m (got (record { group = g; count = c }) k))))

-- "groups strictly rising"
unfoldable pub read_list : ℕ → List ℕ → ℕ → ℕ → Read (List Granted)
read_list zero s lowest at = got [] at
read_list (suc n) s lowest at =
    and_then (item_at s lowest at) (λ d m. and_then (read_list n s (d.group + 1) m) (λ rest k. got (d ∷ rest) k))

-- "a list: how many (1 to 64), then group and two-byte count"
unfoldable pub counted_list : List ℕ → ℕ → Read (List Granted)
counted_list s at = and_then (below 65 s at) (λ n m. must (ltb 0 n) at (read_list n s 0 m))

-- "bit 5 announces a two-byte map of purposes, bit p for purpose p, stored after the disclose list"; "without bit 5 it grants for all"
-- (document 02, Q-6): all sixteen bits stand.
unfoldable pub read_purposes : ℕ → List ℕ → ℕ → Read ℕ
read_purposes map s at = cond (has_bit 32 map) (two_bytes s at) (got 65535 at)

-- What a permission map must be below: "map bits 5 to 7 zero" (document 01); since bit 5 announces purposes (document 02, Q-6), only
-- bits 6 and 7.
unfoldable pub maps_in : Dialect → ℕ
maps_in old = 32
maps_in current = 64

-- "a permission map .., and only if bit 4 stands a list", and then the purposes.
unfoldable pub read_permissions_in : Dialect → List ℕ → ℕ → Read Permissions
read_permissions_in d s at =
    and_then (below (maps_in d) s at) (λ map m.
    and_then (cond (has_bit 16 map) (counted_list s m) (got [] m)) (λ list k.
    and_then (read_purposes map s k) (λ purposes e. got (record { map = map; list = list; purposes = purposes }) e)))

-- `count` children, one after another; `read used at` reads one, where `used` nodes stand before it.
unfoldable pub children : (ℕ → ℕ → Read Node) → ℕ → ℕ → ℕ → Read Nodes
children read zero used at = got none at
children read (suc n) used at =
    and_then (read used at) (λ first m.
    and_then (children read n (used + length (heads first)) m) (λ rest k.
    got (more first.group first.permissions first.below rest) k))

-- "A node: group, permission map with its list, count of children, children. At most 64 nodes in all, nodes nested at most
-- 8 deep": `depth` more may be nested, and `used` nodes stand before this one.
unfoldable pub read_node_in : Dialect → ℕ → List ℕ → ℕ → ℕ → Read Node
read_node_in d zero s used at = refused 11 at
read_node_in d (suc depth) s used at =
    must (ltb used 64) at
    (and_then (below 64 s at) (λ g m.
    and_then (read_permissions_in d s m) (λ p k.
    and_then (byte_at s k) (λ n e.
    and_then (children (λ u i. read_node_in d depth s u i) n (used + 1) e) (λ nodes end.
    got (record { group = g; permissions = p; below = nodes }) end)))))

-- `count` trees, one after another
unfoldable pub read_trees_in : Dialect → ℕ → List ℕ → ℕ → ℕ → Read (List Tree)
read_trees_in d zero s used at = got [] at
read_trees_in d (suc n) s used at =
    and_then (below 16 s at) (λ kind m.
    and_then (read_node_in d 8 s used m) (λ root k.
    and_then (read_trees_in d n s (used + length (heads root)) k) (λ rest e. got (record { kind = kind; root = root } ∷ rest) e)))

-- "A count of trees (0 to 16); each tree is a kind and a node", to its end.
unfoldable pub read_policy_in : Dialect → List ℕ → Read (List Tree)
read_policy_in d s =
    as_eleven (and_then (below 17 s 0) (λ n m. and_then (read_trees_in d n s 0 m) (λ trees k. to_its_end s trees k)))

-- The same in the current dialect.
abbrev pub read_permissions : List ℕ → ℕ → Read Permissions
read_permissions = read_permissions_in current

abbrev pub read_node : ℕ → List ℕ → ℕ → ℕ → Read Node
read_node = read_node_in current

abbrev pub read_trees : ℕ → List ℕ → ℕ → ℕ → Read (List Tree)
read_trees = read_trees_in current

abbrev pub read_policy : List ℕ → Read (List Tree)
read_policy = read_policy_in current

-- "charter without purpose maps" (document 02, Q-7): no node has bit 5.
unfoldable pub unmapped : Head → Bool
unmapped h = not (has_bit 32 h.permissions.map)

unfoldable pub without_maps : List Tree → Bool
without_maps trees = every (λ t. every unmapped (heads t.root)) trees
