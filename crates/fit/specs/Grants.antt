-- What a policy grants a component (document 01, "Charter"; document 02, Q-6).
use Rattle.std.specs.Prelude.{ℕ, List, [], ◌∷◌, ◌++◌, map, Bool, cond, eqb}
use Rattle.std.proofs.Math.Option.{Option, some, none as nothing}
use Rattle.reading.specs.Forms.{member}
use Rattle.inference.specs.Acts.{Component}
use Rattle.inference.specs.Lists.{any}
use Rattle.inference.specs.Counts.{Count, fin, unlimited, ◌⊕◌}
use Rattle.policy.specs.Syntax.{Granted, Permissions, Node, Nodes, none, more, Tree, Head, alone, has_bit, bit_at}

-- "A node is reached by a path if its group is in the path and it is the root or its parent is reached. The path's order is
-- not compared."
unfoldable pub reached_among : List ℕ → Nodes → List Head
reached_among path none = []
reached_among path (more g p below rest) =
    cond (member g path) (record { group = g; permissions = p } ∷ reached_among path below) [] ++ reached_among path rest

unfoldable pub reached : List ℕ → Node → List Head
reached path n = reached_among path (alone n)

-- The tree for a kind.
unfoldable pub tree_for : ℕ → List Tree → Option Node
tree_for kind [] = nothing
tree_for kind (t ∷ rest) = cond (eqb t.kind kind) (some t.root) (tree_for kind rest)

-- The nodes of a kind's tree that a path reaches; none where there is no tree.
unfoldable pub reached_in : List ℕ → Option Node → List Head
reached_in path nothing = []
reached_in path (some root) = reached path root

unfoldable pub reached_for : List Tree → ℕ → List ℕ → List Head
reached_for policy kind path = reached_in path (tree_for kind policy)

abbrev pub no_permissions : Permissions
no_permissions = record { map = 0; list = []; purposes = 0 }

-- "and the node then grants only for purposes whose bit stands; without bit 5 it grants for all" (Q-6): what permissions give for a
-- purpose, and a node with what it grants for one.
unfoldable pub only_for : ℕ → Permissions → Permissions
only_for purpose p = cond (bit_at purpose p.purposes) p no_permissions

unfoldable pub for_purpose : ℕ → Head → Head
for_purpose purpose h = record { group = h.group; permissions = only_for purpose h.permissions }

-- The nodes of a kind's tree that grant to a component: those that its path reaches ("Reaching .. ignore[s] purposes"), each with what it
-- grants for the component's purpose.
unfoldable pub granting_to : List Tree → ℕ → Component → List Head
granting_to policy kind c = map (for_purpose c.purpose) (reached_for policy kind c.path)

-- "each group taken once": what a group gives is what its first reached node gives (question 14: they all give the same); a
-- group at no reached node gives nothing.
unfoldable pub given_by : ℕ → List Head → Permissions
given_by g [] = no_permissions
given_by g (h ∷ rest) = cond (eqb h.group g) h.permissions (given_by g rest)

-- "The grant is the joined permissions of the path's groups": a flag is granted where one of them has it.
unfoldable pub flag_granted : ℕ → List Tree → ℕ → Component → Bool
flag_granted value policy kind c = any (λ g. has_bit value (given_by g (granting_to policy kind c)).map) c.path

-- the stored count as a count: 65,535 is unlimited
unfoldable pub stored_count : ℕ → Count
stored_count n = cond (eqb n 65535) unlimited (fin n)

-- "A group, list or tree absent from a charter grants the finite count 0."
unfoldable pub listed : ℕ → List Granted → Count
listed h [] = fin 0
listed h (d ∷ rest) = cond (eqb d.group h) (stored_count d.count) (listed h rest)

-- "the counts of a grant join likewise": the counts for group h of the groups in `from`, each from its reached node
unfoldable pub joined : ℕ → List Head → List ℕ → Count
joined h hs [] = fin 0
joined h hs (g ∷ from) = listed h (given_by g hs).list ⊕ joined h hs from

-- "The charter's count for a path, kind t and group G is G's count in that path's grant of t"; from Q-6 on "the charter's count for a post
-- belong[s] to path and purpose".
unfoldable pub count_granted : ℕ → List Tree → ℕ → Component → Count
count_granted h policy kind c = joined h (granting_to policy kind c) c.path
