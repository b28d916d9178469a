-- Questions 12 to 15, each put to the whole policy; and 13 and 14 put to its nodes, one after another (document 02, Q-2), which the
-- same policies pass (`nodes_pass`, crates/wellformed/proofs/OrderLaws.antt).
use Rattle.std.specs.Prelude.{ℕ, List, [], ◌∷◌, ◌++◌, map, Bool, true, false, cond, not, ◌&&◌, ◌||◌, eqb}
use Rattle.reading.specs.Forms.{member}
use Rattle.inference.specs.Lists.{every, gather}
use Rattle.policy.specs.Syntax.{Granted, Permissions, Nodes, none, more, Tree, Head, has_bit, alone, heads, heads_of}

unfoldable pub distinct : List ℕ → Bool
distinct [] = true
distinct (x ∷ xs) = not (member x xs) && distinct xs

-- 12: "kinds distinct?"
unfoldable pub kinds_distinct : List Tree → Bool
kinds_distinct trees = distinct (map (λ t. t.kind) trees)

-- 13: "no node's group at a node above it?"; `above` holds the groups of the nodes above.
unfoldable pub new_below : List ℕ → Nodes → Bool
new_below above none = true
new_below above (more g p below rest) = not (member g above) && (new_below (g ∷ above) below && new_below above rest)

unfoldable pub none_above : List Tree → Bool
none_above trees = every (λ t. new_below [] (alone t.root)) trees

unfoldable pub same_list : List Granted → List Granted → Bool
same_list [] [] = true
same_list [] (d ∷ ds) = false
same_list (c ∷ cs) [] = false
same_list (c ∷ cs) (d ∷ ds) = (eqb c.group d.group && eqb c.count d.count) && same_list cs ds

unfoldable pub same_permissions : Permissions → Permissions → Bool
same_permissions p q = eqb p.map q.map && (same_list p.list q.list && eqb p.purposes q.purposes)

-- Two nodes of one group have the same map, list and purposes.
unfoldable pub agree : Head → Head → Bool
agree a b = not (eqb a.group b.group) || same_permissions a.permissions b.permissions

unfoldable pub all_agree : List Head → Bool
all_agree [] = true
all_agree (a ∷ later) = every (agree a) later && all_agree later

-- 14: "no node whose group stands at an earlier node of its tree with another map or list?"; it "compares the purpose maps too"
-- (document 02, Q-6).
unfoldable pub same_heads : List Tree → Bool
same_heads trees = every (λ t. all_agree (heads t.root)) trees

-- A node as it is met: the groups of the nodes above it, from the root down, and the nodes of its tree before it.
pub record Met : Type 0 where
  pub head : Head
  pub above : List ℕ
  pub earlier : List Head

-- "Nodes are now taken in reading order" (preorder): nodes below the groups `above`, after the nodes `earlier`.
unfoldable pub met_from : List ℕ → List Head → Nodes → List Met
met_from above earlier none = []
met_from above earlier (more g p below rest) =
    record { head = record { group = g; permissions = p }; above = above; earlier = earlier }
    ∷ (met_from (above ++ (g ∷ [])) (earlier ++ (record { group = g; permissions = p } ∷ [])) below
    ++ met_from above (earlier ++ (record { group = g; permissions = p } ∷ heads_of below)) rest)

-- "tree after tree"
unfoldable pub met_in : List Tree → List Met
met_in trees = gather (λ t. met_from [] [] (alone t.root)) trees

-- 13 at one node: "no node's group at a node above it?"
unfoldable pub is_new : Met → Bool
is_new m = not (member m.head.group m.above)

-- 14 at one node: "no node whose group stands at an earlier node of its tree with another map or list?", or other purposes.
unfoldable pub is_same : Met → Bool
is_same m = every (λ e. agree e m.head) m.earlier

-- "at one node 14 goes before 13": the question that a node fails, or 0, by what 14 and 13 say of it.
unfoldable pub fault_of : Bool → Bool → ℕ
fault_of same new = cond same (cond new 0 13) 14

unfoldable pub node_fault : Met → ℕ
node_fault m = fault_of (is_same m) (is_new m)

-- The first number other than 0, or 0.
unfoldable pub first_fault : List ℕ → ℕ
first_fault [] = 0
first_fault (n ∷ later) = cond (eqb n 0) (first_fault later) n

-- "The first node that fails either question decides": 13 or 14, or 0 where no node fails.
unfoldable pub nodes_fault : List Tree → ℕ
nodes_fault trees = first_fault (map node_fault (met_in trees))

-- the groups that nodes disclose to
unfoldable pub disclosed_to : List Head → List ℕ
disclosed_to hs = gather (λ h. map (λ d. d.group) h.permissions.list) hs

unfoldable pub groups_at : List Head → List ℕ
groups_at hs = map (λ h. h.group) hs

-- 15: "where a node has nondisclose, is every group disclosed to by nodes below it (the node itself not asked) a group of it or
-- of a node below it?" It ignores purposes (Q-6).
unfoldable pub keeps_within : ℕ → Permissions → Nodes → Bool
keeps_within g p below =
    not (has_bit 8 p.map) || every (λ h. member h (g ∷ groups_at (heads_of below))) (disclosed_to (heads_of below))

unfoldable pub all_keep : Nodes → Bool
all_keep none = true
all_keep (more g p below rest) = keeps_within g p below && (all_keep below && all_keep rest)

unfoldable pub fenced : List Tree → Bool
fenced trees = every (λ t. all_keep (alone t.root)) trees
