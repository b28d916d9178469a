-- Worked cases of questions 13 and 14 put to the nodes one after another (document 02, Q-2), on the definitions alone.
use Prim.Native.Nat.{ℕ}
use mathlib.Core.List.{List, [], ◌∷◌, map}
use mathlib.Core.Path.{◌≡◌, refl}
use Rattle.reading.specs.Forms.{member}
use Rattle.inference.specs.Lists.{every, gather}
use Rattle.policy.specs.Syntax.{Permissions, Nodes, none, more, Tree, heads_of, alone}
use Rattle.policy.specs.WellFormed.{same_list, same_permissions, agree, met_from, met_in, is_new, is_same, fault_of, node_fault, first_fault, nodes_fault}

-- A map without a list; a list of one group with a count.
abbrev flags : ℕ → Permissions
flags m = record { map = m; list = []; purposes = 65535 }

abbrev discloses : ℕ → Permissions
discloses n = record { map = 16; list = record { group = 5; count = n } ∷ []; purposes = 65535 }

-- A tree with group 0 at its root.
abbrev tree : ℕ → Permissions → Nodes → Tree
tree kind p below = record { kind = kind; root = record { group = 0; permissions = p; below = below } }

-- Nodes that fail: 13, group 2 below itself; 14, group 1 with two maps.
abbrev thirteen : Nodes → Nodes
thirteen rest = more 2 (flags 0) (more 2 (flags 0) none none) rest

abbrev fourteen : Nodes → Nodes
fourteen rest = more 1 (flags 0) none (more 1 (flags 4) none rest)

abbrev cases : List (List Tree)
cases =
    -- both at one node: the root's group below it, with another map, with another count, below another group
    (tree 0 (flags 0) (more 0 (flags 1) none none) ∷ []) ∷
    (tree 0 (discloses 1) (more 0 (discloses 2) none none) ∷ []) ∷
    (tree 0 (flags 0) (more 1 (flags 0) (more 0 (flags 4) none none) none) ∷ []) ∷
    -- 13 alone: the same map, the same list
    (tree 0 (flags 0) (more 0 (flags 0) none none) ∷ []) ∷
    (tree 0 (discloses 1) (more 0 (discloses 1) none none) ∷ []) ∷
    -- in one tree, in either order
    (tree 0 (flags 0) (thirteen (fourteen none)) ∷ []) ∷
    (tree 0 (flags 0) (fourteen (thirteen none)) ∷ []) ∷
    -- in two trees, in either order
    (tree 0 (flags 0) (thirteen none) ∷ tree 1 (flags 0) (fourteen none) ∷ []) ∷
    (tree 0 (flags 0) (fourteen none) ∷ tree 1 (flags 0) (thirteen none) ∷ []) ∷
    -- of two nodes the lower fails 13, here after a 14, and the later fails 14, here after a 13
    (tree 0 (flags 0) (fourteen (more 3 (flags 0) (more 0 (flags 0) none none) none)) ∷ []) ∷
    (tree 0 (flags 0) (more 1 (flags 0) none (thirteen (more 1 (flags 4) none none))) ∷ []) ∷
    -- no fault: a group in two branches, and in two trees with two maps
    (tree 0 (flags 1) (more 1 (flags 4) none (more 2 (flags 0) (more 1 (flags 4) none none) none)) ∷ tree 1 (flags 2) (more 1 (flags 1) none none) ∷ []) ∷
    []

pub cases_hold : map nodes_fault cases ≡ 14 ∷ 14 ∷ 14 ∷ 13 ∷ 13 ∷ 13 ∷ 14 ∷ 13 ∷ 14 ∷ 14 ∷ 13 ∷ 0 ∷ []
unfolding nodes_fault first_fault node_fault fault_of is_new is_same met_in met_from agree same_permissions same_list member every gather heads_of alone
cases_hold = refl
