-- Worked cases of purposes (document 02, Q-6): the bytes of a policy, and the first of questions 11 to 15 but 12 that it fails; on the
-- definitions alone.
use Prim.Native.Nat.{ℕ}
use mathlib.Core.Bool.{Bool, true, false, cond}
use mathlib.Core.List.{List, [], ◌∷◌, map}
use mathlib.Core.Path.{◌≡◌, refl}
use lib.Dec.{eqb}
use Rattle.reading.specs.Forms.{member}
use Rattle.reading.specs.Read.{Read, got, refused, and_then, byte_at, below}
use Rattle.reading.specs.System.{to_its_end}
use Rattle.reading.specs.declared.Dialect.TheVariants.{Old as old}
use Rattle.inference.specs.Lists.{every, gather}
use Rattle.policy.specs.Syntax.{Permissions, Tree, alone, heads_of, heads, has_bit, bit_at}
use Rattle.policy.specs.Reading.{as_eleven, must, two_bytes, is_count, item_at, read_list, counted_list, read_purposes, maps_in, read_permissions_in, read_permissions, children, read_node_in, read_trees_in, read_policy_in, read_policy}
use Rattle.policy.specs.WellFormed.{same_list, same_permissions, agree, met_from, met_in, is_new, is_same, fault_of, node_fault, first_fault, nodes_fault, disclosed_to, groups_at, keeps_within, all_keep, fenced}

-- 16 where no question fails.
abbrev answer : Read (List Tree) → ℕ
answer (got trees next) = cond (eqb (nodes_fault trees) 0) (cond (fenced trees) 16 15) (nodes_fault trees)
answer (refused question at) = question

abbrev policies : List (List ℕ)
policies =
    -- purposes without a list, and after a list
    (1 ∷ 0 ∷ 0 ∷ 0x20 ∷ 1 ∷ 0 ∷ 0 ∷ []) ∷
    (1 ∷ 0 ∷ 0 ∷ 0x30 ∷ 1 ∷ 5 ∷ 1 ∷ 0 ∷ 2 ∷ 0 ∷ 0 ∷ []) ∷
    -- purposes for none
    (1 ∷ 0 ∷ 0 ∷ 0x20 ∷ 0 ∷ 0 ∷ 0 ∷ []) ∷
    -- cut short: no byte of them, one, and one after a list
    (1 ∷ 0 ∷ 0 ∷ 0x20 ∷ []) ∷
    (1 ∷ 0 ∷ 0 ∷ 0x20 ∷ 0 ∷ []) ∷
    (1 ∷ 0 ∷ 0 ∷ 0x30 ∷ 1 ∷ 5 ∷ 1 ∷ 0 ∷ 2 ∷ []) ∷
    -- two bytes more, which bit 5 does not announce
    (1 ∷ 0 ∷ 0 ∷ 0 ∷ 0 ∷ 0 ∷ 0 ∷ []) ∷
    -- bits 6 and 7
    (1 ∷ 0 ∷ 0 ∷ 0x40 ∷ 0 ∷ []) ∷
    (1 ∷ 0 ∷ 0 ∷ 0x80 ∷ 0 ∷ []) ∷
    -- group 1 at two nodes: purposes for all and none announced, other purposes, the same
    (1 ∷ 0 ∷ 0 ∷ 0 ∷ 2 ∷ 1 ∷ 0x20 ∷ 0xFF ∷ 0xFF ∷ 0 ∷ 1 ∷ 0 ∷ 0 ∷ []) ∷
    (1 ∷ 0 ∷ 0 ∷ 0 ∷ 2 ∷ 1 ∷ 0x20 ∷ 1 ∷ 0 ∷ 0 ∷ 1 ∷ 0x20 ∷ 0 ∷ 1 ∷ 0 ∷ []) ∷
    (1 ∷ 0 ∷ 0 ∷ 0 ∷ 2 ∷ 1 ∷ 0x20 ∷ 1 ∷ 0 ∷ 0 ∷ 1 ∷ 0x20 ∷ 1 ∷ 0 ∷ 0 ∷ []) ∷
    -- group 5 disclosed to below nondisclose, for no purpose and for one
    (1 ∷ 0 ∷ 0 ∷ 0x08 ∷ 1 ∷ 1 ∷ 0x30 ∷ 1 ∷ 5 ∷ 1 ∷ 0 ∷ 0 ∷ 0 ∷ 0 ∷ []) ∷
    (1 ∷ 0 ∷ 0 ∷ 0x08 ∷ 1 ∷ 1 ∷ 0x30 ∷ 1 ∷ 5 ∷ 1 ∷ 0 ∷ 1 ∷ 0 ∷ 0 ∷ []) ∷
    []

pub cases_hold : map (λ c. answer (read_policy c)) policies ≡ 16 ∷ 16 ∷ 16 ∷ 11 ∷ 11 ∷ 11 ∷ 11 ∷ 11 ∷ 11 ∷ 14 ∷ 14 ∷ 16 ∷ 15 ∷ 15 ∷ []
unfolding as_eleven must two_bytes is_count item_at read_list counted_list read_purposes maps_in read_permissions_in children read_node_in read_trees_in read_policy_in and_then byte_at below to_its_end alone heads_of heads has_bit member every gather same_list same_permissions agree met_from met_in is_new is_same fault_of node_fault first_fault nodes_fault disclosed_to groups_at keeps_within all_keep fenced
cases_hold = refl

-- Maps around the bounds of the two dialects: what is answered now, and what was just before Q-6.
abbrev bounds : List (List ℕ)
bounds =
    (1 ∷ 0 ∷ 0 ∷ 0 ∷ 0 ∷ []) ∷
    (1 ∷ 0 ∷ 0 ∷ 0x1F ∷ 1 ∷ 5 ∷ 1 ∷ 0 ∷ 0 ∷ []) ∷
    (1 ∷ 0 ∷ 0 ∷ 0x20 ∷ 0xFF ∷ 0xFF ∷ 0 ∷ []) ∷
    (1 ∷ 0 ∷ 0 ∷ 0x40 ∷ 0 ∷ []) ∷
    []

pub dialects_hold : map (λ c. answer (read_policy c) ∷ answer (read_policy_in old c) ∷ []) bounds
    ≡ (16 ∷ 16 ∷ []) ∷ (16 ∷ 16 ∷ []) ∷ (16 ∷ 11 ∷ []) ∷ (11 ∷ 11 ∷ []) ∷ []
unfolding as_eleven must two_bytes is_count item_at read_list counted_list read_purposes maps_in read_permissions_in children read_node_in read_trees_in read_policy_in and_then byte_at below to_its_end alone heads_of heads has_bit member every gather same_list same_permissions agree met_from met_in is_new is_same fault_of node_fault first_fault nodes_fault disclosed_to groups_at keeps_within all_keep fenced
dialects_hold = refl

-- Permissions that are read, and for which of purposes 0, 7, 8 and 15 they grant: the low byte stands first.
abbrev grants_for : Read Permissions → List Bool
grants_for (got p next) = bit_at 0 p.purposes ∷ bit_at 7 p.purposes ∷ bit_at 8 p.purposes ∷ bit_at 15 p.purposes ∷ []
grants_for (refused question at) = []

abbrev maps : List (List ℕ)
maps =
    (0x20 ∷ 0x01 ∷ 0x00 ∷ []) ∷
    (0x20 ∷ 0x80 ∷ 0x00 ∷ []) ∷
    (0x20 ∷ 0x00 ∷ 0x01 ∷ []) ∷
    (0x20 ∷ 0x00 ∷ 0x80 ∷ []) ∷
    -- none, and all where none are announced
    (0x20 ∷ 0x00 ∷ 0x00 ∷ []) ∷
    (0x00 ∷ []) ∷
    []

pub purposes_read : map (λ c. grants_for (read_permissions c 0)) maps
    ≡ (true ∷ false ∷ false ∷ false ∷ [])
    ∷ (false ∷ true ∷ false ∷ false ∷ [])
    ∷ (false ∷ false ∷ true ∷ false ∷ [])
    ∷ (false ∷ false ∷ false ∷ true ∷ [])
    ∷ (false ∷ false ∷ false ∷ false ∷ [])
    ∷ (true ∷ true ∷ true ∷ true ∷ [])
    ∷ []
unfolding two_bytes read_purposes maps_in read_permissions_in and_then byte_at below has_bit bit_at
purposes_read = refl
