-- Is a policy no looser than another (document 02, Q-8, "Is this charter stricter?")? A is the one that is to take the place of B.
use Rattle.std.specs.Prelude.{ℕ, List, Bool, true, false, ◌&&◌, leb, eqb, length}
use Rattle.std.proofs.Math.Option.{Option, some, none as nothing}
use Rattle.inference.specs.Lists.{every}
use Rattle.inference.specs.Counts.{at_most}
use Rattle.policy.specs.Syntax.{Granted, Permissions, Node, Nodes, none, more, Tree, alone, has_bit}
use Rattle.policy.specs.Reading.{read_policy}
use Rattle.containment.specs.Bits.{implies, bits_among}
use Rattle.fit.specs.Grants.{tree_for, listed}
use Rattle.service.specs.Questions.{Asked, passed, failed, ask, after_reading, well_formed}

-- "A's flags read, write, access are among B's", bits 0 to 2; "A's purposes are among B's", all sixteen where there is no map of them; "and
-- nondisclose in B stands in A too", bit 3.
unfoldable pub maps_no_looser : Permissions → Permissions → Bool
maps_no_looser p q =
    bits_among 3 p.map q.map && (bits_among 16 p.purposes q.purposes && implies (has_bit 8 q.map) (has_bit 8 p.map))

-- "each count of A is at most B's (an absent group counting 0, unlimited standing above every finite count)": asked of the groups that A
-- lists, since every other one counts 0 in A.
unfoldable pub counts_no_looser : List Granted → List Granted → Bool
counts_no_looser a b = every (λ d. at_most (listed d.group a) (listed d.group b)) a

-- "at each node"
unfoldable pub permissions_no_looser : Permissions → Permissions → Bool
permissions_no_looser p q = maps_no_looser p q && counts_no_looser p.list q.list

-- "with the same groups and children in the same order"
unfoldable pub nodes_no_looser : Nodes → Nodes → Bool
nodes_no_looser none none = true
nodes_no_looser none (more h q under after) = false
nodes_no_looser (more g p below rest) none = false
nodes_no_looser (more g p below rest) (more h q under after) =
    (eqb g h && permissions_no_looser p q) && (nodes_no_looser below under && nodes_no_looser rest after)

-- "each tree of A has one in B for its kind"
unfoldable pub root_no_looser : Node → Option Node → Bool
root_no_looser root nothing = false
root_no_looser root (some other) = nodes_no_looser (alone root) (alone other)

unfoldable pub trees_no_looser : List Tree → List Tree → Bool
trees_no_looser a b = every (λ t. root_no_looser t.root (tree_for t.kind b)) a

-- A charter's policy, where it has "at most 4,096 bytes and pass[es] 11 to 15".
unfoldable pub policy_of : List ℕ → Asked (List Tree)
policy_of c = ask 1 (leb (length c) 4096) (after_reading (read_policy c) (λ policy. well_formed policy (passed policy)))

unfoldable pub compared : Asked (List Tree) → Asked (List Tree) → Bool
compared (passed a) (passed b) = trees_no_looser a b
compared (passed a) (failed n) = false
compared (failed m) b = false

-- "Charter A is no looser than B if both have at most 4,096 bytes and pass 11 to 15, .."
unfoldable pub no_looser : List ℕ → List ℕ → Bool
no_looser a b = compared (policy_of a) (policy_of b)
