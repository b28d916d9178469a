-- `read_node` and `read_children` call each other: the nesting that is left falls from a node to its children. Children are read in a loop:
-- once those that are left are loaded, all are (`Loading` of NodeSteps).
use Rattle.policy.proofs.NodeSteps.{Loading}
use Prim.Native.Nat.{◌+◌, ◌-◌, ◌*◌}
use Rattle.policy.proofs.read.+read_children_read_node.Given as goal

abbrev pub decreases-read_children : goal.decreases-read_children
decreases-read_children l = l.level * 2 + 1

abbrev pub decreases-read_node : goal.decreases-read_node
decreases-read_node l = l.level * 2

abbrev pub invariant-read_children-loop : goal.invariant-read_children-loop
invariant-read_children-loop l = Loading l.level l.c l.count l.used l.at (8 - l.level) l.initial.nodes l.counter l.rows l.next l.nodes
