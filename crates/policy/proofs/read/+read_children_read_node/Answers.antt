-- `read_node` and `read_children` call each other: the nesting that is left falls from a node to its children. Children are read in a loop:
-- once those that are left are loaded, all are (`Loading` of NodeSteps).
use Rattle.policy.proofs.NodeSteps.{child_steps, root_steps}
use Rattle.policy.proofs.read.+read_children_read_node.Goals as goal

pub read_children-returns-in_default : goal.read_children-returns-in_default
read_children-returns-in_default t c = search child_steps

pub read_children-loop-preserved : goal.read_children-loop-preserved
read_children-loop-preserved t c = search child_steps

pub read_children-returns : goal.read_children-returns
read_children-returns t c = search child_steps

pub read_node-returns-then-level-eq0 : goal.read_node-returns-then-level-eq0
read_node-returns-then-level-eq0 t c = search root_steps

pub read_node-returns-then-used-ge64 : goal.read_node-returns-then-used-ge64
read_node-returns-then-used-ge64 t c = search root_steps

pub read_node-returns-in_default : goal.read_node-returns-in_default
read_node-returns-in_default t c = search root_steps

pub read_node-returns : goal.read_node-returns
read_node-returns t c = search root_steps
