-- `read_trees`: the trees read so far are in the table, and the rest is still to be read (TreesRead).
use Rattle.policy.proofs.TreeSteps.{tree_steps}
use Rattle.policy.proofs.read.read_trees.Goals as goal

pub returns-in_default : goal.returns-in_default
returns-in_default c = search tree_steps

pub returns-in_default-second : goal.returns-in_default-second
returns-in_default-second c = search tree_steps

pub loop-preserved : goal.loop-preserved
loop-preserved c = search tree_steps

pub returns-then-next-c : goal.returns-then-next-c
returns-then-next-c c = search tree_steps

pub returns-else-next-c : goal.returns-else-next-c
returns-else-next-c c = search tree_steps
