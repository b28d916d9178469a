-- `nodes_fault`: the trees that are left decide, tree by tree (NodesLeft).
use Rattle.wellformed.proofs.PassSteps.{node_pass_steps}
use Rattle.wellformed.proofs.questions.nodes_fault.Goals as goal

pub loop-t-preserved : goal.loop-t-preserved
loop-t-preserved c = search node_pass_steps
