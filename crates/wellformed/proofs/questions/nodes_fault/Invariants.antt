-- `nodes_fault`: the trees that are left decide, tree by tree (NodesLeft).
use Rattle.wellformed.proofs.PassSteps.{NodesLeft}
use Rattle.wellformed.proofs.questions.nodes_fault.Given as goal

abbrev pub invariant-loop-t : goal.invariant-loop-t
invariant-loop-t l = NodesLeft l.c l.nodes l.trees l.t
