-- `all_fenced`: the trees that are left decide, tree by tree (FencesLeft).
use Rattle.wellformed.proofs.PassSteps.{FencesLeft}
use Rattle.wellformed.proofs.questions.all_fenced.Given as goal

abbrev pub invariant-loop-t : goal.invariant-loop-t
invariant-loop-t l = FencesLeft l.c l.nodes l.trees l.t
