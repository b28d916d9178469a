-- `fenced`: the rows that are left decide, row by row (FencedLeft).
use Rattle.wellformed.proofs.FenceSteps.{FencedLeft}
use Rattle.wellformed.proofs.fences.fenced.Given as goal

abbrev pub invariant-loop-row : goal.invariant-loop-row
invariant-loop-row l = FencedLeft l.c l.nodes l.tree.from l.tree.to l.row
