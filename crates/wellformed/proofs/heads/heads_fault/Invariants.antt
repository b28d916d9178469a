-- `heads_fault`: the rows that are left decide, with the groups on the way down and the last node of each group (HeadsLeft).
use Rattle.wellformed.proofs.HeadSteps.{HeadsLeft}
use Rattle.wellformed.proofs.heads.heads_fault.Given as goal

abbrev pub invariant-loop-row : goal.invariant-loop-row
invariant-loop-row l = HeadsLeft l.c l.nodes l.fn.tree.from l.fn.tree.to l.last l.path l.row
