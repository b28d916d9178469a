-- `marked`: the groups marked so far and those of the rows that are left are the fence (MarksLeft).
use Rattle.wellformed.proofs.FenceSteps.{marks_next, fence_steps}
use borrow.Author.Rules.{rules}
use Rattle.wellformed.proofs.fences.marked.Goals as goal

pub loop-i-init : goal.loop-i-init
loop-i-init c = search fence_steps

pub loop-i-preserved : goal.loop-i-preserved
loop-i-preserved c = search (rules, marks_next)

pub returns : goal.returns
returns c = search fence_steps
