-- `all_fenced`: the trees that are left decide, tree by tree (FencesLeft).
use Rattle.wellformed.proofs.PassSteps.{fence_pass_steps}
use Rattle.wellformed.proofs.questions.all_fenced.Goals as goal

pub returns-then-not-fenced : goal.returns-then-not-fenced
returns-then-not-fenced c = search fence_pass_steps

pub loop-t-preserved : goal.loop-t-preserved
loop-t-preserved c = search fence_pass_steps
