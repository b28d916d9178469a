-- `run`: a move a turn. The invariant: what is logged, with what the moves left log, is the whole run's log, whichever run it is
-- (`Running`). The measure is how many moves are left.
use Rattle.execution.proofs.RunSteps.{run_steps, run_falls}
use Rattle.execution.proofs.runs.run.Goals as goal

pub loop-p-smaller : goal.loop-p-smaller
loop-p-smaller c =
    run_falls _ _ _ _ _ _ _ _ _ _ _ _ _ _ _
    c.loop-p.invariant.ongoing
    c.turn-p.ensures
    c.loop-p-test.true

pub loop-p-preserved : goal.loop-p-preserved
loop-p-preserved c = search run_steps

pub returns : goal.returns
returns c = search run_steps
