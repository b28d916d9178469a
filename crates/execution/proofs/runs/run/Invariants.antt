-- `run`: a move a turn. The invariant: what is logged, with what the moves left log, is the whole run's log, whichever run it is
-- (`Running`). The measure is how many moves are left.
use Prim.Native.Nat.{◌-◌}
use Rattle.execution.proofs.RunSteps.{Running}
use Rattle.execution.proofs.runs.run.Given as goal

abbrev pub invariant-loop-p : goal.invariant-loop-p
invariant-loop-p l =
    Running l.course.forms.now l.course.script.now l.course.count
    l.initial.log l.initial.threads l.initial.types l.initial.known l.initial.cells l.initial.p
    l.log l.threads l.made l.types l.known l.cells l.p

abbrev pub decreases-loop-p : goal.decreases-loop-p
decreases-loop-p l = l.course.count - l.p.done
