-- A turn counts one move more.
use Rattle.std.proofs.Common.{arith}
use Rattle.script.proofs.CountSteps.{next_turn}
use Rattle.script.proofs.moves.count_moves.Goals as goal

pub loop-at-preserved : goal.loop-at-preserved
loop-at-preserved c =
    next_turn _ _ _ c.loop-at.invariant c.loop-at-test.true (omega arith) _ _ c.move_span.ensures.spans c.in-Some.is c.move_span.ensures.upper_bound
