-- `count_moves` passes a move a turn. The invariant: the moves counted and those from the place reached on are all of them
-- (CountSteps.antt). The measure: how many more may be counted.
use Rattle.script.proofs.CountSteps.{Turn}
use Prim.Native.Nat.{◌-◌}
use Rattle.script.proofs.moves.count_moves.Given as goal

abbrev pub invariant-loop-at : goal.invariant-loop-at
invariant-loop-at l = Turn l.s l.at l.count

abbrev pub decreases-loop-at : goal.decreases-loop-at
decreases-loop-at l = 1024 - l.count
