-- The groups passed so far are granted what is needed, so that those left decide (`ShortSoFar`).
use Rattle.fit.proofs.CoverSteps.{ShortSoFar}
use Rattle.fit.proofs.Sums.lacking.Given as goal

abbrev pub invariant-loop-sum : goal.invariant-loop-sum
invariant-loop-sum l = ShortSoFar l.items l.sum-index
