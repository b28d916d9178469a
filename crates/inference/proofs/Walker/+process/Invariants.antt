-- The measure is the nesting that is left.
use Rattle.inference.proofs.Walker.+process.Given as goal

abbrev pub decreases-process : goal.decreases-process
decreases-process l = l.spot.nest
