-- `read_trees`: the trees read so far are in the table, and the rest is still to be read (TreesRead).
use mathlib.Core.Path.{◌≡◌}
use Rattle.policy.proofs.TreeSteps.{TreesRead}
use lib.ListN.{length}
use Rattle.policy.proofs.read.read_trees.Given as goal

abbrev pub invariant-loop : goal.invariant-loop
invariant-loop l = (length l.nodes ≡ 384) × TreesRead l.c l.at l.count l.nodes l.trees l.next l.used l.counter
