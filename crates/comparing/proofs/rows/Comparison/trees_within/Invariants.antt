-- `trees_within`: the trees that are left of A decide, each beside B's for its kind (TreesLeft).
use Rattle.comparing.proofs.TreeSteps.{TreesLeft}
use Rattle.comparing.proofs.rows.Comparison.trees_within.Given as goal

abbrev pub invariant-loop-t : goal.invariant-loop-t
invariant-loop-t l = TreesLeft l.self.first.charter.now l.self.first.nodes.now l.self.first.trees l.self.second.charter.now l.self.second.nodes.now l.self.second.trees l.t
