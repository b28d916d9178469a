-- `rows_within`: the rows that are left of both trees decide (RowsLeft).
use Rattle.comparing.proofs.RowSteps.{RowsLeft}
use Rattle.comparing.proofs.rows.Comparison.rows_within.Given as goal

abbrev pub invariant-loop-i : goal.invariant-loop-i
invariant-loop-i l = RowsLeft l.self.first.charter.now l.self.first.nodes.now l.tree.from l.tree.to l.self.second.charter.now l.self.second.nodes.now l.other.from l.other.to l.i
