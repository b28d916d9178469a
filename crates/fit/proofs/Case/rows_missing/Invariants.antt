-- The components passed so far lack nothing, so that those left decide (`RowsLeft`).
use Rattle.fit.proofs.SearchLaws.{RowsLeft}
use Rattle.fit.proofs.Case.rows_missing.Given as goal

abbrev pub invariant-loop-component : goal.invariant-loop-component
invariant-loop-component l = RowsLeft l.self.policy.charter.now l.self.policy.nodes.now l.self.policy.trees l.table l.self.sums.now l.components l.component
