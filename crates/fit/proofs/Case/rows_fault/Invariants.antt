-- The components done so far and those left give the whole (`RowsSoFar`); each component's answer is `row_fault`'s.
use Rattle.fit.proofs.EntryLaws.{RowsSoFar}
use Rattle.fit.proofs.Case.rows_fault.Given as goal

abbrev pub invariant-loop-component : goal.invariant-loop-component
invariant-loop-component l = RowsSoFar l.self.policy.charter.now l.self.policy.nodes.now l.self.policy.trees l.table l.self.sums.now l.components l.first l.component
