-- The kinds passed so far lack nothing, so that those left decide (`KindsLeft`).
use Rattle.fit.proofs.SearchLaws.{KindsLeft}
use Rattle.fit.proofs.Case.row_missing.Given as goal

abbrev pub invariant-loop-kind : goal.invariant-loop-kind
invariant-loop-kind l = KindsLeft l.self.policy.charter.now l.self.policy.nodes.now l.self.policy.trees l.table l.self.sums.now l.component l.kind
