-- The kinds done so far and those left give the whole (`KindsSoFar`); each kind's answer is `entry_fault`'s.
use Rattle.fit.proofs.EntryLaws.{KindsSoFar}
use Rattle.fit.proofs.Case.row_fault.Given as goal

abbrev pub invariant-loop-kind : goal.invariant-loop-kind
invariant-loop-kind l = KindsSoFar l.self.policy.charter.now l.self.policy.nodes.now l.self.policy.trees l.table l.self.sums.now l.component l.first l.kind
