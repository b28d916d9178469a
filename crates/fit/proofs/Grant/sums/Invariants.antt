-- The groups at the places passed so far, and those left, give the whole (`SumsSoFar`).
use Rattle.fit.specs.Givers.{given_rows}
use Rattle.fit.proofs.CoverSteps.{SumsSoFar}
use Rattle.fit.proofs.Grant.sums.Given as goal

abbrev pub invariant-loop-place : goal.invariant-loop-place
invariant-loop-place l = SumsSoFar l.self.policy.charter.now l.self.policy.nodes.now (given_rows l.self.givers) l.entry.table.now l.sums l.entry.component l.entry.kind l.count l.items l.len l.place
