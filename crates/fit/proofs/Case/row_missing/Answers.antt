-- The kinds passed so far lack nothing, so that those left decide (`KindsLeft`).
use Rattle.std.proofs.Common.{arith}
use Rattle.fit.proofs.SearchLaws.{kind_lacks, search_steps}
use Rattle.fit.proofs.Case.row_missing.Goals as goal

pub loop-kind-init : goal.loop-kind-init
loop-kind-init c = search search_steps

pub returns-in-Some-clause-component_value : goal.returns-in-Some-clause-component_value
returns-in-Some-clause-component_value c = kind_lacks _ _ _ _ _ _ _ c.loop-kind.invariant (omega arith) _ c.in-Some.ensures

pub returns : goal.returns
returns c = record { component_value = search search_steps; few = search search_steps }
