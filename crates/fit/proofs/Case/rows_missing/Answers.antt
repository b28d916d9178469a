-- The components passed so far lack nothing, so that those left decide (`RowsLeft`).
use Rattle.std.proofs.Common.{arith}
use Rattle.fit.proofs.SearchLaws.{row_lacks, search_steps}
use Rattle.fit.proofs.Case.rows_missing.Goals as goal

pub loop-component-init : goal.loop-component-init
loop-component-init c = search search_steps

pub returns-in-Some-clause-components_value : goal.returns-in-Some-clause-components_value
returns-in-Some-clause-components_value c = row_lacks _ _ _ _ _ _ _ c.loop-component.invariant _ (omega arith) c.row_missing.ensures.component_value _ c.in-Some.is

pub loop-component-preserved : goal.loop-component-preserved
loop-component-preserved c = search search_steps

pub returns : goal.returns
returns c = record { components_value = search search_steps; few = search search_steps }
