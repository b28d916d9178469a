-- The components done so far and those left give the whole (`RowsSoFar`); each component's answer is `row_fault`'s.
use Rattle.std.proofs.Common.{arith}
use Rattle.fit.proofs.EntryLaws.{rows_next, fault_steps}
use Rattle.fit.proofs.Case.rows_fault.Goals as goal

pub loop-component-init : goal.loop-component-init
loop-component-init c = search fault_steps

pub loop-component-preserved : goal.loop-component-preserved
loop-component-preserved c = rows_next _ _ _ _ _ _ _ _ c.loop-component.invariant (omega arith) _ _ c.row_fault.ensures c.earlier-first.ensures

pub returns : goal.returns
returns c = search fault_steps
