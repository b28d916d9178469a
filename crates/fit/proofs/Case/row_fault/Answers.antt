-- The kinds done so far and those left give the whole (`KindsSoFar`); each kind's answer is `entry_fault`'s.
use Rattle.std.proofs.Common.{arith}
use Rattle.fit.proofs.EntryLaws.{kinds_next, fault_steps}
use Rattle.fit.proofs.Case.row_fault.Goals as goal

pub loop-kind-init : goal.loop-kind-init
loop-kind-init c = search fault_steps

pub loop-kind-preserved : goal.loop-kind-preserved
loop-kind-preserved c = kinds_next _ _ _ _ _ _ _ _ c.loop-kind.invariant (omega arith) _ _ c.entry_fault.ensures c.earlier-first.ensures

pub returns : goal.returns
returns c = search fault_steps
