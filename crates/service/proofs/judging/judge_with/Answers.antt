-- A charter that does not read leaves with its refusal; else the later questions decide.
use Rattle.std.proofs.Common.{refl}
use Rattle.service.proofs.JudgeSteps.{policy_judging, some_bounded, charter_reads}
use Rattle.service.proofs.judging.judge_with.Goals as goal

pub invariant_of-result-clause-bounded : goal.invariant_of-result-clause-bounded
invariant_of-result-clause-bounded c = λ past. some_bounded _ c.no_trees.ensures

pub returns-in_default : goal.returns-in_default
returns-in_default c = search policy_judging

pub returns : goal.returns
returns c = charter_reads _ _ _ c.read_policy-read.ensures _ _ _ c.in-Ok.is _ c.later_fault.ensures _ refl refl refl
