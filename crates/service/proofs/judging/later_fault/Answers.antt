-- The policy's own questions decide, then those of the entries.
use Rattle.service.proofs.JudgeSteps.{policy_judging, entries_decide}
use Rattle.service.proofs.judging.later_fault.Goals as goal

pub returns-in-Some : goal.returns-in-Some
returns-in-Some c = search policy_judging

pub returns : goal.returns
returns c = entries_decide _ _ _ _ _ _ c.policy_fault.ensures _ c.in_default.not-Some c.fit.ensures
