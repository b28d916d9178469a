-- A sheet that does not read fails the reading's question; any other is judged with a new table that has a row for each component.
use Rattle.service.proofs.JudgeSteps.{judging}
use Rattle.service.proofs.judging.first_failed.Goals as goal

pub returns-in_default : goal.returns-in_default
returns-in_default c = search judging

pub first_failed_by-requires : goal.first_failed_by-requires
first_failed_by-requires c = search judging

pub first_failed_by-requires-2 : goal.first_failed_by-requires-2
first_failed_by-requires-2 c = search judging
