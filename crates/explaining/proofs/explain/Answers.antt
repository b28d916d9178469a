-- A sheet that does not read is refused with its question; any other is explained with a new table that has a row for each component.
use Rattle.explaining.proofs.ExplainSteps.{explaining}
use Rattle.explaining.proofs.explain.Goals as goal

pub returns-in_default : goal.returns-in_default
returns-in_default c = search explaining

pub explain_by-requires : goal.explain_by-requires
explain_by-requires c = search explaining

pub explain_by-requires-2 : goal.explain_by-requires-2
explain_by-requires-2 c = search explaining
