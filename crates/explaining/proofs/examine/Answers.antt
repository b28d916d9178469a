-- A sheet that does not read is refused by both; any other is examined with a new table that has a row for each component.
use Rattle.explaining.proofs.ExplainSteps.{explaining}
use Rattle.explaining.proofs.examine.Goals as goal

pub returns-in_default : goal.returns-in_default
returns-in_default c = search explaining

pub examine_by-requires : goal.examine_by-requires
examine_by-requires c = search explaining

pub examine_by-requires-2 : goal.examine_by-requires-2
examine_by-requires-2 c = search explaining
