-- A sheet that does not read is refused; any other is checked with a new table that has a row for each component.
use Rattle.service.proofs.CheckSteps.{checking}
use Rattle.service.proofs.checking.check.Goals as goal

pub returns-in_default : goal.returns-in_default
returns-in_default c = search checking

pub check_by-requires : goal.check_by-requires
check_by-requires c = search checking

pub check_by-requires-2 : goal.check_by-requires-2
check_by-requires-2 c = search checking
