-- Questions 1 to 18 decide; where they pass, what is delivered is the interface, since the table holds it.
use Rattle.service.proofs.CheckSteps.{checking}
use Rattle.service.proofs.checking.check_by.Goals as goal

pub returns-in-Some : goal.returns-in-Some
returns-in-Some g c = search checking

pub returns : goal.returns
returns g c = search checking
