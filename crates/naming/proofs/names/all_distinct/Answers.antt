-- Each name passed so far is none of those after it, so that the names left decide (`ApartSoFar`).
use Rattle.naming.proofs.NameSteps.{name_steps}
use Rattle.naming.proofs.names.all_distinct.Goals as goal

pub returns-then-among : goal.returns-then-among
returns-then-among c = search name_steps

pub loop-i-preserved : goal.loop-i-preserved
loop-i-preserved c = search name_steps
