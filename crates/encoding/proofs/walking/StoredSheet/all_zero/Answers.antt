-- A purpose other than 0 decides.
use Rattle.encoding.proofs.WalkSteps.{ask_steps}
use Rattle.encoding.proofs.walking.StoredSheet.all_zero.Goals as goal

pub returns-then-states_other : goal.returns-then-states_other
returns-then-states_other c = search ask_steps
