-- `prefix_of`, form by form: the form at the thread's place is what its process begins with (PrefixSteps.antt).
use Rattle.continuations.proofs.PrefixSteps.{prefix_steps}
use Rattle.continuations.proofs.prefixes.prefix_of.Goals as goal

pub returns-then-t-eq0 : goal.returns-then-t-eq0
returns-then-t-eq0 c = search prefix_steps

pub returns-in-Input : goal.returns-in-Input
returns-in-Input c = search prefix_steps

pub returns-in-Output : goal.returns-in-Output
returns-in-Output c = search prefix_steps

pub returns-in-Replicate : goal.returns-in-Replicate
returns-in-Replicate c = search prefix_steps

pub returns-in_default : goal.returns-in_default
returns-in_default c = search prefix_steps
