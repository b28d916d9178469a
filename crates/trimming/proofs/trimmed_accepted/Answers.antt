-- The theorem of Theorem.antt.
use Rattle.trimming.proofs.Theorem as theorem
use Rattle.trimming.proofs.trimmed_accepted.Goals as goal

pub returns : goal.returns
returns c = theorem.trimmed_accepted
