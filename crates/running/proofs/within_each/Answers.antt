-- The theorem of Theorem.antt.
use Rattle.running.proofs.Theorem as theorem
use Rattle.running.proofs.within_each.Goals as goal

pub returns : goal.returns
returns c = theorem.within_each
