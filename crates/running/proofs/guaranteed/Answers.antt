-- The theorem of Theorem.antt.
use Rattle.running.proofs.Theorem as theorem
use Rattle.running.proofs.guaranteed.Goals as goal

pub returns : goal.returns
returns c = theorem.guaranteed
