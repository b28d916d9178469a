-- `answers`: each of the 256 entries passes (`answers_hold`).
use Rattle.containment.proofs.Table.{answers, answers_hold}
use Rattle.containment.proofs.answers.Goals as goal

pub returns : goal.returns
unfolding answers
returns c = answers_hold
