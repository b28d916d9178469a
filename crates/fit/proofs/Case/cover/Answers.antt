-- Flags and sums, in the rows that `givers` finds for the path in the table's row and `granting` leaves for its purpose.
use Rattle.fit.proofs.CoverSteps.{cover_steps}
use Rattle.fit.proofs.Case.cover.Goals as goal

pub returns : goal.returns
returns c = search cover_steps
