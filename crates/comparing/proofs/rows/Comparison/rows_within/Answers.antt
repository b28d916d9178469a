-- `rows_within`: the rows that are left of both trees decide (RowsLeft).
use Rattle.comparing.proofs.RowSteps.{rows_steps}
use Rattle.comparing.proofs.rows.Comparison.rows_within.Goals as goal

pub returns-then-not-row_within : goal.returns-then-not-row_within
returns-then-not-row_within c = search rows_steps

pub loop-i-preserved : goal.loop-i-preserved
loop-i-preserved c = search rows_steps
