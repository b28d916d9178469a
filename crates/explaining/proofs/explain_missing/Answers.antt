-- The names first; then what the search found, which is a permission or none.
use Rattle.explaining.proofs.ExplainSteps.{sentence_said}
use Rattle.explaining.proofs.explain_missing.Goals as goal

pub returns : goal.returns
returns c =
    sentence_said _ _ _ _ c.read_names-read.ensures _ c.in-Ok.is _ _ _ _ _ _ c.first_uncovered.ensures.components_value _ _ _ _ _ c.in-Some.is
    c.path.ensures c.say.ensures
