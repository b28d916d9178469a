-- `logged`: a refused move leaves the sizes as they were (OutcomeSteps.antt).
use Rattle.transitions.proofs.OutcomeSteps.{logged_refused}
use Rattle.transitions.proofs.outcomes.logged.Goals as goal

pub returns-in-Err : goal.returns-in-Err
returns-in-Err c = logged_refused _ _ _ _ _ c.in-Err.is c.number.ensures c.refused.ensures
