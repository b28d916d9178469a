-- What the judgement and the tables that it left come to (`read_explained`).
use Rattle.explaining.proofs.ExplainSteps.{explaining}
use Rattle.explaining.proofs.explain_by.Goals as goal

pub explain_judged-requires : goal.explain_judged-requires
explain_judged-requires g c = search explaining

pub returns : goal.returns
returns g c = search explaining
