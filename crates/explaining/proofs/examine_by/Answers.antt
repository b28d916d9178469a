-- Both answers come from one judgement and the tables that it left (`examined`).
use Rattle.explaining.proofs.ExplainSteps.{explaining}
use Rattle.explaining.proofs.examine_by.Goals as goal

pub slack_judged-requires : goal.slack_judged-requires
slack_judged-requires g c = search explaining

pub explain_judged-requires : goal.explain_judged-requires
explain_judged-requires g c = search explaining

pub returns : goal.returns
returns g c = search explaining
