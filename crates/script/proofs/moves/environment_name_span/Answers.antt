-- A type that was read ends behind its place, within the bytes (`type_steps` of SpanSteps.antt).
use Rattle.script.proofs.SpanSteps.{type_steps}
use Rattle.script.proofs.moves.environment_name_span.Goals as goal

pub returns-in_default-clause-spans : goal.returns-in_default-clause-spans
returns-in_default-clause-spans c = search type_steps
