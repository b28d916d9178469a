-- Each arm of the match is one code, whose move has the bytes that the arm says (SpanSteps.antt).
use Rattle.script.proofs.SpanSteps.{span_steps}
use Rattle.script.proofs.moves.move_span.Goals as goal

pub returns-then-s-at-clause-spans : goal.returns-then-s-at-clause-spans
returns-then-s-at-clause-spans c = search span_steps

pub returns-in-1 : goal.returns-in-1
returns-in-1 c = record { spans = search span_steps; upper_bound = search span_steps }

pub returns-in-3 : goal.returns-in-3
returns-in-3 c = record { spans = search span_steps; upper_bound = search span_steps }

pub returns-in-4 : goal.returns-in-4
returns-in-4 c = record { spans = search span_steps; upper_bound = search span_steps }

pub returns-in-5-clause-spans : goal.returns-in-5-clause-spans
returns-in-5-clause-spans c = search span_steps

pub returns-in_default-clause-spans : goal.returns-in_default-clause-spans
returns-in_default-clause-spans c = search span_steps
