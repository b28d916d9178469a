-- What the entry comes to in the policy tells what it lacks.
use Rattle.std.proofs.Common.{rules}
use Rattle.fit.proofs.SearchLaws.{lacks_at}
use Rattle.fit.proofs.Case.entry_missing.Goals as goal

pub returns : goal.returns
returns c = lacks_at _ _ _ _ _ _ _ _ c.if-not-is_used.ensures (search rules) _ _ c.covering.ensures.covering_value c.lacking.ensures
