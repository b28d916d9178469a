-- Where no components share, own counts decide (`fit_lone`); else sums.
use Rattle.fit.proofs.EntryLaws.{fault_steps}
use Rattle.fit.proofs.entries.fit.Goals as goal

pub returns-then-not-any_shared : goal.returns-then-not-any_shared
returns-then-not-any_shared c = search fault_steps
