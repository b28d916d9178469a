-- The sums of the classes, made in clear memory, tell what classes need; with them the components decide.
use Rattle.fit.proofs.EntryLaws.{fit_shared}
use Rattle.fit.proofs.entries.shared_fault.Goals as goal

pub returns : goal.returns
returns g c policy held up = fit_shared _ _ _ _ _ _ _ _ c.rows_fault.ensures c.requires.0 c.requires.1 c.requires.2 c.sum_classes.ensures policy held up
