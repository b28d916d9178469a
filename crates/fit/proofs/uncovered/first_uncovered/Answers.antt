-- The sums of the classes, made in clear memory, tell what classes need (`all_sums`); with them the first entry that lacks something is found.
use Rattle.fit.proofs.SearchLaws.{search_steps}
use Rattle.fit.proofs.uncovered.first_uncovered.Goals as goal

pub returns : goal.returns
returns c = search search_steps
