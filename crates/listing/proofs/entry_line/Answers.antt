-- The line of an entry is its two halves, composed of what is stored.
use Rattle.std.proofs.Common.{rules}
use Rattle.listing.proofs.ListingSteps.{line_written}
use Rattle.listing.proofs.entry_line.Goals as goal

pub returns-clause-stored : goal.returns-clause-stored
returns-clause-stored c = line_written _ _ _ _ _ _ (search rules) (search rules) (search rules) (search rules) c.put_head.ensures.put c.put_tail.ensures
