use Rattle.listing.proofs.ListingSteps.{listing_steps}
use Rattle.listing.proofs.Text.put_marked.Goals as goal

pub returns-clause-put : goal.returns-clause-put
returns-clause-put c = search listing_steps
