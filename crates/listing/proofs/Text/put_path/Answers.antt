use Rattle.listing.proofs.ListingSteps.{listing_steps}
use Rattle.listing.proofs.Text.put_path.Goals as goal

pub returns-then-len-eq0-clause-put : goal.returns-then-len-eq0-clause-put
returns-then-len-eq0-clause-put c = search listing_steps

pub returns-clause-put : goal.returns-clause-put
returns-clause-put c = search listing_steps
