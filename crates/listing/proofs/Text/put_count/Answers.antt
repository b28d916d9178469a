use Rattle.listing.proofs.ListingSteps.{listing_steps}
use Rattle.listing.proofs.Text.put_count.Goals as goal

pub returns-then-count-eq-UNLIMITED-clause-put : goal.returns-then-count-eq-UNLIMITED-clause-put
returns-then-count-eq-UNLIMITED-clause-put c = search listing_steps

pub returns-clause-put : goal.returns-clause-put
returns-clause-put c = search listing_steps
