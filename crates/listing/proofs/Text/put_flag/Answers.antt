use Rattle.listing.proofs.ListingSteps.{listing_steps}
use Rattle.listing.proofs.Text.put_flag.Goals as goal

pub returns-then-not-has_bit-clause-put : goal.returns-then-not-has_bit-clause-put
returns-then-not-has_bit-clause-put c = search listing_steps

pub returns-clause-put : goal.returns-clause-put
returns-clause-put c = search listing_steps
