-- The measure is how many digits may still be written, which falls with each call.
use Rattle.listing.proofs.ListingSteps.{listing_steps}
use Rattle.listing.proofs.Text.+put_digits.Goals as goal

pub returns-then-digits-eq0-clause-put : goal.returns-then-digits-eq0-clause-put
returns-then-digits-eq0-clause-put t c = search listing_steps

pub returns-then-n-lt10-clause-put : goal.returns-then-n-lt10-clause-put
returns-then-n-lt10-clause-put t c = search listing_steps

pub returns-clause-put : goal.returns-clause-put
returns-clause-put t c = search listing_steps
