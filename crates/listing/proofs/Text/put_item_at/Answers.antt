use Rattle.listing.proofs.ListingSteps.{listing_steps}
use Rattle.listing.proofs.Text.put_item_at.Goals as goal

pub returns : goal.returns
returns c = search listing_steps
