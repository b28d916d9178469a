-- The items added so far and those left are all (`Putting`), at most 19 bytes an item.
use Rattle.listing.proofs.ListingSteps.{listing_steps}
use Rattle.listing.proofs.Text.put_items.Goals as goal

pub loop-i-init : goal.loop-i-init
loop-i-init c = search listing_steps

pub loop-i-preserved : goal.loop-i-preserved
loop-i-preserved c = search listing_steps

pub returns-clause-put : goal.returns-clause-put
returns-clause-put c = search listing_steps
