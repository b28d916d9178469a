-- The measure is how many digits may still be written, which falls with each call.
use Rattle.listing.proofs.Text.+put_digits.Given as goal

abbrev pub decreases-put_digits : goal.decreases-put_digits
decreases-put_digits l = l.digits
