-- `exchange`: what both continuations make, put in its places, is the communication (ExchangeSteps.antt).
use Rattle.continuations.proofs.ExchangeSteps.{exchange_step}
use Rattle.continuations.proofs.exchanging.exchange.Goals as goal

pub returns : goal.returns
returns c =
    exchange_step _ _ _ _ _ _ _ _ _ _ _ _ _ _ c.requires.there.0 c.requires.there.1 c.requires.tables
    c.none_made-before.ensures
    c.make_both-products.ensures
    c.put_both.ensures
