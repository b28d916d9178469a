-- `make_both`: one walk after the other (ExchangeSteps.antt).
use borrow.Author.Rules.{rules}
use Rattle.continuations.proofs.ExchangeSteps.{both_made}
use Rattle.continuations.proofs.exchanging.make_both.Goals as goal

pub returns : goal.returns
returns c =
    both_made _ _ _ _ _ _ _ _ _ _ _ _ _ _ _ _ _ (search rules) (search rules) (search rules)
    c.make_process-first.ensures
    c.under_cell-theirs.ensures
    c.with_cell-begun.ensures
    c.bind.ensures
    c.make_process-all.ensures
