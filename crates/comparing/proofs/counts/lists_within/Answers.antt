-- `lists_within`: the items that are left of both lists decide (ListsLeft).
use borrow.Author.Rules.{rules}
use Rattle.comparing.proofs.CountSteps.{lists_next}
use Rattle.comparing.proofs.counts.lists_within.Goals as goal

pub loop-i-preserved : goal.loop-i-preserved
loop-i-preserved c = (search rules, search (rules, lists_next))
