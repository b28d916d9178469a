-- `read_list`: the items that are left to be read decide (ItemsAhead).
use Rattle.policy.proofs.ListSteps.{ItemsAhead}
use Rattle.policy.proofs.read.read_list.Given as goal

abbrev pub invariant-loop : goal.invariant-loop
invariant-loop l = ItemsAhead l.c l.at l.count l.next l.lowest l.counter
