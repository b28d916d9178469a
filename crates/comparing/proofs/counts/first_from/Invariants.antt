-- `first_from`: the items that are left decide (FromLeft).
use Rattle.comparing.proofs.CountSteps.{FromLeft}
use Rattle.comparing.proofs.counts.first_from.Given as goal

abbrev pub invariant-loop-i : goal.invariant-loop-i
invariant-loop-i l = FromLeft l.c l.p.list l.p.count l.from l.group l.i
