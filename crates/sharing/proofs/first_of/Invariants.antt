-- The class of a component is the one that is found from here on.
use Rattle.sharing.proofs.SumSteps.{Seeking}
use Rattle.sharing.proofs.first_of.Given as goal

abbrev pub invariant-loop-earlier : goal.invariant-loop-earlier
invariant-loop-earlier l = Seeking l.keys l.component l.key l.earlier
