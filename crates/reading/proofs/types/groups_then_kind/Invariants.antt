-- `groups_then_kind` reads a type's groups, one a turn, and then its kind (TypeSteps.antt). The invariant: what is left of the
-- type, scaled and added to the sum, is all of it; and the sum and the factor are small.
use Rattle.reading.proofs.TypeSteps.{GroupsLeft}
use Rattle.reading.proofs.types.groups_then_kind.Given as goal

abbrev pub invariant-loop : goal.invariant-loop
invariant-loop l = GroupsLeft l.dialect l.s l.at l.count l.next l.counter l.sum l.factor
