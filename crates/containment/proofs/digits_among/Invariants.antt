-- `digits_among`: the digits that are left decide (DigitsLeft).
use Rattle.containment.proofs.DigitLaws.{DigitsLeft}
use Rattle.containment.proofs.digits_among.Given as goal

abbrev pub invariant-loop : goal.invariant-loop
invariant-loop l = DigitsLeft l.digits l.a l.b l.counter l.first l.second
