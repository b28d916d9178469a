-- The letters counted so far and those left are the name (`Counted`).
use Rattle.naming.proofs.LetterSteps.{Counted}
use Rattle.naming.proofs.letters.letters_at.Given as goal

abbrev pub invariant-loop-n : goal.invariant-loop-n
invariant-loop-n l = Counted l.s l.at l.n
