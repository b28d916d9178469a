-- The names read so far begin at the first places, and those left are read from here (`NamesSoFar`).
use Rattle.naming.proofs.NameSteps.{NamesSoFar}
use Rattle.naming.proofs.names.names_at.Given as goal

abbrev pub invariant-loop-place : goal.invariant-loop-place
invariant-loop-place l = NamesSoFar l.s l.at l.initial.places l.places l.next l.place-index
