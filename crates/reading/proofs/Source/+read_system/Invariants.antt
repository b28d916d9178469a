-- `read_system` reads past a system, form by form (SystemSteps.antt). The invariant: what is left of the system, from the place
-- reached on, ends as all of it does, with as many components in all. The measures, of a call and of a turn, are the nesting
-- left, which falls since a form was found only where it is above 0.
use Rattle.reading.proofs.SystemSteps.{SystemLeft}
use Rattle.reading.specs.Told.{path_of}
use Rattle.reading.proofs.Source.+read_system.Given as goal

abbrev pub decreases-read_system : goal.decreases-read_system
decreases-read_system l = l.from.nest

abbrev pub invariant-loop-place : goal.invariant-loop-place
invariant-loop-place l = SystemLeft l.self.dialect l.self.bytes.now l.initial.spot.at l.initial.spot.nest l.initial.spot.names (path_of l.initial.path) l.initial.components l.spot.at l.spot.nest l.spot.names (path_of l.path) l.components

abbrev pub decreases-loop-place : goal.decreases-loop-place
decreases-loop-place l = l.spot.nest
