-- The measure: twice the nesting that is left, and one more on the way from a form to its parts.
use Prim.Native.Nat.{◌+◌, ◌*◌}
use Rattle.decoding.proofs.noting.+system_walk.Given as goal

abbrev pub decreases-note_system : goal.decreases-note_system
decreases-note_system l = l.nest * 2

abbrev pub decreases-note_form : goal.decreases-note_form
decreases-note_form l = l.nest * 2 + 1
