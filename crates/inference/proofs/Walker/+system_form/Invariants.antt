-- The measure is twice the nesting that is left, and one more on the way from a form to its parts.
use Prim.Native.Nat.{◌+◌, ◌*◌}
use Rattle.inference.proofs.Walker.+system_form.Given as goal

abbrev pub decreases-form : goal.decreases-form
decreases-form l = l.inner.nest * 2 + 1

abbrev pub decreases-system : goal.decreases-system
decreases-system l = l.spot.nest * 2
