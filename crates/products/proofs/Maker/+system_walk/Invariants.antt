-- The measure: three times the nesting that is left, and a little more on the way from a form to its parts.
use Prim.Native.Nat.{◌+◌, ◌*◌}
use Rattle.products.proofs.Maker.+system_walk.Given as goal

abbrev pub decreases-make_system_form : goal.decreases-make_system_form
decreases-make_system_form l = l.thread.nest * 3

abbrev pub decreases-make_system_par : goal.decreases-make_system_par
decreases-make_system_par l = l.thread.nest * 3 + 2

abbrev pub decreases-make_system : goal.decreases-make_system
decreases-make_system l = l.thread.nest * 3 + 1

abbrev pub decreases-make_system_under : goal.decreases-make_system_under
decreases-make_system_under l = l.thread.nest * 3 + 2
