-- The measure: three times the nesting that is left, and a little more on the way from a form to its parts.
use Prim.Native.Nat.{◌+◌, ◌*◌}
use Rattle.products.proofs.Maker.+process_walk.Given as goal

abbrev pub decreases-make_form : goal.decreases-make_form
decreases-make_form l = l.thread.nest * 3

abbrev pub decreases-make_par : goal.decreases-make_par
decreases-make_par l = l.thread.nest * 3 + 2

abbrev pub decreases-make_process : goal.decreases-make_process
decreases-make_process l = l.thread.nest * 3 + 1

abbrev pub decreases-make_under : goal.decreases-make_under
decreases-make_under l = l.thread.nest * 3 + 2
