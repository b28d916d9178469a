-- `has` looks for a group in a path: it is in the path if it is in what is left of it.
use mathlib.Core.Path.{◌≡◌}
use lib.ListN.{drop}
use Rattle.reading.specs.Forms.{member}
use Rattle.reading.specs.Told.{path_of}
use Rattle.reading.proofs.Path.has.Given as goal

abbrev pub invariant-loop-held : goal.invariant-loop-held
invariant-loop-held l = member l.group (path_of l.self) ≡ member l.group (drop l.held-index l.held-items)
