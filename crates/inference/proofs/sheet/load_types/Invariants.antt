-- Stored types are bound one after another: the types bound so far, followed by those still to be read, are those that there are in all.
use Rattle.inference.proofs.SheetSteps.{Loading}
use Rattle.inference.proofs.sheet.load_types.Given as goal

abbrev pub invariant-loop-names : goal.invariant-loop-names
invariant-loop-names l = Loading l.count l.s l.at l.scope l.next l.names
