-- A type that cannot be read ends the loop.
use Rattle.inference.proofs.SheetSteps.{load_stop}
use Rattle.inference.proofs.sheet.load_types.Goals as goal

pub returns-in_default : goal.returns-in_default
returns-in_default c = load_stop _ _ _ _ _ _ c.loop-names.invariant _ c.type_at-read.ensures c.loop-names-test.true _ c.in_default.is
