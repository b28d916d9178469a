-- A whole sheet: the free names' types and the system that the reader reads are those that the walk goes over.
use borrow.Author.Rules.{rules}
use mathlib.Core.Path.{refl}
use Rattle.inference.proofs.SheetSteps.{sheet_inferred}
use Rattle.inference.proofs.sheet.infer.Goals as goal

pub returns : goal.returns
returns c = sheet_inferred _ c.system.new.self _ _ _ _ c.system.ensures c.empty.ensures c.load_free-free.ensures refl refl (search rules)
