-- A sheet at its start: the free names, and the system that the reader reads, whose forms are noted and then walked.
use Rattle.products.proofs.StartSteps.{sheet_made}
use borrow.Author.Rules.{rules}
use Rattle.products.proofs.start.make_sheet.Goals as goal

pub returns : goal.returns
returns c =
    sheet_made _ _ _ _ c.give_free-given.new.threads _ _ _ _ _ _ _ _ _ c.make_system.result
    (search rules)
    c.give_free-given.ensures
    c.note_system.ensures
    (search rules)
