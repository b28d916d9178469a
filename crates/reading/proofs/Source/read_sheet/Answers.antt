-- `read_sheet` reads the count of free names, their types and the system, and asks for the end: each part's answer decides the
-- whole (SheetSteps.antt).
use Rattle.reading.proofs.SheetSteps.{sheet_steps}
use Rattle.reading.proofs.Source.read_sheet.Goals as goal

pub returns-in_default-types : goal.returns-in_default-types
returns-in_default-types c = search sheet_steps

pub returns-in_default-read : goal.returns-in_default-read
returns-in_default-read c = search sheet_steps

pub returns-then-system-self : goal.returns-then-system-self
returns-then-system-self c = search sheet_steps

pub returns-else-system-self : goal.returns-else-system-self
returns-else-system-self c = rw c.at.ensures (search sheet_steps)
