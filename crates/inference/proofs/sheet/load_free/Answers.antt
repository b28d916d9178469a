-- The free names of a sheet: its count is below 33, so there is room for all of them.
use native.Mathlib.Omega.{arith}
use mathlib.Core.Path.{sym}
use Rattle.reading.proofs.Parts.{below_found}
use Rattle.inference.proofs.SheetSteps.{no_header, header_loaded}
use Rattle.inference.proofs.sheet.load_free.Goals as goal

pub returns-in_default : goal.returns-in_default
returns-in_default c = no_header _ _ _ c.byte_below-read.ensures _ c.in_default.is

pub load_types-requires : goal.load_types-requires
load_types-requires c = omega (arith, below_found 33 _ 0 {b = c.in-Ok.count.value} {k = c.in-Ok.count.next} (sym c.in-Ok.ensures))

pub returns : goal.returns
returns c = header_loaded _ _ _ c.byte_below-read.ensures _ _ c.in-Ok.is c.load_types.ensures
