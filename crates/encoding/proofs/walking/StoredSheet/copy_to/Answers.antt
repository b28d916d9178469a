-- The types of the free names, then the forms.
use Rattle.encoding.proofs.CopySteps.{sheet_puts}
use Rattle.encoding.proofs.walking.StoredSheet.copy_to.Goals as goal

pub copy-requires : goal.copy-requires
copy-requires c = (search sheet_puts, search sheet_puts)

pub copy_forms-requires : goal.copy_forms-requires
copy_forms-requires c = search sheet_puts

pub returns : goal.returns
returns c = search sheet_puts
