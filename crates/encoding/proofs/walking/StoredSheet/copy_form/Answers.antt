-- A form's bytes, then the purpose.
use Rattle.encoding.proofs.CopySteps.{form_puts}
use Rattle.encoding.proofs.walking.StoredSheet.copy_form.Goals as goal

pub copy-requires : goal.copy-requires
copy-requires c = (search form_puts, search form_puts)

pub put_purpose-requires : goal.put_purpose-requires
put_purpose-requires c = search form_puts

pub returns : goal.returns
returns c = search form_puts
