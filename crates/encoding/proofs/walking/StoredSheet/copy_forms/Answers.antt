-- A form's copy, then those of the forms that are left.
use Rattle.encoding.proofs.CopySteps.{copy_turns}
use Rattle.encoding.proofs.walking.StoredSheet.copy_forms.Goals as goal

pub loop-from-init : goal.loop-from-init
loop-from-init c = search copy_turns

pub copy_form-at-requires : goal.copy_form-at-requires
copy_form-at-requires c = (search copy_turns, search copy_turns)

pub loop-from-preserved : goal.loop-from-preserved
loop-from-preserved c = search copy_turns

pub returns : goal.returns
returns c = search copy_turns
