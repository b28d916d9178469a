-- All definitions that the worked cases of Q-7 are computed with, under one name (a case says `unfolding move_computed`).
use Rattle.service.proofs.Computed.{computed}
use Rattle.encoding.specs.Encoding.{nested_from, nested, type_bytes, purpose_bytes, form_bytes, process_bytes, system_bytes, types_bytes, sheet_bytes, purposes, all_zero}
use Rattle.moving.specs.Moving.{new_form, old_form, upgraded, downgraded}
use Rattle.moving.specs.Before.{judged_in, entry_bytes_in, interface_bytes_in, interface_for_in, checked_in}

unfoldable pub move_computed : Unit {0}
unfolding computed nested_from nested type_bytes purpose_bytes form_bytes process_bytes system_bytes types_bytes sheet_bytes purposes all_zero new_form old_form upgraded downgraded judged_in entry_bytes_in interface_bytes_in interface_for_in checked_in
move_computed = tt
