-- A sheet that does not read is refused, then one whose new form is too long; any other is moved.
use Rattle.moving.proofs.MoveSteps.{upgrading}
use Rattle.moving.proofs.upgrade.Goals as goal

pub returns-in_default : goal.returns-in_default
returns-in_default c = search upgrading

pub overflow_add-len : goal.overflow_add-len
overflow_add-len c = search upgrading

pub returns-then-len-gt-LONGEST : goal.returns-then-len-gt-LONGEST
returns-then-len-gt-LONGEST c = search upgrading

pub invariant_of-old : goal.invariant_of-old
invariant_of-old c = record { short = search upgrading }

pub deliver-requires : goal.deliver-requires
deliver-requires c = search upgrading

pub returns : goal.returns
returns c = search upgrading
