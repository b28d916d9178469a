-- A sheet that does not read is refused, then one with another purpose than 0; any other is moved.
use Rattle.moving.proofs.MoveSteps.{downgrading}
use Rattle.moving.proofs.downgrade.Goals as goal

pub returns-in_default : goal.returns-in_default
returns-in_default c = search downgrading

pub invariant_of-current : goal.invariant_of-current
invariant_of-current c = record { short = search downgrading }

pub returns-then-not-all_zero : goal.returns-then-not-all_zero
returns-then-not-all_zero c = search downgrading

pub overflow_sub-len : goal.overflow_sub-len
overflow_sub-len c = search downgrading

pub deliver-requires : goal.deliver-requires
deliver-requires c = search downgrading

pub returns : goal.returns
returns c = search downgrading
