-- `groups_then_kind` reads a type's groups, one a turn, and then its kind: each answer is a lemma of TypeSteps.antt.
use Rattle.reading.proofs.TypeSteps.{groups_left}
use Rattle.reading.proofs.types.groups_then_kind.Goals as goal

pub loop-init : goal.loop-init
loop-init c = search groups_left

pub returns-in_default : goal.returns-in_default
returns-in_default c = search groups_left

pub overflow_add-sum : goal.overflow_add-sum
overflow_add-sum c = search groups_left

pub loop-preserved : goal.loop-preserved
loop-preserved c = search groups_left

pub returns-in_default-read : goal.returns-in_default-read
returns-in_default-read c = search groups_left
