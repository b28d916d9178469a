-- The groups of a row become the digits of its key, from the last group to the first.
use Rattle.std.proofs.Common.{◌≡◌, ◌+◌, ◌-◌, refl, arith}
use Rattle.sharing.proofs.SumSteps.{key_first, key_next}
use Rattle.sharing.proofs.groups_key.Goals as goal

pub loop-taken-init : goal.loop-taken-init
loop-taken-init c =
    let all : c.group_count-count.result - 0 ≡ c.group_count-count.result = omega arith in
    rw all (key_first _ _ _ c.group_count-count.ensures.few)

pub loop-taken-preserved : goal.loop-taken-preserved
loop-taken-preserved c =
    let place : c.group_count-count.result - (c.loop-taken.taken + 1) ≡ c.group_count-count.result - c.loop-taken.taken - 1 = omega arith in
    let taken : c.group_count-count.result - 1 - c.loop-taken.taken ≡ c.group_count-count.result - c.loop-taken.taken - 1 = omega arith in
    rw place (key_next _ _ _ _ _ c.loop-taken.invariant _ _ (omega arith) (rw taken at c.group_at.ensures) refl)
