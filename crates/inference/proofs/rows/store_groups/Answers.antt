-- The groups of a path are stored from the least up.
use Prim.Native.Nat.{◌<◌}
use mathlib.Core.Path.{refl}
use native.Mathlib.Omega.{arith}
use borrow.Author.Rules.{rules}
use Rattle.inference.proofs.GroupRows.{rise_first, rise_more, rise_last, group_low, next_from, no_group}
use Rattle.inference.proofs.rows.store_groups.Goals as goal

pub loop-group-init : goal.loop-group-init
loop-group-init c = record { low = search rules; rising = rise_first _ _ _ _ (search rules) }

pub overflow_add-from : goal.overflow_add-from
overflow_add-from c = let h : c.in-Some.group < 64 = group_low _ _ c.in-Some.ensures in search rules

pub loop-group-smaller : goal.loop-group-smaller
loop-group-smaller c = omega (arith, group_low _ _ c.in-Some.ensures, next_from _ _ _ c.in-Some.ensures c.loop-group.invariant.low)

pub loop-group-preserved : goal.loop-group-preserved
loop-group-preserved c = record {
  low = omega (arith, group_low _ _ c.in-Some.ensures);
  rising = rise_more _ _ _ _ _ _ c.loop-group.invariant.rising _ _ c.in-Some.ensures c.put.ensures;
}

pub returns : goal.returns
returns c = rise_last _ _ _ _ _ _ c.loop-group.invariant.rising _ _ refl (no_group _ c.in_default.ensures) c.put-2.ensures
