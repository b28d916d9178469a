-- An act: what it needs is counted, and the question that it fails is noted.
use mathlib.Core.Path.{refl, sym, ◌∙◌}
use Rattle.inference.proofs.WalkLaws.{sooner_none}
use Rattle.inference.proofs.Walker.act.Goals as goal

pub returns-in-Some : goal.returns-in-Some
returns-in-Some c = record {
  first = rw c.in-Some.ensures at c.fail.ensures.first;
  counted = c.fail.ensures.counted ∙ (rw c.need_on-need.ensures at c.charge_need.ensures);
  kept = c.fail.ensures.kept;
  number = c.fail.ensures.number;
  same = c.fail.ensures.same;
  lent = c.fail.ensures.lent;
}

pub returns-in_default : goal.returns-in_default
returns-in_default c = record {
  first = rw (← c.in_default.ensures) (sym (sooner_none _));
  counted = rw c.need_on-need.ensures at c.charge_need.ensures;
  kept = refl;
  number = refl;
  same = refl;
  lent = refl;
}
