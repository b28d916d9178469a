-- A name takes the next number and the next cell, where there are such.
use Rattle.products.proofs.GivingSteps.{giving_steps, full_up}
use borrow.Author.Rules.{rules}
use Rattle.std.proofs.Common.{refl}
use Rattle.products.proofs.Maker.give.Goals as goal

pub returns-then-name-ge-MAX_NAMES : goal.returns-then-name-ge-MAX_NAMES
returns-then-name-ge-MAX_NAMES c = record {
  kept = search rules;
  made = refl;
  gives = full_up _ _ _ _ _ _ refl c.then-name-ge-MAX_NAMES.either;
}

pub returns : goal.returns
returns c = record { kept = search rules; made = refl; gives = search giving_steps }
