-- The names given so far, with those still to be read, are those that there are in all.
use Rattle.products.proofs.StartSteps.{start_steps}
use borrow.Author.Rules.{rules}
use Rattle.products.proofs.Maker.give_types.Goals as goal

pub loop-given-init : goal.loop-given-init
loop-given-init c = record { kept = search rules; giving = search start_steps }

pub returns-in_default-clause-given : goal.returns-in_default-clause-given
returns-in_default-clause-given c = search start_steps

pub give-sizes-requires : goal.give-sizes-requires
give-sizes-requires c = search start_steps

pub loop-given-preserved : goal.loop-given-preserved
loop-given-preserved c = record { kept = search rules; giving = search start_steps }
