-- The types of the names given so far, followed by those still to be read, are those that there are in all.
use Rattle.products.specs.Makers.{Kept}
use Rattle.products.proofs.StartSteps.{Giving}
use Rattle.products.proofs.Maker.give_types.Given as goal

abbrev pub invariant-loop-given : goal.invariant-loop-given
invariant-loop-given l = record {
  kept : Kept l.fn.self l.self;
  giving : Giving l.count l.s l.at l.fn.self.types.now l.fn.self.cells.now l.next l.given l.self.types.now l.self.cells.now l.sizes;
}
