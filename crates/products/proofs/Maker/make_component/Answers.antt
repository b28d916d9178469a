-- A component makes what its process makes; it is one more.
use Rattle.products.proofs.SystemSteps.{system_steps}
use Rattle.products.proofs.Maker.make_component.Goals as goal

pub returns-clause-makes : goal.returns-clause-makes
returns-clause-makes c = search system_steps
