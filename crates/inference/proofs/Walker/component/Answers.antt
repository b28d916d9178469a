-- A component: its purpose and its path are stored, then its process is walked, so the table has them and then its acts.
use borrow.Author.Rules.{rules}
use mathlib.Core.Path.{refl}
use Rattle.inference.proofs.SystemSteps.{component_found}
use Rattle.inference.proofs.Walker.component.Goals as goal

pub returns : goal.returns
returns c = component_found c.args.self.now _ _ _ _ _ _ _ _ _ c.process.ensures (search rules) (search rules) c.with-whole.ensures
    c.store_purpose.ensures c.store_path.ensures refl refl refl refl refl
