-- States (document 01, "Running"): "A state is the threads in order, the type of each name given so far, and which names are known
-- outside."
use Rattle.std.specs.Prelude.{ℕ, List, Bool}
use Rattle.reading.specs.Syntax.{Process}
use Rattle.inference.specs.Acts.{Component}

-- "Each thread has its post and its remaining text: the form it stands at and all after it, run names put in for the binders
-- already passed." `process` is the remaining text, and the run names stand beside it, by level.
pub record Thread : Type 0 where
  pub component : Component
  pub names : List ℕ
  pub process : Process

pub record State : Type 0 where
  pub threads : List Thread
  pub types : List ℕ
  pub known : List Bool
