-- Nothing at another form, or where the dialect states no purposes; else a byte.
use Rattle.encoding.proofs.CopySteps.{purpose_puts}
use Rattle.encoding.proofs.copying.put_purpose.Goals as goal
use Rattle.encoding.proofs.copying.put_purpose.Goals.{then-code-ne4-via-then-code-ne4, then-code-ne4-via-else-code-ne4+then-purposes-eq0}

pub returns-then-code-ne4 : goal.returns-then-code-ne4
returns-then-code-ne4 c = elim c.then-code-ne4.branch [
  | then-code-ne4-via-then-code-ne4 w ↦ search purpose_puts
  | then-code-ne4-via-else-code-ne4+then-purposes-eq0 w ↦ search purpose_puts
]

pub bounds-out-at : goal.bounds-out-at
bounds-out-at c = search purpose_puts

pub returns : goal.returns
returns c = search purpose_puts
