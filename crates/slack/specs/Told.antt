-- What the calls of the service promise.
use Rattle.std.specs.Prelude.{◌≡◌, List, ℕ, ◌<◌, Result}
use Rattle.reading.specs.declared.Question.{Question}
use Rattle.inference.specs.Rows.{Orderly, table_required}
use Rattle.sharing.specs.Sums.{Summed}
use Rattle.policy.specs.declared.Trees.{Trees}
use Rattle.service.specs.Told.{told, Delivered}
use Rattle.slack.specs.Slack.{slack_told}
use Rattle.slack.specs.Rows.{slack_rows}

-- What `slack` promises: its answer and the final bytes of the lent output are those of the definition.
pub record Tells (sheet charter output output' : List ℕ) (r : Result ℕ Question) : Type 0 where
  pub answer : told r ≡ (slack_told sheet charter output).answer
  pub lent : output' ≡ (slack_told sheet charter output).lent

-- What is delivered from the tables, by sums that tell what the classes need, where the rows are in order.
pub data DeliveredSlack (c nodes : List ℕ) (trees : Trees) (table : List ℕ) (components : ℕ) (output output' : List ℕ) (r : Result ℕ Question) : Type 0 where
  by_sums : (sums : List ℕ)
      → (((n : ℕ) → n < components → Orderly table n) → (n k : ℕ) → n < components → k < 16 → Summed table sums (table_required table components) n k)
      → Delivered (slack_rows c nodes trees table sums components) output output' r → DeliveredSlack c nodes trees table components output output' r
