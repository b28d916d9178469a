-- The slack as the code writes it, from the table of components and the table of nodes (`slack_rows_lem` of proofs/SlackLaws.antt: it is the
-- definition's).
use Rattle.std.specs.Prelude.{ℕ, List, [], cond}
use Rattle.inference.specs.Lists.{only, gather, rising}
use Rattle.inference.specs.Interface.{head_then, holds_any}
use Rattle.inference.specs.Rows.{is_set, cell, entry_at}
use Rattle.policy.specs.declared.Trees.{Trees}
use Rattle.fit.specs.Covers.{verdicts_for}
use Rattle.slack.specs.Slack.{on_group, sums_bytes}

-- the bytes of the entry of a component and a kind, none where there is no entry
unfoldable pub slack_at : List ℕ → List ℕ → Trees → List ℕ → List ℕ → ℕ → ℕ → List ℕ
slack_at c nodes trees table sums component kind =
    cond (is_set (cell table component kind 11))
    (cond (holds_any (entry_at table component kind))
    (head_then (entry_at table component kind) (sums_bytes (only on_group (verdicts_for c nodes trees table sums component kind)))) []) []

-- those of a component, and of all
unfoldable pub slack_row : List ℕ → List ℕ → Trees → List ℕ → List ℕ → ℕ → List ℕ
slack_row c nodes trees table sums component = gather (slack_at c nodes trees table sums component) (rising 0 16)

unfoldable pub slack_rows : List ℕ → List ℕ → Trees → List ℕ → List ℕ → ℕ → List ℕ
slack_rows c nodes trees table sums components = gather (slack_row c nodes trees table sums) (rising 0 components)
