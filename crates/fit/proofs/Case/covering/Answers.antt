-- In the rows of the kind's tree, where the verdicts are the covering.
use mathlib.Core.Path.{◌∙◌}
use Rattle.fit.proofs.CoverSteps.{span_is, covers_for}
use Rattle.fit.proofs.EntryLaws.{verdicts_for_lem}
use Rattle.fit.proofs.Case.covering.Goals as goal

pub returns-clause-covering_value : goal.returns-clause-covering_value
returns-clause-covering_value c policy held up required sum =
    covers_for _ _ _ _ _ _ _ _ _ (span_is _ _ _ _ c.tree_of.ensures.value c.unwrap_or-tree.ensures) c.cover.ensures.covering_is
    ∙ verdicts_for_lem _ _ _ policy held c.args.self.now.policy.bounded.few c.tree_of.ensures.whole _ _ _ _ up required sum

pub returns-clause-result_value : goal.returns-clause-result_value
returns-clause-result_value c = covers_for _ _ _ _ _ _ _ _ _ (span_is _ _ _ _ c.tree_of.ensures.value c.unwrap_or-tree.ensures) c.cover.ensures.covering_is
