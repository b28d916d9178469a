-- The place of the kind among the trees' kinds tells its tree.
use Rattle.fit.proofs.GrantSteps.{tree_found}
use Rattle.fit.proofs.grants.tree_of.Goals as goal

pub returns-then-t-trees-clause-value : goal.returns-then-t-trees-clause-value
returns-then-t-trees-clause-value c = tree_found _ _ _ c.tree_for-t.ensures c.if-t-trees.true _ c.span_of.ensures.0 c.span_of.ensures.1
