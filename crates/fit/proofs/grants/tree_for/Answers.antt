-- The first kind that is asked for tells the tree.
use Prim.Native.Nat.{ℕ}
use lib.Dec.{eqb}
use lib.ListN.{take}
use Rattle.std.proofs.Common.{rules, tests}
use Rattle.std.proofs.lemmas.Iterator.{YieldsList-from_slice}
use Rattle.std.proofs.lemmas.Iterator.Search.{position_from_yields_List}
use Rattle.fit.proofs.GrantSteps.{tree_or_len}
use Rattle.fit.proofs.grants.tree_for.Goals as goal

pub returns : goal.returns
returns c = tree_or_len c.args.trees c.args.kind c.requires (search rules) c.position.result c.unwrap_or.result
    (position_from_yields_List (λ (k : ℕ). eqb k c.args.kind) _ _ _ c.position.ensures.ran (YieldsList-from_slice (take c.args.trees.len c.args.trees.kinds) cc) (λ x b q k. search (rules, tests)))
    c.unwrap_or.ensures
