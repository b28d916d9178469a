-- `all` over the rows is the definition's test of each.
use Prim.Native.Nat.{ℕ}
use mathlib.Core.Path.{◌∙◌, ap}
use mathlib.Core.List.{List}
use lib.Dec.{ltb}
use Rattle.std.proofs.Common.{rules, tests}
use Rattle.std.proofs.lemmas.Iterator.{YieldsList-from_slice}
use Rattle.std.proofs.lemmas.Iterator.Search.{all_from_yields_List}
use Rattle.inference.specs.Lists.{every}
use Rattle.fit.proofs.GrantSteps.{all_every}
use Rattle.fit.proofs.Givers.all_given.Goals as goal

pub returns : goal.returns
returns c =
    all_from_yields_List (λ row. ltb row 64) _ _ _ c.all.ensures.ran (YieldsList-from_slice c.rows.result.now cc) (λ x b q k. search (rules, tests))
    ∙ all_every (λ row. ltb row 64) c.rows.result.now ∙ ap (λ (l : List ℕ). every (λ row. ltb row 64) l) c.rows.ensures.value
