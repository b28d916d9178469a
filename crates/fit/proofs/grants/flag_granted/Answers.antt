-- `any` over the rows is the definition's test of each, whatever bytes the lists are read in.
use Prim.Native.Nat.{ℕ}
use mathlib.Core.Path.{◌∙◌, ap}
use mathlib.Core.List.{List}
use Rattle.std.proofs.Common.{rules, tests}
use Rattle.std.proofs.lemmas.Iterator.{YieldsList-from_slice}
use Rattle.std.proofs.lemmas.Iterator.Search.{any_from_yields_List}
use Rattle.inference.specs.Lists.{any}
use Rattle.policy.specs.Syntax.{has_bit}
use Rattle.fit.specs.Givers.{given_at}
use Rattle.fit.proofs.GrantSteps.{any_any}
use Rattle.fit.proofs.grants.flag_granted.Goals as goal

pub returns : goal.returns
returns c bytes =
    let test = λ (row : ℕ). has_bit c.args.value (given_at bytes c.args.nodes.now row).map in
    any_from_yields_List test _ _ _ c.any.ensures.ran (YieldsList-from_slice c.rows-rows.result.now cc) (λ x b q k. search (rules, tests))
    ∙ any_any test c.rows-rows.result.now ∙ ap (λ (l : List ℕ). any test l) c.rows-rows.ensures.value
