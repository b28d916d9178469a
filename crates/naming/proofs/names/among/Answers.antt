-- `any` over the places is the definition's test of each name.
use Prim.Native.Nat.{ℕ}
use mathlib.Core.Path.{◌∙◌}
use Rattle.std.proofs.Common.{rules, tests}
use Rattle.std.proofs.lemmas.Iterator.{YieldsList-from_slice}
use Rattle.std.proofs.lemmas.Iterator.Search.{any_from_yields_List}
use Rattle.naming.specs.Names.{letters_at, same}
use Rattle.naming.proofs.NameSteps.{among_words}
use Rattle.naming.proofs.names.among.Goals as goal

pub returns : goal.returns
returns c =
    any_from_yields_List (λ (p : ℕ). same (letters_at 20 c.args.s.now c.args.at) (letters_at 20 c.args.s.now p)) _ _ _ c.any.ensures.ran (YieldsList-from_slice c.args.places.now cc) (λ x b q k. search (rules, tests))
    ∙ among_words c.args.s.now (letters_at 20 c.args.s.now c.args.at) c.args.places.now
