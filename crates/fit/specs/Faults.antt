-- Questions 16 to 18 as the code asks them: the first that an entry fails.
use Rattle.std.specs.Prelude.{ℕ, min, List, [], ◌∷◌, cond}
use Rattle.inference.specs.Interface.{Entry, holds_any, Required}
use Rattle.policy.specs.Syntax.{Tree}
use Rattle.fit.specs.Satisfies.{has_tree, path_reached, covered}

-- The first of questions 16 to 18 that an entry fails, or 19; an entry without a permission is none and fails none.
unfoldable pub entry_fault : List Tree → Required → Entry → ℕ
entry_fault policy required e =
    cond (holds_any e)
    (cond (has_tree policy e) (cond (path_reached policy e) (cond (covered policy required e) 19 18) 17) 16) 19

-- The first that any of some entries fails, or 19.
unfoldable pub entries_fault : List Tree → Required → List Entry → ℕ
entries_fault policy required [] = 19
entries_fault policy required (e ∷ rest) = min (entry_fault policy required e) (entries_fault policy required rest)
