-- Questions 12 to 15 of a whole policy, as the code asks them.
use Rattle.std.specs.Prelude.{ℕ, List, cond, eqb, Option, None, Some}
use Rattle.policy.specs.Syntax.{Tree}
use Rattle.policy.specs.WellFormed.{kinds_distinct, nodes_fault, fenced}

-- A fault that is told by its number, and by 0 where there is none.
unfoldable pub failed : ℕ → Option ℕ
failed fault = cond (eqb fault 0) None (Some fault)

-- The first of questions 12 to 15 that a policy fails, or 16.
unfoldable pub policy_fault : List Tree → ℕ
policy_fault policy =
    cond (kinds_distinct policy) (cond (eqb (nodes_fault policy) 0) (cond (fenced policy) 16 15) (nodes_fault policy)) 12
