-- What the calls of this crate promise beside their answers.
use Rattle.std.specs.Prelude.{ℕ, ◌≡◌, List, Option, None, Some}
use Rattle.policy.specs.Loads.{Bounded, AllHeld}
use Rattle.policy.specs.Syntax.{Tree}
use Rattle.policy.specs.declared.Trees.{Trees}
use Rattle.service.specs.Questions.{passed, failed}
use Rattle.comparing.specs.NoLooser.{policy_of}

-- A charter that passes, its trees in the table of nodes; or one that does not.
pub data LoadedAs (c nodes : List ℕ) (r : Option Trees) : Type 0 where
  passes : {policy : List Tree} {trees : Trees} → policy_of c ≡ passed policy → r ≡ Some trees → Bounded trees → AllHeld c nodes trees 0 policy → LoadedAs c nodes r
  fails : {n : ℕ} → policy_of c ≡ failed n → r ≡ None → LoadedAs c nodes r
