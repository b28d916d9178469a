-- Questions 16 to 18: does the policy satisfy an interface?
use Rattle.std.specs.Prelude.{ℕ, List, map, Bool, true, false}
use Rattle.std.proofs.Math.Option.{Option, some, none}
use Rattle.reading.specs.Forms.{member}
use Rattle.inference.specs.Lists.{every}
use Rattle.inference.specs.Counts.{Count, at_most}
use Rattle.inference.specs.Interface.{Entry, Permission, reading, writing, accessing, disclosing, permissions, Required, needed}
use Rattle.policy.specs.Syntax.{Tree, Node}
use Rattle.policy.specs.WellFormed.{groups_at}
use Rattle.fit.specs.Grants.{tree_for, reached_for, flag_granted, count_granted}

unfoldable pub is_tree : Option Node → Bool
is_tree none = false
is_tree (some root) = true

-- 16: "a tree for each entry's kind?"
unfoldable pub has_tree : List Tree → Entry → Bool
has_tree policy e = is_tree (tree_for e.kind policy)

-- 17: "each group of each entry's path at a reached node?"
unfoldable pub path_reached : List Tree → Entry → Bool
path_reached policy e =
    every (λ g. member g (groups_at (reached_for policy e.kind e.component.path))) e.component.path

-- What the grant says to a permission of an entry (document 02, Q-5): whether a needed flag is granted; or, of a group disclosed to, "the
-- granted sum beside the needed one".
pub data Verdict : Type 0 where
  flag : Permission → Bool → Verdict
  counts : ℕ → Count → Count → Verdict

unfoldable pub verdict_of : List Tree → Required → Entry → Permission → Verdict
verdict_of policy required e reading = flag reading (flag_granted 1 policy e.kind e.component)
verdict_of policy required e writing = flag writing (flag_granted 2 policy e.kind e.component)
verdict_of policy required e accessing = flag accessing (flag_granted 4 policy e.kind e.component)
verdict_of policy required e (disclosing h) = counts h (needed required e h) (count_granted h policy e.kind e.component)

-- "The covering test now answers, in place of yes or no, which needed flags are granted and, for each disclosed group, the granted sum
-- beside the needed one": the verdicts on an entry's permissions, in their order.
unfoldable pub covering : List Tree → Required → Entry → List Verdict
covering policy required e = map (verdict_of policy required e) (permissions e)

-- "flags present, each count at most the granted sum or that unlimited"
unfoldable pub holds : Verdict → Bool
holds (flag p granted) = granted
holds (counts h needed granted) = at_most needed granted

-- One permission of an entry, against the grant.
unfoldable pub grants_one : List Tree → Required → Entry → Permission → Bool
grants_one policy required e p = holds (verdict_of policy required e p)

-- 18: "each entry covered by its grant", read off the covering.
unfoldable pub covered : List Tree → Required → Entry → Bool
covered policy required e = every holds (covering policy required e)
