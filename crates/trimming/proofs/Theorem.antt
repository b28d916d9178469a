-- The slack is worth printing (document 02, Q-5): lower the count for a group h of one group g, at all its nodes of a kind's tree alike, by at most
-- the smallest slack told for h among the entries of that kind whose path has g, and the sheet is still accepted.
--
-- `judged` is the definition that the contracts of the services cite for questions 1 to 18; `judged_from` puts the same questions to what
-- was read of a sheet and of a charter, here the lowered policy (where a charter of it ends does not matter).
use Prim.Native.Nat.{ℕ}
use mathlib.Core.Bool.{true}
use mathlib.Core.List.{List}
use mathlib.Core.Path.{◌≡◌}
use Rattle.reading.specs.Read.{got}
use Rattle.reading.specs.System.{sheet_of}
use Rattle.inference.specs.Counts.{fin, at_most}
use Rattle.inference.specs.Interface.{required_of, interface}
use Rattle.service.specs.Questions.{Accepted, passed, judged_from, judged}
use Rattle.service.proofs.PassedLaws.{judged_passed, passes_judged}
use Rattle.trimming.specs.Trim.{lower, least_slack}
use Rattle.trimming.proofs.PassLaws.{passed_lowered}

pub trimmed_accepted : (s c : List ℕ) (a : Accepted) → judged s c ≡ passed a → (kind g h by : ℕ)
    → at_most (fin by) (least_slack a.policy (required_of a.sheet) kind g h (interface a.sheet)) ≡ true
    → (end : ℕ) → judged_from (sheet_of s c) (got (lower kind g h by a.policy) end) ≡ passed (record { sheet = a.sheet; policy = lower kind g h by a.policy })
trimmed_accepted s c a accepted kind g h by slack end =
    passes_judged s c (record { sheet = a.sheet; policy = lower kind g h by a.policy }) end
    (passed_lowered s c a kind g h by slack (judged_passed s c a accepted))
