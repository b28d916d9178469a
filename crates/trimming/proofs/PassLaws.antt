-- A sheet and a policy that pass every question pass with the policy lowered by at most the slack: questions 1 to 10 do not see the policy, and
-- the others are answered as before.
use Prim.Native.Nat.{ℕ}
use mathlib.Core.Bool.{true}
use mathlib.Core.List.{List}
use mathlib.Core.Path.{◌≡◌, ◌∙◌}
use Rattle.reading.proofs.TreeLaws.{sheet_parts}
use Rattle.inference.specs.Counts.{fin, at_most}
use Rattle.inference.specs.Interface.{required_of, interface}
use Rattle.interface.proofs.StoreLaws.{sheet_storable}
use Rattle.fit.specs.Satisfies.{has_tree, path_reached}
use Rattle.inference.proofs.EveryLaws.{every_same}
use Rattle.service.specs.Questions.{Accepted}
use Rattle.service.proofs.PassedLaws.{Passed}
use Rattle.trimming.specs.Trim.{lower, least_slack}
use Rattle.trimming.proofs.FormedLaws.{formed_lowered}
use Rattle.trimming.proofs.GrantedLaws.{tree_kept, path_kept}
use Rattle.trimming.proofs.EntryLaws.{entries_kept}
use Rattle.trimming.proofs.PathLaws.{entries_once}

pub passed_lowered : (s c : List ℕ) (a : Accepted) (kind g h by : ℕ)
    → at_most (fin by) (least_slack a.policy (required_of a.sheet) kind g h (interface a.sheet)) ≡ true
    → Passed s c a → Passed s c (record { sheet = a.sheet; policy = lower kind g h by a.policy })
unfolding required_of interface
passed_lowered s c a kind g h by slack p = record {
  place = p.place;
  reads = p.reads;
  acts = p.acts;
  formed = formed_lowered g h by kind a.policy p.formed;
  satisfies = record {
    trees = every_same (has_tree (lower kind g h by a.policy)) (has_tree a.policy) (interface a.sheet) (tree_kept g h by kind a.policy) ∙ p.satisfies.trees;
    paths = every_same (path_reached (lower kind g h by a.policy)) (path_reached a.policy) (interface a.sheet) (path_kept g h by kind a.policy) ∙ p.satisfies.paths;
    covers =
        entries_kept kind g h by a.policy (required_of a.sheet) (interface a.sheet)
        (entries_once (sheet_storable s c a.sheet p.place (sheet_parts s c p.reads))) slack p.satisfies.covers;
  };
}
