-- Questions 16 to 18 under a policy that the accepting one is no looser than, entry by entry.
use Prim.Native.Nat.{◌<◌}
use mathlib.Core.Bool.{true}
use mathlib.Core.List.{List, [], ◌∷◌, map}
use mathlib.Core.Path.{◌≡◌, refl}
use Rattle.reading.proofs.FormLaws.{both_true}
use Rattle.inference.specs.Lists.{every}
use Rattle.inference.specs.Interface.{Entry, Permission, reading, writing, accessing, disclosing, permissions, Required, needed}
use Rattle.inference.proofs.CountLaws.{at_most_trans}
use Rattle.interface.proofs.Alls.{All, done, also}
use Rattle.interface.proofs.ByteLaws.{Small}
use Rattle.policy.specs.Syntax.{Tree}
use Rattle.fit.specs.Grants.{count_granted}
use Rattle.fit.specs.Satisfies.{has_tree, path_reached, verdict_of, covering, holds, covered}
use Rattle.service.proofs.PassedLaws.{Satisfied}
use Rattle.comparing.specs.NoLooser.{trees_no_looser}
use Rattle.comparing.proofs.BitLaws.{flag_read, flag_write, flag_access}
use Rattle.running.proofs.Alls.{and_both}
use Rattle.comparing.proofs.GrantLaws.{tree_kept, path_kept, flag_kept, count_kept}

module _ (a b : List Tree) (e : trees_no_looser a b ≡ true) (required : Required) where
  -- 18 of one entry, permission by permission.
  module _ (entry : Entry) (low : entry.component.purpose < 16) (there : has_tree a entry ≡ true) where
    verdict_kept : (p : Permission) → holds (verdict_of a required entry p) ≡ true → holds (verdict_of b required entry p) ≡ true
    unfolding verdict_of holds has_tree
    verdict_kept reading t = flag_kept a b e entry.kind there flag_read entry.component low t
    verdict_kept writing t = flag_kept a b e entry.kind there flag_write entry.component low t
    verdict_kept accessing t = flag_kept a b e entry.kind there flag_access entry.component low t
    verdict_kept (disclosing h) t =
        at_most_trans (needed required entry h) (count_granted h a entry.kind entry.component) (count_granted h b entry.kind entry.component) t
        (count_kept a b e entry.kind there h entry.component low)

    verdicts_kept : (ps : List Permission) → every holds (map (verdict_of a required entry) ps) ≡ true → every holds (map (verdict_of b required entry) ps) ≡ true
    unfolding every
    verdicts_kept [] t = refl
    verdicts_kept (p ∷ ps) t =
        let o = both_true (holds (verdict_of a required entry p)) (every holds (map (verdict_of a required entry) ps)) t in
        and_both _ _ (verdict_kept p o.0) (verdicts_kept ps o.1)

    entry_kept : covered a required entry ≡ true → covered b required entry ≡ true
    unfolding covered covering
    entry_kept t = verdicts_kept (permissions entry) t

  -- Each question of all entries.
  trees_kept : (es : List Entry) → every (has_tree a) es ≡ true → every (has_tree b) es ≡ true
  unfolding every
  trees_kept [] t = refl
  trees_kept (x ∷ es) t = let o = both_true (has_tree a x) (every (has_tree a) es) t in and_both _ _ (tree_kept a b e x o.0) (trees_kept es o.1)

  paths_kept : (es : List Entry) → every (has_tree a) es ≡ true → every (path_reached a) es ≡ true → every (path_reached b) es ≡ true
  unfolding every
  paths_kept [] t p = refl
  paths_kept (x ∷ es) t p =
      let o = both_true (has_tree a x) (every (has_tree a) es) t in
      let q = both_true (path_reached a x) (every (path_reached a) es) p in
      and_both _ _ (path_kept a b e x o.0 q.0) (paths_kept es o.1 q.1)

  entries_kept : {es : List Entry} → All Small es → every (has_tree a) es ≡ true → every (covered a required) es ≡ true → every (covered b required) es ≡ true
  unfolding every
  entries_kept done t c = refl
  entries_kept (also {x = x} {xs = es} s more) t c =
      let o = both_true (has_tree a x) (every (has_tree a) es) t in
      let q = both_true (covered a required x) (every (covered a required) es) c in
      and_both _ _ (entry_kept x s.purpose o.0 q.0) (entries_kept more o.1 q.1)

  pub satisfied_kept : All Small required.entries → Satisfied a required → Satisfied b required
  satisfied_kept small s = record {
    trees = trees_kept required.entries s.trees;
    paths = paths_kept required.entries s.trees s.paths;
    covers = entries_kept small s.trees s.covers;
  }
