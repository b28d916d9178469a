-- Question 18 of a lowered policy: a verdict on a flag is the same; a verdict on counts is the same where the kind, the path or the group
-- disclosed to is another, and else what is taken away is at most the slack.
use Prim.Native.Nat.{ℕ}
use mathlib.Core.Bool.{Bool, true, false, cond, ◌&&◌}
use mathlib.Core.List.{List, [], ◌∷◌, map}
use mathlib.Core.Path.{◌≡◌, refl, ◌∙◌}
use native.Mathlib.Omega.{arith}
use lib.Dec.{eqb}
use borrow.Author.Tests.{eqb-true}
use Rattle.reading.specs.Forms.{member}
use Rattle.reading.proofs.FormLaws.{both_true}
use Rattle.inference.specs.Counts.{Count, fin, at_most}
use Rattle.inference.specs.Interface.{Entry, Permission, reading, writing, accessing, disclosing, permissions, Required, needed}
use Rattle.inference.specs.Lists.{every, only}
use Rattle.policy.specs.Syntax.{Tree}
use Rattle.policy.specs.WellFormed.{distinct}
use Rattle.fit.specs.Grants.{count_granted}
use Rattle.fit.specs.Satisfies.{verdict_of, covering, holds, covered}
use Rattle.trimming.specs.Trim.{lower, left_over, least, slack_of, slack_in, draws_on, least_slack}
use Rattle.trimming.proofs.TestLaws.{and_both}
use Rattle.trimming.proofs.LowerLaws.{low_1, low_2, low_4}
use Rattle.trimming.proofs.GrantedLaws.{flag_kept, count_kept, count_lowered}
use Rattle.trimming.proofs.SlackLaws.{lesser_first, lesser_second, still_covers}

module _ (kind g h by : ℕ) (policy : List Tree) (required : Required) where
  module _ (e : Entry) (once : distinct e.component.path ≡ true) where
    verdict_kept : (p : Permission) → (draws_on kind g e ≡ true → at_most (fin by) (slack_of h (verdict_of policy required e p)) ≡ true)
        → holds (verdict_of policy required e p) ≡ true → holds (verdict_of (lower kind g h by policy) required e p) ≡ true
    unfolding verdict_of holds slack_of draws_on
    verdict_kept reading slack t = flag_kept g h by kind policy 1 low_1 e.kind e.component ∙ t
    verdict_kept writing slack t = flag_kept g h by kind policy 2 low_2 e.kind e.component ∙ t
    verdict_kept accessing slack t = flag_kept g h by kind policy 4 low_4 e.kind e.component ∙ t
    verdict_kept (disclosing i) slack t = go (eqb e.kind kind && (member g e.component.path && eqb i h)) refl
      where
        go : (b : Bool) → (eqb e.kind kind && (member g e.component.path && eqb i h)) ≡ b
            → at_most (needed required e i) (count_granted i (lower kind g h by policy) e.kind e.component) ≡ true
        go true q =
            let k = both_true (eqb e.kind kind) (member g e.component.path && eqb i h) q in
            let m = both_true (member g e.component.path) (eqb i h) k.1 in
            let z : i ≡ h = eqb-true i h m.1 in
            let s : at_most (fin by) (left_over (needed required e i) (count_granted i policy e.kind e.component)) ≡ true
            = rw m.1 at (slack (and_both _ _ k.0 m.0)) in
            still_covers (needed required e i) (count_granted i policy e.kind e.component) (count_granted i (lower kind g h by policy) e.kind e.component) by t s
            (rw z (count_lowered g h by kind policy e.kind e.component k.0 once))
        go false q = rw (count_kept g h by kind policy i e.kind e.component q) t

    verdicts_kept : (ps : List Permission) → (draws_on kind g e ≡ true → at_most (fin by) (slack_in h (map (verdict_of policy required e) ps)) ≡ true)
        → every holds (map (verdict_of policy required e) ps) ≡ true → every holds (map (verdict_of (lower kind g h by policy) required e) ps) ≡ true
    unfolding every slack_in least
    verdicts_kept [] slack t = refl
    verdicts_kept (p ∷ ps) slack t =
        let o = both_true (holds (verdict_of policy required e p)) (every holds (map (verdict_of policy required e) ps)) t in
        rw (
          verdict_kept p (λ d. lesser_first (fin by) (slack_of h (verdict_of policy required e p)) _ (slack d)) o.0,
          verdicts_kept ps (λ d. lesser_second (fin by) (slack_of h (verdict_of policy required e p)) _ (slack d)) o.1,
        )

    covered_kept : (draws_on kind g e ≡ true → at_most (fin by) (slack_in h (covering policy required e)) ≡ true) → covered policy required e ≡ true
        → covered (lower kind g h by policy) required e ≡ true
    unfolding covered covering
    covered_kept slack t = verdicts_kept (permissions e) slack t

  abbrev slack_at : Entry → Count
  slack_at e = slack_in h (covering policy required e)

  pub entries_kept : (es : List Entry) → every (λ e. distinct e.component.path) es ≡ true → at_most (fin by) (least_slack policy required kind g h es) ≡ true
      → every (covered policy required) es ≡ true → every (covered (lower kind g h by policy) required) es ≡ true
  unfolding every least_slack least only
  entries_kept [] once slack t = refl
  entries_kept (e ∷ es) once slack t =
      let o = both_true (distinct e.component.path) (every (λ x. distinct x.component.path) es) once in
      let c = both_true (covered policy required e) (every (covered policy required) es) t in
      let s = parts (draws_on kind g e) slack in
      rw (covered_kept e o.0 s.0 c.0, entries_kept es o.1 s.1 c.1)
    where
      parts : (b : Bool) → at_most (fin by) (least slack_at (cond b (e ∷ only (draws_on kind g) es) (only (draws_on kind g) es))) ≡ true
          → (b ≡ true → at_most (fin by) (slack_at e) ≡ true) × (at_most (fin by) (least slack_at (only (draws_on kind g) es)) ≡ true)
      parts true k = ((λ d. lesser_first (fin by) (slack_at e) _ k), lesser_second (fin by) (slack_at e) _ k)
      parts false k = ((λ d. let z : ◌≡◌ {A = ℕ} 0 1 = cc in absurd (omega arith)), k)
