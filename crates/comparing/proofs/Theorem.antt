-- The guarantee of Q-8: "Whatever sheet A accepts, B accepts; among charters of that length that pass 11 to 15 the relation is reflexive and
-- carries through a third."
--
-- `no_looser` is the definition that the contract of the service cites; `judged` the one that the contracts of `check` and `play` cite for
-- questions 1 to 18, and `checked` and `played` those that they cite whole.
use Prim.Native.Nat.{ℕ}
use mathlib.Core.Bool.{true}
use mathlib.Core.List.{List}
use mathlib.Core.Path.{◌≡◌, refl, sym, ◌∙◌}
use native.Mathlib.Omega.{arith}
use borrow.Author.Tests.{le-leb}
use lib.ListN.{length}
use Rattle.reading.specs.Read.{got}
use Rattle.reading.specs.System.{sheet_of_in, sheet_of}
use Rattle.reading.proofs.TreeLaws.{sheet_parts}
use Rattle.inference.specs.Interface.{required_of}
use Rattle.interface.proofs.ByteLaws.{Small, interface_small}
use Rattle.policy.specs.Syntax.{Tree}
use Rattle.service.specs.Questions.{Asked, passed, failed, Accepted, judged}
use Rattle.service.specs.Check.{interface_for, checked}
use Rattle.interface.proofs.Alls.{All}
use Rattle.service.proofs.PassedLaws.{Passed, Satisfied, judged_passed, passed_policy, passes_judged}
use Rattle.running.specs.Play.{opened_from, opened, played}
use Rattle.comparing.specs.NoLooser.{trees_no_looser, policy_of, compared, no_looser}
use Rattle.comparing.proofs.PolicyLaws.{Passing, policy_read}
use Rattle.comparing.proofs.OrderLaws.{trees_self, trees_through}
use Rattle.comparing.proofs.PassLaws.{satisfied_kept}

-- What a "yes" says: both charters pass, and the policy of the first is no looser.
pub record Compared (a b : List ℕ) : Type 0 where
  pub first : List Tree
  pub second : List Tree
  pub first_passes : policy_of a ≡ passed first
  pub second_passes : policy_of b ≡ passed second
  pub trees : trees_no_looser first second ≡ true

pub yes_says : (a b : List ℕ) → no_looser a b ≡ true → Compared a b
unfolding no_looser compared
yes_says a b e = go (policy_of a) refl (policy_of b) refl e
  where
    go : (x : Asked (List Tree)) → policy_of a ≡ x → (y : Asked (List Tree)) → policy_of b ≡ y → compared x y ≡ true → Compared a b
    go (passed p) f (passed q) g h = record { first = p; second = q; first_passes = f; second_passes = g; trees = h }
    go (passed p) f (failed n) g h = let z : ◌≡◌ {A = ℕ} 0 1 = cc in absurd (omega arith)
    go (failed m) f y g h = let z : ◌≡◌ {A = ℕ} 0 1 = cc in absurd (omega arith)

pub says_yes : (a b : List ℕ) → Compared a b → no_looser a b ≡ true
unfolding no_looser compared
says_yes a b c = rw (c.first_passes, c.second_passes) c.trees

-- "the relation is reflexive": every charter of at most 4,096 bytes that passes 11 to 15.
pub no_looser_self : (c : List ℕ) (policy : List Tree) → policy_of c ≡ passed policy → no_looser c c ≡ true
no_looser_self c policy e =
    says_yes c c (record { first = policy; second = policy; first_passes = e; second_passes = e; trees = trees_self policy (policy_read c policy e).formed.kinds })

-- "and carries through a third"
pub no_looser_through : (a b c : List ℕ) → no_looser a b ≡ true → no_looser b c ≡ true → no_looser a c ≡ true
no_looser_through a b c e f =
    let k = yes_says a b e in
    let l = yes_says b c f in
    let z : passed k.second ≡ passed l.first = sym k.second_passes ∙ l.first_passes in
    let y : k.second ≡ l.first = cc in
    says_yes a c (record {
      first = k.first;
      second = l.second;
      first_passes = k.first_passes;
      second_passes = l.second_passes;
      trees = trees_through k.first k.second l.second k.trees (rw y l.trees);
    })

-- A sheet that was accepted, under another charter.
pub record StillAccepted (s c : List ℕ) (x : Accepted) : Type 0 where
  pub policy : List Tree
  pub passes : judged s c ≡ passed (record { sheet = x.sheet; policy = policy })

-- Question 1 is answered alike under charters of at most 4,096 bytes.
same_sheet : (s a b : List ℕ) (p q : List Tree) → Passing a p → Passing b q → sheet_of s a ≡ sheet_of s b
unfolding sheet_of_in
same_sheet s a b p q k l = rw (le-leb (length a) 4096 k.short, le-leb (length b) 4096 l.short)

-- "Whatever sheet A accepts, B accepts"
pub stricter_accepts : (s a b : List ℕ) (x : Accepted) → no_looser a b ≡ true → judged s a ≡ passed x → StillAccepted s b x
stricter_accepts s a b x e h = record {
  policy = k.second;
  passes = unfold judged in rw second.reads (passes_judged s b _ second.end (record {
    place = was.place;
    reads = sym (same_sheet s a b k.first k.second first second) ∙ was.reads;
    acts = was.acts;
    formed = second.formed;
    satisfies = satisfied_kept k.first k.second k.trees (required_of x.sheet) small satisfies;
  }));
}
  where
    k : Compared a b
    k = yes_says a b e

    first : Passing a k.first
    first = policy_read a k.first k.first_passes

    second : Passing b k.second
    second = policy_read b k.second k.second_passes

    was : Passed s a x
    was = judged_passed s a x h

    one_policy : x.policy ≡ k.first
    one_policy =
        let r = passed_policy s a x h in
        let z : got x.policy r.place ≡ got k.first first.end = sym r.reads ∙ first.reads in
        cc

    satisfies : Satisfied k.first (required_of x.sheet)
    satisfies = rw one_policy at was.satisfies

    small : All Small (required_of x.sheet).entries
    small = unfold required_of in interface_small s a x.sheet was.place (sheet_parts s a was.reads)

-- So `check` answers of it under B as under A, and writes the same into the output, whatever is lent.
pub stricter_checks : (s a b output : List ℕ) (x : Accepted) → no_looser a b ≡ true → judged s a ≡ passed x → checked s b output ≡ checked s a output
unfolding checked interface_for
stricter_checks s a b output x e h = rw ((stricter_accepts s a b x e h).passes, h)

-- And `play` runs it under B as under A, whatever the script: the same answer, the same log.
pub stricter_plays : (s a b script log : List ℕ) (x : Accepted) → no_looser a b ≡ true → judged s a ≡ passed x → played s b script log ≡ played s a script log
unfolding played opened opened_from
stricter_plays s a b script log x e h = rw ((stricter_accepts s a b x e h).passes, h)
