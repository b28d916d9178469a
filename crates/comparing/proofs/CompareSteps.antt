-- The service: what each return has to show.
use Prim.Native.Nat.{ℕ}
use mathlib.Core.Bool.{Bool, false}
use mathlib.Core.List.{List}
use mathlib.Core.Path.{◌≡◌, refl, sym, ap, ◌∙◌}
use borrow.Author.Rules.{rules}
use native.Mathlib.Omega.{arith}
use Rattle.std.specs.Prelude.{Option, None, Some}
use Rattle.reading.proofs.Parts.{Every}
use Rattle.policy.specs.Syntax.{Tree}
use Rattle.policy.specs.Loads.{AllHeld, Bounded}
use Rattle.policy.proofs.CountLaws.{ListFits, AllLists, policy_fits}
use Rattle.comparing.specs.NoLooser.{policy_of, compared, no_looser}
use Rattle.comparing.specs.Rows.{trees_within}
use Rattle.comparing.specs.Told.{LoadedAs, passes, fails}
use Rattle.policy.specs.declared.Trees.{Trees}
use Rattle.comparing.proofs.PolicyLaws.{policy_read}
use Rattle.comparing.proofs.RowLaws.{trees_are}
use Rattle.service.specs.Questions.{Asked, passed, failed}

-- The lists of a policy that passes fit.
lists_fit : (c : List ℕ) (policy : List Tree) → policy_of c ≡ passed policy → AllLists (ListFits 0) policy
unfolding Every
lists_fit c policy e = rw (policy_read c policy e).reads at (policy_fits c)

no_first : (x : Asked (List Tree)) (n : ℕ) → compared (failed n) x ≡ false
unfolding compared
no_first x n = refl

no_second : (x : Asked (List Tree)) (n : ℕ) → compared x (failed n) ≡ false
unfolding compared
no_second (passed a) n = refl
no_second (failed m) n = refl

module _ (a nodes : List ℕ) (r : Option Trees) (l : LoadedAs a nodes r) where
  pub first_fails : (b : List ℕ) → r ≡ None → false ≡ no_looser a b
  first_fails b y = go l
    where
      go : LoadedAs a nodes r → false ≡ no_looser a b
      go (passes {trees = t} e f k held) = let z : ◌≡◌ {A = ℕ} 0 1 = cc in absurd (omega arith)
      go (fails {n = n} e f) = unfold no_looser in sym (ap (λ x. compared x (policy_of b)) e ∙ no_first (policy_of b) n)

  pub second_fails : (b : List ℕ) → r ≡ None → false ≡ no_looser b a
  second_fails b y = go l
    where
      go : LoadedAs a nodes r → false ≡ no_looser b a
      go (passes {trees = t} e f k held) = let z : ◌≡◌ {A = ℕ} 0 1 = cc in absurd (omega arith)
      go (fails {n = n} e f) = unfold no_looser in sym (ap (compared (policy_of b)) e ∙ no_second (policy_of b) n)

  module _ (trees : Trees) (is : r ≡ Some trees) where
    record Passed : Type 0 where
      policy : List Tree
      reads : policy_of a ≡ passed policy
      bounded : Bounded trees
      held : AllHeld a nodes trees 0 policy

    passed_as : Passed
    passed_as = go l
      where
        go : LoadedAs a nodes r → Passed
        go (passes {policy = p} {trees = t} e f k held) =
            let same : t ≡ trees = cc in record { policy = p; reads = e; bounded = rw same at k; held = rw same at held }
        go (fails e f) = let z : ◌≡◌ {A = ℕ} 0 1 = cc in absurd (omega arith)

    pub passes_bounded : Bounded trees
    passes_bounded = passed_as.bounded

module _ (a nodes : List ℕ) (r : Option Trees) (l : LoadedAs a nodes r) (trees : Trees) (is : r ≡ Some trees)
    (b others : List ℕ) (s : Option Trees) (m : LoadedAs b others s) (choice : Trees) (other : s ≡ Some choice) where
  pub trees_decide : (t : Bool) → ((p q : List Tree) → AllHeld a nodes trees 0 p → AllHeld b others choice 0 q → t ≡ trees_within p q) → t ≡ no_looser a b
  unfolding no_looser compared
  trees_decide t says =
      let p = passed_as a nodes r l trees is in
      let q = passed_as b others s m choice other in
      says p.policy q.policy p.held q.held ∙ trees_are (lists_fit a p.policy p.reads) (lists_fit b q.policy q.reads) ∙ sym (rw (p.reads, q.reads))

pub ruleset compare_steps = (rules, passes_bounded, first_fails, second_fails, trees_decide)
