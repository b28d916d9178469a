-- A charter read into the table of nodes, and asked 11 to 15: what each return has to show.
use Prim.Native.Nat.{ℕ, ◌<◌, ◌≤◌}
use mathlib.Core.Bool.{Bool, true, false, cond}
use mathlib.Core.List.{List}
use mathlib.Core.Path.{◌≡◌, refl, sym, ◌∙◌}
use native.Mathlib.Omega.{arith}
use borrow.Author.Rules.{rules}
use borrow.Author.Tests.{le-leb, lt-leb}
use lib.Dec.{ltb}
use lib.ListN.{length}
use Rattle.std.specs.Prelude.{Option, None, Some, Result, Ok, Err}
use Rattle.std.specs.Option.{is_some}
use Rattle.reading.specs.Read.{Read, got, refused}
use Rattle.reading.specs.Questions.{number_of}
use Rattle.reading.specs.Told.{numbered, failed_below}
use Rattle.reading.specs.declared.Question.{Question}
use Rattle.reading.specs.declared.Refusal.{Refusal}
use Rattle.policy.specs.Syntax.{Tree}
use Rattle.policy.specs.Reading.{read_policy}
use Rattle.policy.specs.Loads.{AllHeld, LoadedPolicy, unread, loaded, Bounded}
use Rattle.policy.specs.declared.PolicyAt.{PolicyAt}
use Rattle.wellformed.specs.Faults.{policy_fault}
use Rattle.service.specs.Questions.{passed, failed, ask, after_reading}
use Rattle.service.proofs.JudgeLaws.{ends_below, policy_ends}
use Rattle.comparing.specs.NoLooser.{policy_of}
use Rattle.comparing.specs.Told.{LoadedAs, passes, fails}

-- What is told of a fault below a bound.
module _ (f : Option Question) (bound v : ℕ) (is : numbered f ≡ failed_below bound v) where
  told_by : numbered f ≡ cond (ltb v bound) (Some v) None
  unfolding failed_below
  told_by = is

  is_below : is_some f ≡ true → ltb v bound ≡ true
  is_below e = go f (ltb v bound) told_by e
    where
      go : (g : Option Question) (b : Bool) → numbered g ≡ cond b (Some v) None → is_some g ≡ true → b ≡ true
      go g true h k = refl
      go (Some q) false h k = let z : ◌≡◌ {A = ℕ} 0 1 = cc in absurd (omega arith)
      go None false h k = let z : ◌≡◌ {A = ℕ} 0 1 = cc in absurd (omega arith)

  not_below : is_some f ≡ false → ltb v bound ≡ false
  not_below e = go f (ltb v bound) told_by e
    where
      go : (g : Option Question) (b : Bool) → numbered g ≡ cond b (Some v) None → is_some g ≡ false → b ≡ false
      go g false h k = refl
      go (Some q) true h k = let z : ◌≡◌ {A = ℕ} 0 1 = cc in absurd (omega arith)
      go None true h k = let z : ◌≡◌ {A = ℕ} 0 1 = cc in absurd (omega arith)

module _ (c nodes : List ℕ) where
  pub too_long : 4096 < length c → LoadedAs c nodes None
  too_long h = fails {n = 1} (unfold policy_of ask in rw (lt-leb (length c) 4096 h)) refl

  -- The policy of a charter that is not too long, by what its reading answers.
  module _ (short : length c ≤ 4096) where
    not_read : (question at : ℕ) → read_policy c ≡ refused question at → policy_of c ≡ failed question
    unfolding policy_of ask after_reading
    not_read question at e = rw (le-leb (length c) 4096 short, e)

    was_read : (policy : List Tree) (next : ℕ) → read_policy c ≡ got policy next → policy_of c ≡ ends_below 16 (policy_fault policy) (passed policy)
    unfolding policy_of ask after_reading
    was_read policy next e = rw (le-leb (length c) 4096 short, e) (policy_ends policy (passed policy))

    module _ (read : Result PolicyAt Refusal) (l : LoadedPolicy c (read_policy c) nodes read) where
      not_both : {P : Type 0} (p : PolicyAt) (w : Refusal) → read ≡ Ok p → read ≡ Err w → P
      not_both p w e f = let z : ◌≡◌ {A = ℕ} 0 1 = cc in absurd (omega arith)

      pub charter_unread : (w : Refusal) → read ≡ Err w → LoadedAs c nodes None
      charter_unread w e = go (read_policy c) refl l
        where
          go : (x : Read (List Tree)) → read_policy c ≡ x → LoadedPolicy c x nodes read → LoadedAs c nodes None
          go x i (unread {why = why} u v) = fails (not_read (number_of why.question) why.at (i ∙ u)) refl
          go x i (loaded {p = p} u v m b held) = not_both p w v e

      module _ (p : PolicyAt) (e : read ≡ Ok p) where
        record Here : Type 0 where
          policy : List Tree
          end : ℕ
          reads : read_policy c ≡ got policy end
          bounded : Bounded p.trees
          held : AllHeld c nodes p.trees 0 policy

        here : Here
        here = go (read_policy c) refl l
          where
            go : (x : Read (List Tree)) → read_policy c ≡ x → LoadedPolicy c x nodes read → Here
            go x i (unread {why = why} u v) = not_both p why e v
            go x i (loaded {policy = policy} {next = next} {p = q} u v m b held) =
                let same : q ≡ p = cc in
                record { policy = policy; end = next; reads = i ∙ u; bounded = rw same at b; held = rw same at held }

        pub trees_bounded : Bounded p.trees
        trees_bounded = here.bounded

        module _ (fault : Option Question) (k : (policy : List Tree) → AllHeld c nodes p.trees 0 policy → numbered fault ≡ failed_below 16 (policy_fault policy))
            (d : Bool) (is : d ≡ is_some fault) where
          ends : policy_of c ≡ cond (ltb (policy_fault here.policy) 16) (failed (policy_fault here.policy)) (passed here.policy)
          unfolding ends_below
          ends = was_read here.policy here.end here.reads

          pub charter_faulty : d ≡ true → LoadedAs c nodes None
          charter_faulty t = fails {n = policy_fault here.policy} (ends ∙ rw (is_below fault 16 (policy_fault here.policy) (k here.policy here.held) (sym is ∙ t))) refl

          pub charter_passes : d ≡ false → LoadedAs c nodes (Some p.trees)
          charter_passes t =
              passes {policy = here.policy} {trees = p.trees}
              (ends ∙ rw (not_below fault 16 (policy_fault here.policy) (k here.policy here.held) (sym is ∙ t))) refl here.bounded here.held

pub ruleset load_steps = (rules, too_long, charter_unread, trees_bounded, charter_faulty, charter_passes)
