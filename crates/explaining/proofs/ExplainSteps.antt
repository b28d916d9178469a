-- What each return of the service has to show, over plain values: that its answer and what it leaves in the line are those of the
-- definition, from what questions 1 to 18 came to and the tables that they left.
use Prim.Native.Nat.{ℕ, ◌<◌}
use mathlib.Core.Path.{◌≡◌, refl, sym, ap, ◌∙◌}
use mathlib.Core.List.{List}
use mathlib.Core.Option.{Option}
use Rattle.std.specs.Prelude.{None, Some, Result, Ok, Err}
use Rattle.std.specs.Prelude.{Option as Answer}
use native.Mathlib.Omega.{arith}
use borrow.Author.Rules.{rules}
use borrow.Author.Tests.{ne_eqb}
use Rattle.reading.specs.Read.{Read, got, refused}
use Rattle.reading.specs.Syntax.{Sheet}
use Rattle.reading.proofs.Parts.{never}
use Rattle.reading.proofs.QuestionLaws.{sheet_question}
use Rattle.reading.specs.System.{sheet_of}
use Rattle.reading.specs.Questions.{number_of}
use Rattle.reading.specs.Told.{number, counted_in, path_of}
use Rattle.reading.specs.declared.Number.{Number}
use Rattle.reading.specs.declared.Path.{Path}
use Rattle.reading.specs.declared.Question.{Question}
use Rattle.reading.specs.declared.Question.TheVariants as question
use Rattle.reading.specs.declared.Refusal.{Refusal}
use Rattle.inference.specs.Interface.{Entry, required_of}
use Rattle.inference.specs.Rows.{Orderly, path_at, table_entries, table_required}
use Rattle.policy.specs.Reading.{read_policy}
use Rattle.policy.specs.Syntax.{Tree}
use Rattle.policy.specs.Loads.{AllHeld, Bounded}
use Rattle.policy.specs.declared.Trees.{Trees}
use Rattle.fit.specs.Covers.{permission_in}
use Rattle.fit.specs.Uncovered.{Uncovered, first_uncovered}
use Rattle.fit.specs.Search.{uncovered_at}
use Rattle.fit.specs.declared.Missing.{Missing}
use Rattle.naming.specs.Names.{read_names}
use Rattle.naming.specs.Sentence.{sentence}
use Rattle.naming.specs.Told.{ends, names_at_places}
use Rattle.naming.proofs.SentenceLaws.{sentence_bytes}
use Rattle.service.specs.Questions.{failed, judged}
use Rattle.service.specs.Check.{written}
use Rattle.service.specs.Told.{fault_number, Reads, Ready, HoldsPolicy, Delivered, Judges}
use Rattle.service.specs.declared.Judged.{Judged}
use Rattle.service.proofs.CheckSteps.{judged_fails, judged_passes}
use Rattle.service.proofs.JudgeSteps.{no_question, unread_failed, few_ready, all_ready}
use Rattle.slack.specs.Told.{Tells}
use Rattle.slack.proofs.TellSteps.{unread_refused}
use Rattle.explaining.specs.Explain.{uncovered_in, said, explanation, explained}
use Rattle.explaining.specs.Told.{Says, Explained, ExaminedAs}

-- Question 40, and what is said of an uncovered permission.
module _ (names groups kinds : List ℕ) (read : Result ℕ Refusal) (is : ends read (names_at_places names groups kinds) ≡ read_names names) where
  pub names_broken : (u : Option Uncovered) (line : List ℕ) (w : Refusal) → read ≡ Err w → Says names u line line (Err w.question)
  unfolding said written
  names_broken u line w e = record { answer = rw (← is, e) refl; lent = rw (← is, e) refl }

  module _ (k : ℕ) (e : read ≡ Ok k) where
    reads_so : read_names names ≡ got (names_at_places names groups kinds) k
    reads_so = sym is ∙ ap (λ (r : Result ℕ Refusal). ends r (names_at_places names groups kinds)) e

    -- what the search found
    module _ (charter nodes : List ℕ) (trees : Trees) (table : List ℕ) (n : ℕ) (found : Answer Missing)
        (search_says : (policy : List Tree) → AllHeld charter nodes trees 0 policy → ((i : ℕ) → i < n → Orderly table i)
        → first_uncovered policy (table_required table n) (table_entries table n) ≡ uncovered_at table found) where
      pub nothing_said : (line : List ℕ) → found ≡ None → (policy : List Tree) → AllHeld charter nodes trees 0 policy
          → ((i : ℕ) → i < n → Orderly table i)
          → Says names (first_uncovered policy (table_required table n) (table_entries table n)) line line (Ok 0)
      unfolding said written uncovered_at
      nothing_said line h policy held order = record {
        answer = rw (search_says policy held order, h, reads_so) refl;
        lent = rw (search_says policy held order, h, reads_so) refl;
      }

      pub sentence_said : (m : Missing) (line line' : List ℕ) (path : Path) (r : Result ℕ Question) → found ≡ Some m
          → path_of path ≡ path_at table m.component
          → Delivered (sentence (names_at_places names groups kinds) (record { path = path_of path; permission = permission_in m.permission; kind = m.kind }))
          line line' r
          → (policy : List Tree) → AllHeld charter nodes trees 0 policy → ((i : ℕ) → i < n → Orderly table i)
          → Says names (first_uncovered policy (table_required table n) (table_entries table n)) line line' r
      unfolding said uncovered_at
      sentence_said m line line' path r h p d policy held order = record {
        answer = rw (search_says policy held order, h, ← p, reads_so) d.answer;
        lent = rw (search_says policy held order, h, ← p, reads_so)
            (d.lent (sentence_bytes names (names_at_places names groups kinds) k reads_so _));
      }

-- A question with the number of question 18 is that question.
other_number : (q : Question) → (q ≡ question.Covered → ⊥) → number_of q ≡ 18 → ⊥
other_number question.Length h e = omega arith
other_number question.Byte h e = omega arith
other_number question.NoneLeft h e = omega arith
other_number question.Range h e = omega arith
other_number question.Limits h e = omega arith
other_number question.NewGroup h e = omega arith
other_number question.Scope h e = omega arith
other_number question.Channel h e = omega arith
other_number question.Carried h e = omega arith
other_number question.Located h e = omega arith
other_number question.Charter h e = omega arith
other_number question.Kinds h e = omega arith
other_number question.Above h e = omega arith
other_number question.Alike h e = omega arith
other_number question.Fence h e = omega arith
other_number question.Tree h e = omega arith
other_number question.Reached h e = omega arith
other_number question.Covered h e = h refl
other_number question.Output h e = omega arith
other_number question.Start h e = omega arith
other_number question.Script h e = omega arith
other_number question.Log h e = omega arith
other_number question.Names h e = omega arith
other_number question.Purposes h e = omega arith

-- The trees of a judgement that 18 refuses are bounded.
pub covered_bounded : (f : Answer Question) (t : Trees) (q : Question) → f ≡ Some q → q ≡ question.Covered → (11 < fault_number f → Bounded t) → Bounded t
covered_bounded f t q e is bounded = bounded (rw (e, is) (omega arith))

-- From what questions 1 to 18 came to.
module _ (sheet charter names table nodes : List ℕ) (j : Judged) (line : List ℕ) where
  pub nothing_explained : ((q : Question) → j.fault ≡ Some q → ⊥) → Reads sheet charter → Judges sheet charter table nodes j → Explained sheet charter names line line (Ok 0)
  unfolding explained explanation written
  nothing_explained h reads judges =
      let p = judged_passes sheet charter j.fault judges.first (no_question j.fault h) in
      record { answer = rw p.passes refl; lent = rw p.passes refl }

  pub other_question : (q : Question) → j.fault ≡ Some q → (q ≡ question.Covered → ⊥) → Reads sheet charter → Judges sheet charter table nodes j
      → Explained sheet charter names line line (Err q)
  unfolding explained explanation written
  other_question q e n reads judges =
      let f = judged_fails sheet charter j.fault judges.first q e in
      let m = ne_eqb (number_of q) 18 (other_number q n) in
      record { answer = rw (f, m) refl; lent = rw (f, m) refl }

  -- what the tables require is what the sheet requires
  requires_so : (reads : Reads sheet charter) → Judges sheet charter table nodes j → 10 < fault_number j.fault
      → table_required table j.components ≡ required_of reads.tree
  unfolding table_required required_of
  requires_so reads judges past = ap (λ (es : List Entry). record { entries = es }) (judges.held past reads.tree reads.end reads.reads)

  entries_so : (reads : Reads sheet charter) → Judges sheet charter table nodes j → 10 < fault_number j.fault
      → table_entries table j.components ≡ (required_of reads.tree).entries
  unfolding required_of
  entries_so reads judges past = judges.held past reads.tree reads.end reads.reads

  pub eighteen : (q : Question) → j.fault ≡ Some q → q ≡ question.Covered → (line' : List ℕ) (r : Result ℕ Question)
      → ((policy : List Tree) → AllHeld charter nodes j.trees 0 policy → ((i : ℕ) → i < j.components → Orderly table i)
      → Says names (first_uncovered policy (table_required table j.components) (table_entries table j.components)) line line' r)
      → Reads sheet charter → Judges sheet charter table nodes j → Explained sheet charter names line line' r
  unfolding explained explanation
  eighteen q e is line' r says reads judges = record {
    answer = rw (fails, found) here.answer;
    lent = rw (fails, found) here.lent;
  }
    where
      at_covered : j.fault ≡ Some question.Covered
      at_covered = rw is at e

      fails : judged sheet charter ≡ failed 18
      fails = judged_fails sheet charter j.fault judges.first question.Covered at_covered

      past : 11 < fault_number j.fault
      past = rw at_covered (omega arith)

      ten : 10 < fault_number j.fault
      ten = rw at_covered (omega arith)

      holds : HoldsPolicy charter nodes j.trees
      holds = judges.trees_held past

      here : Says names (first_uncovered holds.policy (table_required table j.components) (table_entries table j.components)) line line' r
      here = says holds.policy holds.held (judges.orderly ten)

      found : uncovered_in (sheet_of sheet charter) (read_policy charter)
          ≡ first_uncovered holds.policy (table_required table j.components) (table_entries table j.components)
      found = unfold uncovered_in in rw (reads.reads, holds.reads, requires_so reads judges ten, entries_so reads judges ten) refl

-- A sheet that does not read is refused with the reading's question, which is not 18.
module _ (s c names line : List ℕ) (r : Result Number Refusal) (w : Refusal) (is : number r ≡ counted_in (sheet_of s c)) (f : r ≡ Err w) where
  early : number_of w.question < 18
  unfolding counted_in
  early = go (sheet_of s c) refl is
    where
      go : (x : Read Sheet) → sheet_of s c ≡ x → number r ≡ counted_in x → number_of w.question < 18
      go (got a k) i u = never (ap number (sym f) ∙ u)
      go (refused p m) i u =
          let e : refused (number_of w.question) w.at ≡ refused p m = ap number (sym f) ∙ u in
          let v : number_of w.question ≡ p = cc in
          let l = sheet_question s c i in omega (arith, l.last, v)

  pub unread_explained : Explained s c names line line (Err w.question)
  unfolding explained explanation written
  unread_explained =
      let e = unread_failed s c r is w f in
      let n = ne_eqb (number_of w.question) 18 (λ k. absurd (omega (arith, early, k))) in
      record { answer = rw (e, n) refl; lent = rw (e, n) refl }

-- Both services.
module _ (sheet charter names table nodes : List ℕ) (j : Judged) where
  pub examined : (clear output output' line line' : List ℕ) (a e : Result ℕ Question) → Ready sheet charter clear → Judges sheet charter table nodes j
      → ((s : List ℕ) → Judges s charter table nodes j → Tells s charter output output' a)
      → ((s : List ℕ) → Reads s charter → Judges s charter table nodes j → Explained s charter names line line' e)
      → ExaminedAs sheet charter names output output' line line' (record { told = a; explained = e })
  examined clear output output' line line' a e ready judges f g =
      record { tells = f sheet judges; explains = g sheet ready.reads judges }

pub read_explained : (sheet charter names table nodes clear line line' : List ℕ) (j : Judged) (r : Result ℕ Question) → Ready sheet charter clear
    → Judges sheet charter table nodes j
    → ((s : List ℕ) → Reads s charter → Judges s charter table nodes j → Explained s charter names line line' r)
    → Explained sheet charter names line line' r
read_explained sheet charter names table nodes clear line line' j r ready judges f = f sheet ready.reads judges

pub unread_examined : (s c names output line : List ℕ) (r : Result Number Refusal) (w : Refusal) → number r ≡ counted_in (sheet_of s c) → r ≡ Err w
    → ExaminedAs s c names output output line line (record { told = Err w.question; explained = Err w.question })
unread_examined s c names output line r w e f =
    record { tells = unread_refused s c output r w e f; explains = unread_explained s c names line r w e f }

pub ruleset explaining = (rules, names_broken, nothing_said, sentence_said, nothing_explained, other_question, covered_bounded, eighteen, examined, read_explained, unread_explained, unread_examined, few_ready, all_ready)
