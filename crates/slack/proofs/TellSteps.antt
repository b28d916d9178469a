-- What each return of the service has to show, over plain values: that its answer and what it leaves in the output are those of the
-- definition, from what questions 1 to 18 came to and the tables that they left.
use Prim.Native.Nat.{ℕ, ◌<◌, ◌≤◌}
use Rattle.std.specs.Prelude.{Option, None, Some, Result, Err}
use mathlib.Core.Path.{◌≡◌, refl, sym, ap, ◌∙◌}
use mathlib.Core.List.{List, []}
use mathlib.Core.Bool.{Bool, false}
use native.Mathlib.Omega.{arith}
use lib.ListN.{length, replicate}
use borrow.Author.Rules.{rules}
use Rattle.reading.specs.Read.{got}
use Rattle.reading.specs.System.{sheet_of}
use Rattle.reading.specs.Questions.{number_of}
use Rattle.reading.specs.Told.{number, counted_in}
use Rattle.reading.specs.declared.Number.{Number}
use Rattle.reading.specs.declared.Question.{Question}
use Rattle.reading.specs.declared.Refusal.{Refusal}
use Rattle.inference.specs.Interface.{Entry, required_of}
use Rattle.inference.specs.Rows.{table_entries, table_required}
use Rattle.sharing.specs.Sums.{add_rows, any_shared}
use Rattle.sharing.proofs.SharingLaws.{lone_sums}
use Rattle.policy.specs.Loads.{Bounded}
use Rattle.policy.specs.Syntax.{Tree}
use Rattle.policy.specs.declared.Trees.{Trees}
use Rattle.fit.proofs.EntryLaws.{few_sums, all_sums}
use Rattle.service.specs.Questions.{failed, judged}
use Rattle.service.specs.Check.{written}
use Rattle.service.specs.Told.{fault_number, HoldsPolicy, Delivered, Judges}
use Rattle.service.specs.declared.Judged.{Judged}
use Rattle.service.proofs.FirstLaws.{Passed}
use Rattle.service.proofs.PassedLaws.{passed_policy}
use Rattle.service.proofs.JudgeSteps.{unread_failed, few_ready, all_ready}
use Rattle.service.proofs.CheckSteps.{each_byte, judged_fails, judged_passes}
use Rattle.slack.specs.Slack.{slack_bytes, slack_for, slack_told}
use Rattle.slack.specs.Rows.{slack_rows}
use Rattle.slack.specs.Told.{Tells, DeliveredSlack, by_sums}
use Rattle.slack.proofs.SlackLaws.{slack_rows_lem}
use Rattle.slack.proofs.SlackBytes.{slack_bytes_lem}

-- A refusal leaves the output as it was.
refused_leaves : (s c output : List ℕ) (q : Question) → judged s c ≡ failed (number_of q) → Tells s c output output (Err q)
unfolding slack_told slack_for written
refused_leaves s c output q e = record { answer = rw e refl; lent = rw e refl }

same_policy : {p q : List Tree} {m n : ℕ} → got p m ≡ got q n → p ≡ q
same_policy e = cc

-- The sums that the slack is delivered by: none where no components share, else those of the classes.
module _ (c nodes : List ℕ) (trees : Trees) (table : List ℕ) (components : ℕ) (output output' : List ℕ) (answer : Result ℕ Question) where
  abbrev By : List ℕ → Type 0
  By sums = Delivered (slack_rows c nodes trees table sums components) output output' answer

  pub by_own : (u : Bool) → u ≡ any_shared table 0 components → u ≡ false → components ≤ 32 → By []
      → DeliveredSlack c nodes trees table components output output' answer
  by_own u is off few d = by_sums [] (lone_sums table components few (sym is ∙ off)) d

  pub by_few : (sums : List ℕ) → components ≤ 4 → sums ≡ add_rows (replicate 516 0) table 0 components → By sums
      → DeliveredSlack c nodes trees table components output output' answer
  by_few sums h made d = by_sums sums (few_sums table sums components h made) d

  pub by_all : (sums : List ℕ) → components ≤ 32 → sums ≡ add_rows (replicate 4128 0) table 0 components → By sums
      → DeliveredSlack c nodes trees table components output output' answer
  by_all sums h made d = by_sums sums (all_sums table sums components h made) d

-- The trees of a judgement that passes are bounded.
pub passed_bounded : (f : Option Question) (t : Trees) → f ≡ None → (11 < fault_number f → Bounded t) → Bounded t
passed_bounded f t e bounded = bounded (rw e (omega arith))

module _ (charter table nodes : List ℕ) (r : Judged) where
  pub refuses : (output : List ℕ) (q : Question) → r.fault ≡ Some q → (s : List ℕ) → Judges s charter table nodes r → Tells s charter output output (Err q)
  refuses output q e s j = refused_leaves s charter output q (judged_fails s charter r.fault j.first q e)

  -- What is delivered is the slack, since the tables hold the sheet's interface and the charter's trees.
  pub delivers : (output output' : List ℕ) (answer : Result ℕ Question) → r.fault ≡ None → length r.trees.kinds ≡ 16
      → DeliveredSlack charter nodes r.trees table r.components output output' answer
      → (s : List ℕ) → Judges s charter table nodes r → Tells s charter output output' answer
  unfolding slack_told slack_for
  delivers output output' answer h kinds (by_sums sums summed d) s j = record {
    answer = rw p.passes here.answer;
    lent = rw p.passes (here.lent (each_byte (slack_bytes_lem s charter p.accepted p.passes)));
  }
    where
      p : Passed s charter
      p = judged_passes s charter r.fault j.first h

      past : 11 < fault_number r.fault
      past = rw h (omega arith)

      ten : 10 < fault_number r.fault
      ten = rw h (omega arith)

      trees : HoldsPolicy charter nodes r.trees
      trees = j.trees_held past

      policy_is : trees.policy ≡ p.accepted.policy
      policy_is = same_policy (sym trees.reads ∙ (passed_policy s charter p.accepted p.passes).reads)

      entries_are : table_entries table r.components ≡ (required_of p.accepted.sheet).entries
      entries_are = unfold required_of in j.held ten p.accepted.sheet p.end p.reads

      required_is : table_required table r.components ≡ required_of p.accepted.sheet
      required_is = unfold table_required required_of in ap (λ (es : List Entry). record { entries = es }) entries_are

      written_is : slack_rows charter nodes r.trees table sums r.components ≡ slack_bytes p.accepted.policy (required_of p.accepted.sheet)
      written_is = unfold slack_bytes in
          slack_rows_lem charter nodes r.trees trees.policy trees.held trees.bounded.few kinds table sums (table_required table r.components) r.components
          (j.orderly ten) (summed (j.orderly ten))
          ∙ rw (policy_is, required_is, entries_are) refl

      here : Delivered (slack_bytes p.accepted.policy (required_of p.accepted.sheet)) output output' answer
      here = rw written_is at d

pub read_tells : (sheet charter table nodes output output' : List ℕ) (j : Judged) (r : Result ℕ Question) → Judges sheet charter table nodes j
    → ((s : List ℕ) → Judges s charter table nodes j → Tells s charter output output' r) → Tells sheet charter output output' r
read_tells sheet charter table nodes output output' j r judges f = f sheet judges

-- A sheet that does not read is refused with the reading's question.
pub unread_refused : (s c output : List ℕ) (r : Result Number Refusal) (w : Refusal) → number r ≡ counted_in (sheet_of s c) → r ≡ Err w
    → Tells s c output output (Err w.question)
unread_refused s c output r w e f = refused_leaves s c output w.question (unread_failed s c r e w f)

pub ruleset telling = (rules, by_own, by_few, by_all, refuses, passed_bounded, delivers, read_tells, unread_refused, few_ready, all_ready)
