-- What each return of the service has to show, over plain values: that the code's answer is that of document 01's questions in
-- order, and that the output is as the definition says.
use Prim.Native.Nat.{ℕ, zero, suc, ◌<◌, ◌≤◌}
use mathlib.Core.Path.{◌≡◌, refl, sym, ap, ◌∙◌}
use mathlib.Core.List.{List, [], ◌∷◌}
use Rattle.std.specs.Prelude.{Option, None, Some, Result, Ok, Err}
use native.Mathlib.Omega.{arith}
use lib.ListN.{length, get_or}
use borrow.Author.Rules.{rules}
use borrow.Author.Tests.{le-leb, lt-leb}
use Rattle.reading.specs.System.{sheet_of}
use Rattle.reading.specs.Questions.{number_of}
use Rattle.reading.specs.Told.{number, counted_in}
use Rattle.reading.specs.declared.Number.{Number}
use Rattle.reading.specs.declared.Question.{Question}
use Rattle.reading.specs.declared.Question.TheVariants as question
use Rattle.reading.specs.declared.Refusal.{Refusal}
use Rattle.reading.proofs.TreeLaws.{sheet_parts}
use Rattle.inference.specs.Interface.{interface, interface_bytes}
use Rattle.inference.specs.Rows.{table_entries}
use Rattle.interface.specs.Writes.{Stored}
use Rattle.interface.proofs.ByteLaws.{interface_bytes_lem}
use Rattle.interface.proofs.WriteLaws.{Bytes, no_byte, a_byte, store_all}
use Rattle.service.specs.Questions.{passed, failed, ask, judged}
use Rattle.service.specs.Check.{fitting, interface_for, written, checked}
use Rattle.service.specs.Told.{fault_number, first_failed, Checked, Judges, Delivered}
use Rattle.service.specs.declared.Judged.{Judged}
use Rattle.service.proofs.FirstLaws.{Passed, first_passes, first_fails}
use Rattle.service.proofs.JudgeSteps.{no_question, unread_failed, few_ready, all_ready}

-- Each question has a number below 64.
question_few : (q : Question) → number_of q < 64
question_few question.Length = omega arith
question_few question.Byte = omega arith
question_few question.NoneLeft = omega arith
question_few question.Range = omega arith
question_few question.Limits = omega arith
question_few question.NewGroup = omega arith
question_few question.Scope = omega arith
question_few question.Channel = omega arith
question_few question.Carried = omega arith
question_few question.Located = omega arith
question_few question.Charter = omega arith
question_few question.Kinds = omega arith
question_few question.Above = omega arith
question_few question.Alike = omega arith
question_few question.Fence = omega arith
question_few question.Tree = omega arith
question_few question.Reached = omega arith
question_few question.Covered = omega arith
question_few question.Output = omega arith
question_few question.Start = omega arith
question_few question.Script = omega arith
question_few question.Log = omega arith
question_few question.Names = omega arith
question_few question.Purposes = omega arith

-- Question 19.
all_bytes : (bs : List ℕ) → ((i : ℕ) → get_or bs i 0 < 256) → Bytes bs
all_bytes [] h = no_byte
all_bytes (b ∷ bs) h = a_byte (h 0) (all_bytes bs (λ i. h (suc i)))

pub each_byte : {bs : List ℕ} → Bytes bs → (i : ℕ) → get_or bs i 0 < 256
each_byte no_byte i = omega arith
each_byte (a_byte p more) zero = p
each_byte (a_byte p more) (suc i) = each_byte more i

module _ (bytes output : List ℕ) (len : ℕ) (is : len ≡ length bytes) where
  pub no_room : length output < len → Delivered bytes output output (Err question.Output)
  unfolding fitting written ask
  no_room h = record {
    answer = rw (lt-leb (length bytes) (length output) (omega arith)) refl;
    lent = λ small. rw (lt-leb (length bytes) (length output) (omega arith)) refl;
  }

  pub room : (output' : List ℕ) (r : ℕ) → len ≤ length output → Stored output output' 0 bytes r → Delivered bytes output output' (Ok len)
  unfolding fitting written ask
  room output' r h s = record {
    answer = rw (le-leb (length bytes) (length output) (omega arith)) (ap passed is);
    lent = λ small. rw (le-leb (length bytes) (length output) (omega arith)) (s.left ∙ store_all output (all_bytes bytes small) (omega arith));
  }

-- A refusal leaves the output as it was.
refused_leaves : (s c output : List ℕ) (q : Question) → judged s c ≡ failed (number_of q) → Checked s c output output (Err q)
unfolding checked interface_for written
refused_leaves s c output q e = record { answer = rw e refl; lent = rw e refl }

-- Where questions 1 to 18 come to a question, `judged` fails with its number; where they come to none, it passes.
module _ (s c : List ℕ) (fault : Option Question) (first : fault_number fault ≡ first_failed (judged s c)) where
  pub judged_fails : (q : Question) → fault ≡ Some q → judged s c ≡ failed (number_of q)
  judged_fails q e =
      let n : number_of q ≡ first_failed (judged s c) = ap fault_number (sym e) ∙ first in
      first_fails s c (omega (arith, n, question_few q)) ∙ ap failed (sym n)

  pub judged_passes : fault ≡ None → Passed s c
  judged_passes e = first_passes s c (let n : 64 ≡ first_failed (judged s c) = ap fault_number (sym e) ∙ first in omega (arith, n))

-- Questions 1 to 18 decide, and where they pass, what is delivered is the interface.
module _ (s c table nodes : List ℕ) (r : Judged) (j : Judges s c table nodes r) where
  pub refuses : (output : List ℕ) (q : Question) → r.fault ≡ Some q → Checked s c output output (Err q)
  refuses output q e = refused_leaves s c output q (judged_fails s c r.fault j.first q e)

  delivered : (output output' : List ℕ) (answer : Result ℕ Question) (p : Passed s c)
      → Delivered (interface_bytes (interface p.accepted.sheet)) output output' answer → Checked s c output output' answer
  unfolding checked interface_for
  delivered output output' answer p d = record {
    answer = rw p.passes d.answer;
    lent = rw p.passes (d.lent (each_byte (interface_bytes_lem s c p.accepted.sheet p.end (sheet_parts s c p.reads))));
  }

  pub delivers : (output output' : List ℕ) (answer : Result ℕ Question) → ((q : Question) → r.fault ≡ Some q → ⊥)
      → Delivered (interface_bytes (table_entries table r.components)) output output' answer → Checked s c output output' answer
  delivers output output' answer otherwise d =
      let e : r.fault ≡ None = no_question r.fault otherwise in
      let p : Passed s c = judged_passes s c r.fault j.first e in
      let past : 10 < fault_number r.fault = rw e (omega arith) in
      delivered output output' answer p (rw (j.held past p.accepted.sheet p.end p.reads) at d)

-- A sheet that does not read is refused with the reading's question.
pub unread_refused : (s c output : List ℕ) (r : Result Number Refusal) (w : Refusal) → number r ≡ counted_in (sheet_of s c) → r ≡ Err w
    → Checked s c output output (Err w.question)
unread_refused s c output r w e f = refused_leaves s c output w.question (unread_failed s c r e w f)

pub ruleset checking = (rules, refuses, delivers, unread_refused, few_ready, all_ready)
