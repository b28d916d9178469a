-- What each return of the judging functions has to show, over plain values: that the code's number is the first of document 01's
-- questions 1 to 18 that fails, and that the table holds the interface.
use Prim.Native.Nat.{ℕ, ◌*◌, ◌<◌, ◌≤◌}
use Rattle.std.specs.Prelude.{Option, None, Some, Result, Ok, Err}
use mathlib.Core.Path.{◌≡◌, refl, sym, ap, ap₂, ◌∙◌}
use mathlib.Core.List.{List}
use mathlib.Core.Bool.{Bool, true, false, cond, ◌&&◌}
use native.Mathlib.Omega.{arith}
use lib.ListN.{length, get_or, replicate, length-replicate}
use lib.Dec.{leb, ltb}
use borrow.Author.Rules.{rules}
use borrow.Author.Tests.{lt-ltb, le-ltb, ltb-true, ltb-false}
use Rattle.reading.specs.Read.{Read, got, refused}
use Rattle.reading.specs.Syntax.{Sheet, components}
use Rattle.reading.specs.System.{read_sheet, sheet_of_in, sheet_of}
use Rattle.reading.specs.Questions.{number_of}
use Rattle.reading.specs.Told.{numbered, failed_below, number, counted_in}
use Rattle.reading.specs.declared.Number.{Number}
use Rattle.reading.specs.declared.Question.{Question}
use Rattle.reading.specs.declared.Refusal.{Refusal}
use Rattle.reading.proofs.Parts.{never, passed as test_passed}
use Rattle.reading.proofs.ReadLaws.{one_tree}
use Rattle.reading.proofs.TreeLaws.{SheetParts, sheet_parts}
use Rattle.inference.specs.Interface.{Entry, interface, Required, required_of}
use Rattle.inference.specs.Rows.{Orderly, table_entries, table_required}
use Rattle.inference.specs.Acts.{located}
use Rattle.inference.specs.Walks.{InferredSheet, worst_all}
use Rattle.inference.proofs.WalkLaws.{worst_all_most}
use Rattle.inference.specs.declared.Inference.{Inference}
use Rattle.interface.proofs.TableLaws.{Clear as ClearFrom}
use Rattle.interface.proofs.StoreLaws.{sheet_table, sheet_orderly, sheet_components, clear_zeros}
use Rattle.policy.specs.Syntax.{Tree}
use Rattle.policy.specs.Reading.{read_policy}
use Rattle.policy.specs.Loads.{AllHeld, Bounded, LoadedPolicy, unread, loaded, no_trees}
use Rattle.wellformed.specs.Faults.{policy_fault}
use Rattle.policy.specs.declared.PolicyAt.{PolicyAt}
use Rattle.policy.specs.declared.Trees.{Trees}
use Rattle.fit.specs.Faults.{entries_fault}
use Rattle.service.specs.Questions.{failed, judged}
use Rattle.service.specs.Later.{or_passed, policy_then_entries, after_policy, later_fault}
use Rattle.service.specs.declared.Judged.{Judged}
use Rattle.service.specs.Told.{fault_number, first_failed, Reads, Ready, HoldsPolicy, JudgesLater, Judges}
use Rattle.service.proofs.JudgeLaws.{policy_eleven, judged_refused, judged_typing, judged_later}

-- What is told of a fault by an `Option`.
module _ (f : Option Question) (bound v : ℕ) (is : numbered f ≡ failed_below bound v) where
  told_by : numbered f ≡ cond (ltb v bound) (Some v) None
  unfolding failed_below
  told_by = is

  some_at : (q : Question) (b : Bool) → Some (number_of q) ≡ cond b (Some v) None → (b ≡ true) × (number_of q ≡ v)
  some_at q true g = (refl, cc)
  some_at q false g = absurd (let z : ◌≡◌ {A = ℕ} 0 1 = cc in omega arith)

  none_at : (b : Bool) → None ≡ cond b (Some v) None → b ≡ false
  none_at true g = absurd (let z : ◌≡◌ {A = ℕ} 0 1 = cc in omega arith)
  none_at false g = refl

  pub fails_at : (q : Question) → f ≡ Some q → number_of q ≡ v
  fails_at q e = (some_at q (ltb v bound) (ap numbered (sym e) ∙ told_by)).1

  pub fails_below : (q : Question) → f ≡ Some q → v < bound
  fails_below q e = ltb-true v bound (some_at q (ltb v bound) (ap numbered (sym e) ∙ told_by)).0

  pub fails_none : f ≡ None → bound ≤ v
  fails_none e = ltb-false v bound (none_at (ltb v bound) (ap numbered (sym e) ∙ told_by))

  pub fault_is : fault_number f ≡ cond (ltb v bound) v 64
  fault_is = go f (ltb v bound) told_by
    where
      go : (f : Option Question) (b : Bool) → numbered f ≡ cond b (Some v) None → fault_number f ≡ cond b v 64
      go None b g = rw (none_at b g) refl
      go (Some q) b g = let r = some_at q b g in rw r.0 r.1

-- A fault that is no question is none.
pub no_question : (f : Option Question) → ((q : Question) → f ≡ Some q → ⊥) → f ≡ None
no_question None h = refl
no_question (Some q) h = absurd (h q refl)

-- The groups of so many components are in order.
abbrev InOrder : List ℕ → ℕ → Type 0
InOrder table n = (m : ℕ) → m < n → Orderly table m

-- Questions 12 to 18 of a policy whose trees the table of nodes holds.
module _ (c nodes : List ℕ) (held : Trees) (table : List ℕ) (n : ℕ) (f : Option Question)
    (policy_told : (trees : List Tree) → AllHeld c nodes held 0 trees → numbered f ≡ failed_below 16 (policy_fault trees)) where
  pub policy_fails : (q : Question) → f ≡ Some q → (trees : List Tree) → AllHeld c nodes held 0 trees → InOrder table n
      → fault_number (Some q) ≡ policy_then_entries trees (table_required table n)
  unfolding policy_then_entries
  policy_fails q e trees h order =
      fails_at f 16 (policy_fault trees) (policy_told trees h) q e
      ∙ rw (lt-ltb (policy_fault trees) 16 (fails_below f 16 (policy_fault trees) (policy_told trees h) q e)) refl

  pub entries_decide : (g : Option Question) → ((q : Question) → f ≡ Some q → ⊥)
      → ((trees : List Tree) → AllHeld c nodes held 0 trees → InOrder table n
      → numbered g ≡ failed_below 19 (entries_fault trees (table_required table n) (table_entries table n)))
      → (trees : List Tree) → AllHeld c nodes held 0 trees → InOrder table n → fault_number g ≡ policy_then_entries trees (table_required table n)
  unfolding policy_then_entries or_passed table_required
  entries_decide g e entries_told trees h order =
      fault_is g 19 (entries_fault trees (table_required table n) (table_entries table n)) (entries_told trees h order)
      ∙ rw (le-ltb (policy_fault trees) 16 (fails_none f 16 (policy_fault trees) (policy_told trees h) (no_question f e))) refl

-- Questions 11 to 18 of a charter.
module _ (c : List ℕ) (required : Required) where
  after_refused : (q at : ℕ) → read_policy c ≡ refused q at → q ≡ later_fault c required
  unfolding later_fault after_policy
  after_refused q at e = rw e refl

  after_got : (policy : List Tree) (next : ℕ) → read_policy c ≡ got policy next → policy_then_entries policy required ≡ later_fault c required
  unfolding later_fault after_policy
  after_got policy next e = rw e refl

-- What the reader of a charter answers, by its two cases.
record Unread (c : List ℕ) (w : Refusal) : Type 0 where
  refuses : read_policy c ≡ refused (number_of w.question) w.at

module _ (c nodes : List ℕ) (read : Result PolicyAt Refusal) (l : LoadedPolicy c (read_policy c) nodes read) where
  not_both : {P : Type 0} (p : PolicyAt) (w : Refusal) → read ≡ Ok p → read ≡ Err w → P
  not_both p w e f = let z : ◌≡◌ {A = ℕ} 0 1 = cc in absurd (omega arith)

  refused_by : (w : Refusal) → read ≡ Err w → Unread c w
  refused_by w e = go (read_policy c) refl l
    where
      go : (x : Read (List Tree)) → read_policy c ≡ x → LoadedPolicy c x nodes read → Unread c w
      go x i (loaded {p = p} u v t b held) = not_both p w v e
      go x i (unread {why = why} u v) = let same : why ≡ w = cc in record { refuses = rw same at (i ∙ u) }

  read_by : (p : PolicyAt) → read ≡ Ok p → HoldsPolicy c nodes p.trees
  read_by p e = go (read_policy c) refl l
    where
      go : (x : Read (List Tree)) → read_policy c ≡ x → LoadedPolicy c x nodes read → HoldsPolicy c nodes p.trees
      go x i (unread {why = why} u v) = not_both p why e v
      go x i (loaded {policy = policy} {next = next} {p = q} u v m b held) =
          let same : q ≡ p = cc in
          record { policy = policy; end = next; reads = i ∙ u; bounded = rw same at b; held = rw same at held }

  pub trees_bounded : (p : PolicyAt) → read ≡ Ok p → Bounded p.trees
  trees_bounded p e = (read_by p e).bounded

  pub trees_bounded_past : (n : ℕ) (p : PolicyAt) → read ≡ Ok p → 11 < n → Bounded p.trees
  trees_bounded_past n p e past = trees_bounded p e

  module _ (table : List ℕ) (n : ℕ) where
    pub charter_unread : (w : Refusal) → read ≡ Err w → (r : Judged) → r.fault ≡ Some w.question → r.components ≡ n → InOrder table n
        → JudgesLater c nodes (table_required table n) n r
    charter_unread w e r f k order =
        let u : Unread c w = refused_by w e in
        let h : number_of w.question ≡ 11 = policy_eleven c (number_of w.question) w.at u.refuses in
        let z : fault_number r.fault ≡ number_of w.question = ap fault_number f in
        record {
          first = z ∙ after_refused c (table_required table n) (number_of w.question) w.at u.refuses;
          number = k;
          trees_held = λ past. absurd (omega (arith, past, z, h));
        }

    pub charter_reads : (p : PolicyAt) → read ≡ Ok p → (fault : Option Question)
        → ((trees : List Tree) → AllHeld c nodes p.trees 0 trees → InOrder table n → fault_number fault ≡ policy_then_entries trees (table_required table n))
        → (r : Judged) → r.fault ≡ fault → r.components ≡ n → r.trees ≡ p.trees → InOrder table n → JudgesLater c nodes (table_required table n) n r
    charter_reads p e fault told r f k t order =
        let h : HoldsPolicy c nodes p.trees = read_by p e in
        record {
          first = ap fault_number f ∙ told h.policy h.held order ∙ after_got c (table_required table n) h.policy h.end h.reads;
          number = k;
          trees_held = λ past. rw t h;
        }

-- No trees are rows of the table.
zero_at : (t : ℕ) → get_or (replicate {A = ℕ} 16 0) t 0 ≡ 0
unfolding ClearFrom
zero_at t = clear_zeros 16 t (omega arith)

none_bounded : Bounded no_trees
unfolding no_trees
none_bounded = record { few = omega arith; rows = λ t. omega (arith, zero_at t) }

pub some_bounded : (t : Trees) → t ≡ no_trees → Bounded t
some_bounded t e = rw e none_bounded

-- A table of another length is never lent.
pub no_table : (c nodes table : List ℕ) (n : ℕ) (r : Judged) → length nodes ≡ 384 → (length nodes ≡ 384 → ⊥) → InOrder table n
    → JudgesLater c nodes (table_required table n) n r
no_table c nodes table n r e f order = absurd (f e)

pub ruleset policy_judging = (rules, policy_fails, entries_decide, charter_unread, charter_reads, trees_bounded, trees_bounded_past, some_bounded)

-- Questions 7 to 18 of a sheet that reads.
pub sheet_reads : (s c : List ℕ) (sheet : Sheet) (k : ℕ) → sheet_of s c ≡ got sheet k → read_sheet s ≡ got sheet k
unfolding sheet_of_in
sheet_reads s c sheet k e = (test_passed (leb (length s) 4096 && leb (length c) 4096) (read_sheet s) 1 4096 e).then

abbrev Infers : List ℕ → List ℕ → List ℕ → Inference → Type 0
Infers s table table' walk = (sheet : Sheet) (k : ℕ) → read_sheet s ≡ got sheet k → InferredSheet sheet table table' walk

pub short_charter : (s c table : List ℕ) → Ready s c table → length c ≤ 4096
short_charter s c table ready = (sheet_parts s c ready.reads.reads).short_charter

module _ (s c table table' : List ℕ) (walk : Inference) (ready : Ready s c table) (inferred : Infers s table table' walk) where
  abbrev reads : Reads s c
  reads = ready.reads

  whole : SheetParts s c reads.tree reads.end
  whole = sheet_parts s c reads.reads

  here : InferredSheet reads.tree table table' walk
  here = inferred reads.tree reads.end (sheet_reads s c reads.tree reads.end reads.reads)

  pub few_components : walk.components ≤ 32
  few_components = omega (arith, here.number, sheet_components s c reads.tree reads.end whole)

  module _ (typed : walk.fault ≡ None) where
    past_ten : 11 ≤ worst_all (located reads.tree)
    past_ten = fails_none walk.fault 11 (worst_all (located reads.tree)) here.first typed

    passes : worst_all (located reads.tree) ≡ 11
    passes = omega (arith, past_ten, worst_all_most (located reads.tree))

    zeros : ClearFrom 0 table
    zeros = unfold ClearFrom in λ i p. ready.zeros i

    table_is : table_entries table' walk.components ≡ interface reads.tree
    table_is =
        ap₂ table_entries here.counted here.number
        ∙ sheet_table s c reads.tree reads.end whole ready.rows ready.room table ready.long zeros passes

    in_order : InOrder table' walk.components
    in_order n p =
        rw here.counted (sheet_orderly s c reads.tree reads.end whole ready.rows ready.room table ready.long zeros passes n (omega (arith, here.number)))

    holds : (tree : Sheet) (end : ℕ) → sheet_of s c ≡ got tree end → table_entries table' walk.components ≡ interface tree
    holds tree end e = table_is ∙ ap interface (one_tree s c reads.reads e)

    requires_is : table_required table' walk.components ≡ required_of reads.tree
    unfolding table_required required_of
    requires_is = ap (λ (es : List Entry). record { entries = es }) table_is

  pub typing_fails : (nodes : List ℕ) (q : Question) → walk.fault ≡ Some q → (r : Judged) → r.fault ≡ Some q → r.components ≡ walk.components
      → Judges s c table' nodes r
  typing_fails nodes q e r f k =
      let v : number_of q ≡ worst_all (located reads.tree) = fails_at walk.fault 11 (worst_all (located reads.tree)) here.first q e in
      let b : worst_all (located reads.tree) < 11 = fails_below walk.fault 11 (worst_all (located reads.tree)) here.first q e in
      let z : fault_number r.fault ≡ worst_all (located reads.tree) = ap fault_number f ∙ v in
      record {
        first = z ∙ judged_typing s c reads.tree reads.end reads.reads b;
        few = omega (arith, few_components, k);
        orderly = λ past. absurd (omega (arith, past, z, b));
        held = λ past. absurd (omega (arith, past, z, b));
        trees_held = λ past. absurd (omega (arith, past, z, b));
      }

  pub typing_passes : (nodes : List ℕ) (r : Judged) → ((q : Question) → walk.fault ≡ Some q → ⊥)
      → (InOrder table' walk.components → JudgesLater c nodes (table_required table' walk.components) walk.components r) → Judges s c table' nodes r
  typing_passes nodes r otherwise later = let h : walk.fault ≡ None = no_question walk.fault otherwise in let j = later (in_order h) in record {
    first = j.first ∙ ap (later_fault c) (requires_is h) ∙ judged_later s c reads.tree reads.end reads.reads (past_ten h);
    few = omega (arith, j.number, few_components);
    orderly = λ past. rw j.number (in_order h);
    held = λ past. rw j.number (holds h);
    trees_held = j.trees_held;
  }

-- Questions 1 to 6.
module _ (s c : List ℕ) (r : Result Number Refusal) (told : number r ≡ counted_in (sheet_of s c)) where
  pub unread_failed : (w : Refusal) → r ≡ Err w → judged s c ≡ failed (number_of w.question)
  unfolding counted_in
  unread_failed w f = go (sheet_of s c) refl told
    where
      go : (x : Read Sheet) → sheet_of s c ≡ x → number r ≡ counted_in x → judged s c ≡ failed (number_of w.question)
      go (got a k) i u = never (ap number (sym f) ∙ u)
      go (refused p m) i u =
          let e : refused (number_of w.question) w.at ≡ refused p m = ap number (sym f) ∙ u in
          let v : number_of w.question ≡ p = cc in
          judged_refused s c p m i ∙ ap failed (sym v)

  pub unread_fails : (w : Refusal) → r ≡ Err w → fault_number (Some w.question) ≡ first_failed (judged s c)
  unread_fails w f = sym (ap first_failed (unread_failed w f) ∙ unfold first_failed in refl)

  module _ (n : Number) (f : r ≡ Ok n) where
    record Counts : Type 0 where
      sheet : Sheet
      end : ℕ
      reads : sheet_of s c ≡ got sheet end
      number_is : n.value ≡ components sheet.system

    counts : Counts
    unfolding counted_in
    counts = go (sheet_of s c) refl told
      where
        go : (x : Read Sheet) → sheet_of s c ≡ x → number r ≡ counted_in x → Counts
        go (got a k) i u =
            let e : got n.value n.next ≡ got (components a.system) k = ap number (sym f) ∙ u in
            record { sheet = a; end = k; reads = i; number_is = cc }
        go (refused p m) i u = never (sym (ap number (sym f) ∙ u))

    -- a new table of enough rows
    ready : (rows : ℕ) → n.value ≤ rows → Ready s c (replicate (rows * 211) 0)
    ready rows h = record {
      reads = record { tree = counts.sheet; end = counts.end; reads = counts.reads };
      rows = rows;
      room = omega (arith, counts.number_is);
      long = length-replicate {A = ℕ} (rows * 211) 0;
      zeros = λ i. unfold ClearFrom in clear_zeros (rows * 211) i (omega arith);
    }

    pub few_ready : n.value ≤ 4 → Ready s c (replicate 844 0)
    few_ready h = ready 4 h

    pub all_ready : Ready s c (replicate 6752 0)
    all_ready = ready 32 (omega (arith, counts.number_is, sheet_components s c counts.sheet counts.end (sheet_parts s c counts.reads)))

pub ruleset judging = (rules, short_charter, some_bounded, typing_fails, typing_passes, unread_fails, few_ready, all_ready)
