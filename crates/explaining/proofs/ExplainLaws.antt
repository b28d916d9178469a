-- What a call of `explain` comes to. Wherever question 18 fails there is an uncovered permission, since each other question fails with
-- another number; its numbers are in range, since it is one of a sheet that reads; so a line of 230 bytes has room for its sentence,
-- and the sentence tells it (naming's laws).
use Prim.Native.Nat.{ℕ, zero, suc, ◌+◌, ◌<◌, ◌≤◌}
use mathlib.Core.Path.{◌≡◌, refl, sym, ap, ◌∙◌}
use mathlib.Core.List.{List, [], ◌∷◌, ◌++◌, map}
use mathlib.Core.Bool.{Bool, true, false, cond, not, ◌&&◌}
use mathlib.Core.Option.{Option, some, none}
use native.Mathlib.Omega.{arith}
use borrow.Author.Tests.{lt-ltb, ltb-true, ltb-false, le-leb, leb-true, leb-false, eqb-true, eqb-false}
use lib.Dec.{ltb, leb, eqb}
use lib.ListN.{length, get_or, take, drop}
use lib.Seq.{take-append_seam, take_at}
use Rattle.reading.specs.Read.{Read, got, refused}
use Rattle.reading.specs.Syntax.{Sheet}
use Rattle.reading.specs.System.{sheet_of}
use Rattle.reading.proofs.FormLaws.{both_true}
use Rattle.reading.proofs.QuestionLaws.{sheet_question}
use Rattle.reading.proofs.TreeLaws.{sheet_parts}
use Rattle.inference.specs.Lists.{every, only, gather, rising}
use Rattle.inference.proofs.EveryLaws.{every_both}
use Rattle.inference.specs.Acts.{Act, Component, Located, acts_of, located}
use Rattle.inference.specs.Walks.{worst_all}
use Rattle.inference.specs.Counts.{is_zero}
use Rattle.inference.specs.Needs.{disclosed}
use Rattle.inference.specs.Interface.{
  Disclosure,
  Entry,
  Permission,
  reading,
  writing,
  accessing,
  disclosing,
  disclosures_of,
  entry_of,
  holds_any,
  entries_of,
  interface,
  flagged,
  permissions,
  Required,
  required_of,
}
use Rattle.interface.proofs.TableLaws.{FitsRow, AllStorable, store_none, store_more}
use Rattle.interface.proofs.StoreLaws.{sheet_storable}
use Rattle.policy.specs.Syntax.{Tree}
use Rattle.policy.specs.Reading.{read_policy}
use Rattle.wellformed.specs.Faults.{policy_fault}
use Rattle.fit.specs.Satisfies.{has_tree, path_reached, covered}
use Rattle.fit.specs.Faults.{entry_fault, entries_fault}
use Rattle.fit.specs.Uncovered.{first, first_missing, Uncovered, or_further, first_uncovered}
use Rattle.fit.proofs.EntryLaws.{missing_first}
use Rattle.fit.proofs.EntrySteps.{is_none}
use Rattle.fit.proofs.SearchLaws.{uncovered_none}
use Rattle.naming.specs.Names.{Names, read_names}
use Rattle.naming.specs.Sentence.{sentence, group_in_range, Numbered}
use Rattle.naming.proofs.NameLaws.{names_forty}
use Rattle.naming.proofs.SentenceLaws.{sentence_tells, sentence_length, sentence_some}
use Rattle.service.specs.Questions.{Asked, passed, failed, ask, Accepted, judged}
use Rattle.service.specs.Check.{Outcome, fitting, written}
use Rattle.service.specs.Later.{or_passed, policy_then_entries, after_policy, later_fault}
use Rattle.service.specs.Told.{first_failed}
use Rattle.service.proofs.FirstLaws.{passed_reads, failed_below, Passed}
use Rattle.service.proofs.JudgeLaws.{policy_eleven, judged_refused, judged_typing, judged_later}
use Rattle.explaining.specs.Explain.{uncovered_in, said, explanation, explained}

-- Nothing is found where there is nothing.
nothing_found : {A P : Type 0} {a : A} → none ≡ some a → P
nothing_found e = let z : ◌≡◌ {A = ℕ} 0 1 = cc in absurd (omega arith)

-- What the first uncovered permission is found in, and that permission.
pub record Found (s c : List ℕ) : Type 0 where
  pub sheet : Sheet
  pub end : ℕ
  pub reads : sheet_of s c ≡ got sheet end
  pub policy : List Tree
  pub close : ℕ
  pub charter : read_policy c ≡ got policy close
  pub missing : Uncovered
  pub found : uncovered_in (sheet_of s c) (read_policy c) ≡ some missing

-- There is an uncovered permission wherever question 18 fails.
uncovered_some : (s c : List ℕ) (sheet : Sheet) (k : ℕ) (policy : List Tree) (m : ℕ)
    → sheet_of s c ≡ got sheet k → read_policy c ≡ got policy m
    → every (covered policy (required_of sheet)) (required_of sheet).entries ≡ false → Found s c
uncovered_some s c sheet k policy m e f h =
    go (first_uncovered policy (required_of sheet) (required_of sheet).entries) refl
    (sym (uncovered_none policy (required_of sheet) (required_of sheet).entries) ∙ h)
  where
    go : (u : Option Uncovered) → first_uncovered policy (required_of sheet) (required_of sheet).entries ≡ u → is_none u ≡ false → Found s c
    go (some u) i n = record {
      sheet = sheet;
      end = k;
      reads = e;
      policy = policy;
      close = m;
      charter = f;
      missing = u;
      found = unfold uncovered_in in rw (e, f) i;
    }
    go none i n = unfold is_none in (let z : ◌≡◌ {A = ℕ} 0 1 = cc in absurd (omega arith))

-- An entry that is covered fails another question than 18, or none.
covered_otherwise : (policy : List Tree) (required : Required) (e : Entry) → covered policy required e ≡ true → entry_fault policy required e ≡ 18 → ⊥
unfolding entry_fault
covered_otherwise policy required e h = rw h (go (holds_any e) (has_tree policy e) (path_reached policy e))
  where
    go : (a b d : Bool) → ◌≡◌ {A = ℕ} (cond a (cond b (cond d 19 17) 16) 19) 18 → ⊥
    go false b d i = absurd (omega (arith, i))
    go true false d i = absurd (omega (arith, i))
    go true true false i = absurd (omega (arith, i))
    go true true true i = absurd (omega (arith, i))

entries_eighteen : (policy : List Tree) (required : Required) (es : List Entry) → entries_fault policy required es ≡ 18
    → every (covered policy required) es ≡ false
unfolding entries_fault every
entries_eighteen policy required [] h = absurd (omega (arith, h))
entries_eighteen policy required (e ∷ rest) h = go (covered policy required e) refl (entries_eighteen policy required rest)
  where
    go : (b : Bool) → covered policy required e ≡ b → (entries_fault policy required rest ≡ 18 → every (covered policy required) rest ≡ false)
        → (b && every (covered policy required) rest) ≡ false
    go false i later = refl
    go true i later = later (omega (arith, h, covered_otherwise policy required e i))

-- The other questions have other numbers.
policy_eighteen : (policy : List Tree) (required : Required) → policy_then_entries policy required ≡ 18
    → entries_fault policy required required.entries ≡ 18
unfolding policy_then_entries or_passed
policy_eighteen policy required h =
    go (ltb (policy_fault policy) 16) refl (ltb (entries_fault policy required required.entries) 19) h
  where
    go : (b : Bool) → ltb (policy_fault policy) 16 ≡ b → (d : Bool)
        → cond b (policy_fault policy) (cond d (entries_fault policy required required.entries) 64) ≡ 18
        → entries_fault policy required required.entries ≡ 18
    go true e d h = absurd (omega (arith, h, ltb-true (policy_fault policy) 16 e))
    go false e true h = h
    go false e false h = absurd (omega (arith, h))

module _ (s c : List ℕ) (sheet : Sheet) (k : ℕ) (reads : sheet_of s c ≡ got sheet k) where
  charter_eighteen : (r : Read (List Tree)) → read_policy c ≡ r → after_policy r (required_of sheet) ≡ 18 → Found s c
  unfolding after_policy
  charter_eighteen (got policy m) f h =
      uncovered_some s c sheet k policy m reads f
      (entries_eighteen policy (required_of sheet) (required_of sheet).entries (policy_eighteen policy (required_of sheet) h))
  charter_eighteen (refused q at) f h = absurd (omega (arith, h, policy_eleven c q at f))

  typed_eighteen : first_failed (judged s c) ≡ 18 → Found s c
  unfolding later_fault
  typed_eighteen h = go (ltb (worst_all (located sheet)) 11) refl
    where
      go : (b : Bool) → ltb (worst_all (located sheet)) 11 ≡ b → Found s c
      go true e =
          let l = ltb-true (worst_all (located sheet)) 11 e in
          absurd (omega (arith, h, l, judged_typing s c sheet k reads l))
      go false e =
          charter_eighteen (read_policy c) refl (judged_later s c sheet k reads (ltb-false (worst_all (located sheet)) 11 e) ∙ h)

pub refused_uncovered : (s c : List ℕ) → judged s c ≡ failed 18 → Found s c
unfolding first_failed
refused_uncovered s c e = go (sheet_of s c) refl
  where
    go : (x : Read Sheet) → sheet_of s c ≡ x → Found s c
    go (got sheet k) i = typed_eighteen s c sheet k i (ap first_failed e)
    go (refused q at) i =
        let z : failed q ≡ failed 18 = sym (judged_refused s c q at i) ∙ e in
        let n : q ≡ 18 = cc in
        let h = sheet_question s c i in absurd (omega (arith, n, h.last))

-- The numbers of what is found.
pub record InNumbers (u : Uncovered) : Type 0 where
  pub numbered : Numbered u
  pub short : length u.path ≤ 8

-- An entry whose path, kind and groups disclosed to are in range.
unfoldable pub in_numbers : Entry → Bool
in_numbers e =
    (leb (length e.component.path) 8 && every (λ g. ltb g 64) e.component.path)
    && (ltb e.kind 16 && every (λ d. ltb d.group 64) e.disclose)

both_so : {a b : Bool} → a ≡ true → b ≡ true → (a && b) ≡ true
both_so h k = rw (h, k) refl

-- What a test of all members tells of the first that another test tells.
first_has : {A : Type 0} (p q : A → Bool) (xs : List A) {x : A} → every q xs ≡ true → first p xs ≡ some x → q x ≡ true
unfolding every first
first_has p q [] h e = nothing_found e
first_has p q (y ∷ ys) {x} h e =
    let o = both_true (q y) (every q ys) h in go (p y) o.0 (λ f. first_has p q ys o.1 f) e
  where
    go : (b : Bool) → q y ≡ true → (first p ys ≡ some x → q x ≡ true) → cond b (some y) (first p ys) ≡ some x → q x ≡ true
    go true h further e = let z : y ≡ x = cc in rw z at h
    go false h further e = further e

flag_in_range : (b : Bool) (p : Permission) → group_in_range p ≡ true → every group_in_range (flagged b p) ≡ true
unfolding every flagged
flag_in_range true p h = both_so h refl
flag_in_range false p h = refl

list_in_range : (ds : List Disclosure) → every (λ d. ltb d.group 64) ds ≡ true
    → every group_in_range (map (λ d. disclosing d.group) ds) ≡ true
unfolding every group_in_range
list_in_range [] h = refl
list_in_range (d ∷ ds) h =
    let o = both_true (ltb d.group 64) (every (λ d. ltb d.group 64) ds) h in both_so o.0 (list_in_range ds o.1)

permissions_in_range : (e : Entry) → every (λ d. ltb d.group 64) e.disclose ≡ true → every group_in_range (permissions e) ≡ true
unfolding permissions group_in_range
permissions_in_range e h =
    every_both group_in_range (flagged e.read reading) _ (flag_in_range e.read reading refl)
    (every_both group_in_range (flagged e.write writing) _ (flag_in_range e.write writing refl)
    (every_both group_in_range (flagged e.access accessing) _ (flag_in_range e.access accessing refl) (list_in_range e.disclose h)))

missing_in_numbers : (policy : List Tree) (required : Required) (e : Entry) (p : Permission) → in_numbers e ≡ true
    → first_missing policy required e ≡ some p → InNumbers (record { path = e.component.path; permission = p; kind = e.kind })
unfolding in_numbers
missing_in_numbers policy required e p h f =
    let o = both_true (leb (length e.component.path) 8 && every (λ g. ltb g 64) e.component.path) _ h in
    let x = both_true (leb (length e.component.path) 8) _ o.0 in
    let y = both_true (ltb e.kind 16) _ o.1 in
    record {
      numbered = record {
        path = x.1;
        permission = first_has _ group_in_range (permissions e) (permissions_in_range e y.1) (sym (missing_first policy required e) ∙ f);
        kind = ltb-true e.kind 16 y.0;
      };
      short = leb-true (length e.component.path) 8 x.0;
    }

-- Of any entries in range.
uncovered_in_numbers : (policy : List Tree) (required : Required) (es : List Entry) (u : Uncovered) → every in_numbers es ≡ true
    → first_uncovered policy required es ≡ some u → InNumbers u
unfolding every first_uncovered or_further
uncovered_in_numbers policy required [] u h f = nothing_found f
uncovered_in_numbers policy required (e ∷ rest) u h f =
    let o = both_true (in_numbers e) (every in_numbers rest) h in
    go (first_missing policy required e) refl o.0 (λ g. uncovered_in_numbers policy required rest u o.1 g) f
  where
    go : (m : Option Permission) → first_missing policy required e ≡ m → in_numbers e ≡ true
        → (first_uncovered policy required rest ≡ some u → InNumbers u)
        → or_further e m (first_uncovered policy required rest) ≡ some u → InNumbers u
    go (some p) i h further f =
        let z : record { path = e.component.path; permission = p; kind = e.kind } ≡ u = cc in
        rw z at (missing_in_numbers policy required e p h i)
    go none i h further f = further f

-- Those of a sheet that reads are: groups and kinds are counted up to 64 and 16, and paths fit a row.
each_made : {A : Type 0} (p q : A → Bool) (f : ℕ → A) (start n : ℕ) → ((i : ℕ) → i < start + n → p (f i) ≡ true)
    → every p (only q (map f (rising start n))) ≡ true
unfolding every only rising
each_made p q f start zero h = refl
each_made p q f start (suc n) h = go (q (f start)) (each_made p q f (suc start) n (λ i l. h i (omega arith)))
  where
    go : (b : Bool) → every p (only q (map f (rising (suc start) n))) ≡ true
        → every p (cond b (f start ∷ only q (map f (rising (suc start) n))) (only q (map f (rising (suc start) n)))) ≡ true
    go true r = both_so (h start (omega arith)) r
    go false r = r

path_in_range : (path : List ℕ) → ((i : ℕ) → i < length path → get_or path i 0 < 64) → every (λ g. ltb g 64) path ≡ true
unfolding every
path_in_range [] h = refl
path_in_range (g ∷ path) h = both_so (lt-ltb g 64 (h 0 (omega arith))) (path_in_range path (λ i l. h (suc i) (omega arith)))

entry_in_numbers : (c : Component) (acts : List Act) (k : ℕ) → k < 16 → FitsRow c.path → in_numbers (entry_of c acts k) ≡ true
unfolding in_numbers entry_of disclosures_of
entry_in_numbers c acts k h fits =
    both_so (both_so (le-leb (length c.path) 8 fits.short) (path_in_range c.path fits.groups))
    (both_so (lt-ltb k 16 h)
    (each_made (λ d. ltb d.group 64) (λ d. not (is_zero d.count)) (λ g. record { group = g; count = disclosed k g acts }) 0 64
    (λ g l. lt-ltb g 64 (omega arith))))

entries_in_numbers : (n : ℕ) {ls : List Located} → AllStorable n ls → every in_numbers (gather entries_of ls) ≡ true
unfolding every gather entries_of
entries_in_numbers n store_none = refl
entries_in_numbers n (store_more {l = l} {rest = rest} ok more) =
    every_both in_numbers (only holds_any (map (entry_of l.component (acts_of l)) (rising 0 16))) (gather entries_of rest)
    (each_made in_numbers holds_any (entry_of l.component (acts_of l)) 0 16 (λ k h.
    entry_in_numbers l.component (acts_of l) k (omega arith) ok.fits))
    (entries_in_numbers (suc n) more)

pub found_numbered : (s c : List ℕ) (sheet : Sheet) (k : ℕ) → sheet_of s c ≡ got sheet k → (policy : List Tree) (u : Uncovered)
    → first_uncovered policy (required_of sheet) (required_of sheet).entries ≡ some u → InNumbers u
unfolding required_of interface
found_numbered s c sheet k e policy u f =
    uncovered_in_numbers policy (required_of sheet) (required_of sheet).entries u
    (entries_in_numbers 0 (sheet_storable s c sheet k (sheet_parts s c e))) f

pub missing_numbered : (s c : List ℕ) (f : Found s c) → InNumbers f.missing
unfolding uncovered_in
missing_numbered s c f =
    found_numbered s c f.sheet f.end f.reads f.policy f.missing (rw (f.reads, f.charter) at f.found)

-- The five ways in which a call ends: questions 1 to 18 pass; or one before 18 fails; or 18 does, and then the names file does not
-- read, or the line has no room for the sentence, or it has.
pub data Explains (s c names line : List ℕ) : Outcome → Type 0 where
  all_pass : (a : Accepted) → judged s c ≡ passed a → Explains s c names line (record { answer = passed 0; lent = line })
  fails_before : (q : ℕ) → judged s c ≡ failed q → q < 18 → Explains s c names line (record { answer = failed q; lent = line })
  no_names : judged s c ≡ failed 18 → (at : ℕ) → read_names names ≡ refused 40 at
      → Explains s c names line (record { answer = failed 40; lent = line })
  no_room : (f : Found s c) (n : Names) (end : ℕ) → judged s c ≡ failed 18 → read_names names ≡ got n end
      → length line < length (sentence n f.missing) → Explains s c names line (record { answer = failed 19; lent = line })
  tells : (f : Found s c) (n : Names) (end : ℕ) → judged s c ≡ failed 18 → read_names names ≡ got n end
      → length (sentence n f.missing) ≤ length line
      → Explains s c names line (record {
        answer = passed (length (sentence n f.missing));
        lent = sentence n f.missing ++ drop (length (sentence n f.missing)) line;
      })

module _ (s c names line : List ℕ) where
  fitting_ends : (f : Found s c) (n : Names) (end : ℕ) → judged s c ≡ failed 18 → read_names names ≡ got n end
      → Explains s c names line (written line (fitting line (sentence n f.missing)))
  unfolding fitting written ask
  fitting_ends f n end e r = go (leb (length (sentence n f.missing)) (length line)) refl
    where
      go : (b : Bool) → leb (length (sentence n f.missing)) (length line) ≡ b
          → Explains s c names line (written line (ask 19 b (passed (sentence n f.missing))))
      go true h = tells f n end e r (leb-true (length (sentence n f.missing)) (length line) h)
      go false h = no_room f n end e r (leb-false (length (sentence n f.missing)) (length line) h)

  eighteen_ends : (f : Found s c) → judged s c ≡ failed 18
      → Explains s c names line (written line (said line (read_names names) (uncovered_in (sheet_of s c) (read_policy c))))
  unfolding said written
  eighteen_ends f e = rw f.found (go (read_names names) refl)
    where
      go : (x : Read Names) → read_names names ≡ x → Explains s c names line (written line (said line x (some f.missing)))
      go (got n end) r = fitting_ends f n end e r
      go (refused q at) r =
          let z : q ≡ 40 = names_forty names q at r in rw z (no_names e at (r ∙ ap (λ (k : ℕ). refused k at) z))

  pub explained_ends : Explains s c names line (explained s c names line)
  unfolding explained explanation written
  explained_ends = go (judged s c) refl
    where
      go : (x : Asked Accepted) → judged s c ≡ x
          → Explains s c names line (written line (explanation x (said line (read_names names) (uncovered_in (sheet_of s c) (read_policy c)))))
      go (passed a) e = all_pass a e
      go (failed q) e = by (eqb q 18) refl
        where
          by : (b : Bool) → eqb q 18 ≡ b
              → Explains s c names line (written line
              (cond b (said line (read_names names) (uncovered_in (sheet_of s c) (read_policy c))) (failed q)))
          by true h = let f : judged s c ≡ failed 18 = rw (← eqb-true q 18 h) e in eighteen_ends (refused_uncovered s c f) f
          by false h =
              fails_before q e (let l = failed_below s c q e in let n = eqb-false q 18 h in omega (arith, l, n))

-- A sentence for what is found has at most 230 bytes.
pub missing_short : (s c names : List ℕ) (f : Found s c) (n : Names) (end : ℕ) → read_names names ≡ got n end
    → length (sentence n f.missing) ≤ 230
missing_short s c names f n end r = sentence_length names n end r f.missing (missing_numbered s c f).short

-- What a call of `explain` answers: a length of at most 230, or a number of at most 40.
unfoldable pub SaidInRange : Asked ℕ → Type 0
SaidInRange (passed n) = n ≤ 230
SaidInRange (failed q) = q ≤ 40

module _ (s c names line : List ℕ) where
  in_range : {o : Outcome} → Explains s c names line o → SaidInRange o.answer
  unfolding SaidInRange
  in_range (all_pass a e) = omega arith
  in_range (fails_before q e l) = omega arith
  in_range (no_names e at r) = omega arith
  in_range (no_room f n end e r l) = omega arith
  in_range (tells f n end e r l) = missing_short s c names f n end r

  pub explain_in_range : SaidInRange (explained s c names line).answer
  explain_in_range = in_range (explained_ends s c names line)

  -- The answer is 0 exactly where questions 1 to 18 pass: every sentence has a byte.
  passes : {o : Outcome} → Explains s c names line o → o.answer ≡ passed 0 → Passed s c
  passes (all_pass a e) h = let r = passed_reads s c a e in record { accepted = a; passes = e; end = r.end; reads = r.reads }
  passes (fails_before q e l) h = let z : ◌≡◌ {A = ℕ} 0 1 = cc in absurd (omega arith)
  passes (no_names e at r) h = let z : ◌≡◌ {A = ℕ} 0 1 = cc in absurd (omega arith)
  passes (no_room f n end e r l) h = let z : ◌≡◌ {A = ℕ} 0 1 = cc in absurd (omega arith)
  passes (tells f n end e r l) h =
      let z : length (sentence n f.missing) ≡ 0 = cc in absurd (omega (arith, sentence_some n f.missing, z))

  pub explain_nothing : (explained s c names line).answer ≡ passed 0 → Passed s c
  explain_nothing h = passes (explained_ends s c names line) h

  pub accepted_nothing : (a : Accepted) → judged s c ≡ passed a → explained s c names line ≡ record { answer = passed 0; lent = line }
  unfolding explained explanation written
  accepted_nothing a e = rw e refl

  -- The answer is never 18: where question 18 fails, there is a sentence or a number of its own.
  not_eighteen : {o : Outcome} → Explains s c names line o → o.answer ≡ failed 18 → ⊥
  not_eighteen (all_pass a e) h = let z : ◌≡◌ {A = ℕ} 0 1 = cc in absurd (omega arith)
  not_eighteen (fails_before q e l) h = let z : q ≡ 18 = cc in absurd (omega arith)
  not_eighteen (no_names e at r) h = let z : ◌≡◌ {A = ℕ} 40 18 = cc in absurd (omega arith)
  not_eighteen (no_room f n end e r l) h = let z : ◌≡◌ {A = ℕ} 19 18 = cc in absurd (omega arith)
  not_eighteen (tells f n end e r l) h = let z : ◌≡◌ {A = ℕ} 0 1 = cc in absurd (omega arith)

  pub explain_not_eighteen : (explained s c names line).answer ≡ failed 18 → ⊥
  explain_not_eighteen h = not_eighteen (explained_ends s c names line) h

-- A line of 230 bytes has room for every sentence: the sentence stands in it, and the bytes past it are kept.
pub always_said : (s c names line : List ℕ) (n : Names) (end : ℕ) (e : judged s c ≡ failed 18) → read_names names ≡ got n end
    → 230 ≤ length line
    → explained s c names line ≡ record {
      answer = passed (length (sentence n (refused_uncovered s c e).missing));
      lent = sentence n (refused_uncovered s c e).missing ++ drop (length (sentence n (refused_uncovered s c e).missing)) line;
    }
unfolding explained explanation said fitting ask written
always_said s c names line n end e r h =
    let f = refused_uncovered s c e in
    let l = missing_short s c names f n end r in
    rw (e, r, f.found, le-leb (length (sentence n f.missing)) (length line) (omega arith)) refl

-- Under one names file equal sentences tell the same: path, permission and kind.
pub explained_tells : (names : List ℕ) (n : Names) (end : ℕ) → read_names names ≡ got n end
    → (s c t d : List ℕ) (e : judged s c ≡ failed 18) (f : judged t d ≡ failed 18)
    → sentence n (refused_uncovered s c e).missing ≡ sentence n (refused_uncovered t d f).missing
    → (refused_uncovered s c e).missing ≡ (refused_uncovered t d f).missing
explained_tells names n end r s c t d e f h =
    sentence_tells names n end r (refused_uncovered s c e).missing (refused_uncovered t d f).missing
    (missing_numbered s c (refused_uncovered s c e)).numbered (missing_numbered t d (refused_uncovered t d f)).numbered h

-- So two calls with one names file and one line with room for every sentence, whose answers and lines come out equal, tell the same.
front_tells : (xs ys line : List ℕ) (o p : Outcome) → o ≡ p → o ≡ record { answer = passed (length xs); lent = xs ++ drop (length xs) line }
    → p ≡ record { answer = passed (length ys); lent = ys ++ drop (length ys) line } → xs ≡ ys
front_tells xs ys line o p e f g =
    let h : passed (length xs) ≡ passed (length ys) = ap (λ (o : Outcome). o.answer) (sym f ∙ e ∙ g) in
    let l : length ys ≡ length xs = cc in
    sym (take-append_seam xs (drop (length xs) line))
    ∙ ap (λ (o : Outcome). take (length xs) o.lent) (sym f ∙ e ∙ g)
    ∙ take_at ys (drop (length ys) line) (length xs) l

pub calls_tell : (names line : List ℕ) (n : Names) (end : ℕ) → read_names names ≡ got n end → 230 ≤ length line
    → (s c t d : List ℕ) (e : judged s c ≡ failed 18) (f : judged t d ≡ failed 18) → explained s c names line ≡ explained t d names line
    → (refused_uncovered s c e).missing ≡ (refused_uncovered t d f).missing
calls_tell names line n end r l s c t d e f h =
    explained_tells names n end r s c t d e f
    (front_tells (sentence n (refused_uncovered s c e).missing) (sentence n (refused_uncovered t d f).missing) line
    (explained s c names line) (explained t d names line) h
    (always_said s c names line n end e r l) (always_said t d names line n end f r l))
