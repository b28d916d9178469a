-- The first question that fails, as the code finds it, is the number with which document 01's questions in order end.
use Prim.Native.Nat.{ℕ, ◌<◌, ◌≤◌, min}
use mathlib.Core.Path.{◌≡◌, refl, sym, ap, ap₂, ◌∙◌}
use mathlib.Core.List.{List, [], ◌∷◌, ◌++◌, map}
use mathlib.Core.Bool.{Bool, true, false, cond, ◌&&◌}
use native.Mathlib.Omega.{arith}
use lib.Dec.{ltb, eqb}
use borrow.Author.Tests.{lt-ltb, le-ltb, ltb-true, ltb-false}
use Rattle.reading.specs.Read.{Read, got, refused}
use Rattle.reading.specs.Syntax.{Sheet}
use Rattle.reading.specs.System.{sheet_of}
use Rattle.inference.specs.Lists.{every, only, gather, rising}
use Rattle.inference.specs.Acts.{Located, acts_of, sheet_acts, located}
use Rattle.inference.specs.Typing.{in_scope, on_channel, carries_object, in_path}
use Rattle.inference.specs.Interface.{Entry, entry_of, interface, entries_of, holds_any, Required, required_of}
use Rattle.inference.specs.Walks.{worst_all}
use Rattle.inference.proofs.FaultLaws.{first_no, sheet_fault}
use Rattle.policy.specs.Syntax.{Tree}
use Rattle.policy.specs.Reading.{read_policy_in, read_policy, as_eleven}
use Rattle.policy.specs.WellFormed.{kinds_distinct, nodes_fault, fenced}
use Rattle.fit.specs.Satisfies.{has_tree, path_reached, covered}
use Rattle.wellformed.specs.Faults.{policy_fault}
use Rattle.wellformed.proofs.OrderLaws.{nodes_below}
use Rattle.fit.specs.Faults.{entry_fault, entries_fault}
use Rattle.service.specs.Questions.{Asked, passed, failed, ask, after_reading, typed, well_formed, satisfied, Accepted, judged_from, judged}
use Rattle.service.specs.Later.{or_passed, policy_then_entries, after_policy, later_fault}
use Rattle.service.specs.Told.{first_failed}

-- a number below a bound ends the questions, any other lets them go on
unfoldable pub ends_below : {A : Type 0} → ℕ → ℕ → Asked A → Asked A
ends_below bound number rest = cond (ltb number bound) (failed number) rest

asked_four : {A : Type 0} (a b c d : Bool) (rest : Asked A)
    → ask 7 a (ask 8 b (ask 9 c (ask 10 d rest))) ≡ ends_below 11 (first_no a b c d) rest
unfolding ask ends_below first_no
asked_four false b c d rest = refl
asked_four true false c d rest = refl
asked_four true true false d rest = refl
asked_four true true true false rest = refl
asked_four true true true true rest = refl

pub typed_ends : {A : Type 0} (sheet : Sheet) (rest : Asked A) → typed (sheet_acts sheet) rest ≡ ends_below 11 (worst_all (located sheet)) rest
unfolding typed
typed_ends sheet rest =
    asked_four (every in_scope (sheet_acts sheet)) (every on_channel (sheet_acts sheet)) (every carries_object (sheet_acts sheet)) (every in_path (sheet_acts sheet)) rest
    ∙ ap (λ (n : ℕ). ends_below 11 n rest) (sym (sheet_fault sheet))

asked_policy : {A : Type 0} (a : Bool) (n : ℕ) (d : Bool) (rest : Asked A) → n ≤ 14
    → ask 12 a (ask n (eqb n 0) (ask 15 d rest)) ≡ ends_below 16 (cond a (cond (eqb n 0) (cond d 16 15) n) 12) rest
unfolding ask ends_below
asked_policy false n d rest h = refl
asked_policy true n d rest h = go (eqb n 0) d
  where
    go : (b d : Bool) → ask n b (ask 15 d rest) ≡ ends_below 16 (cond b (cond d 16 15) n) rest
    go true true = refl
    go true false = refl
    go false d = rw (lt-ltb n 16 (omega arith))

pub policy_ends : {A : Type 0} (policy : List Tree) (rest : Asked A) → well_formed policy rest ≡ ends_below 16 (policy_fault policy) rest
unfolding well_formed policy_fault
policy_ends policy rest = asked_policy (kinds_distinct policy) (nodes_fault policy) (fenced policy) rest (nodes_below policy)

-- the first of three questions that is answered no
unfoldable first_of : Bool → Bool → Bool → ℕ
first_of a b c = cond a (cond b (cond c 19 18) 17) 16

least_16 : (a b c : Bool) → 16 ≤ first_of a b c
unfolding first_of
least_16 false b c = omega arith
least_16 true false c = omega arith
least_16 true true false = omega arith
least_16 true true true = omega arith

least_17 : (b c : Bool) → 17 ≤ first_of true b c
unfolding first_of
least_17 false c = omega arith
least_17 true false = omega arith
least_17 true true = omega arith

first_both : (a b c d e f : Bool) → min (first_of a b c) (first_of d e f) ≡ first_of (a && d) (b && e) (c && f)
unfolding first_of
first_both false b c d e f = omega (arith, least_16 d e f)
first_both true b c false e f = omega (arith, least_16 true b c)
first_both true false c true e f = omega (arith, least_17 e f)
first_both true true c true false f = omega (arith, least_17 true c)
first_both true true false true true false = refl
first_both true true false true true true = refl
first_both true true true true true false = refl
first_both true true true true true true = refl

-- Entries that hold a permission each.
pub data AllHold : List Entry → Type 0 where
  hold_none : AllHold []
  hold_more : {e : Entry} {rest : List Entry} → holds_any e ≡ true → AllHold rest → AllHold (e ∷ rest)

entry_first : (policy : List Tree) (required : Required) (e : Entry) → holds_any e ≡ true
    → entry_fault policy required e ≡ first_of (has_tree policy e) (path_reached policy e) (covered policy required e)
unfolding entry_fault first_of
entry_first policy required e h = rw h refl

entries_first : (policy : List Tree) (required : Required) {es : List Entry} → AllHold es
    → entries_fault policy required es ≡ first_of (every (has_tree policy) es) (every (path_reached policy) es) (every (covered policy required) es)
unfolding entries_fault every
entries_first policy required hold_none = unfold first_of in refl
entries_first policy required (hold_more {e = e} {rest = rest} h more) =
    ap₂ min (entry_first policy required e h) (entries_first policy required more)
    ∙ first_both (has_tree policy e) (path_reached policy e) (covered policy required e)
    (every (has_tree policy) rest) (every (path_reached policy) rest) (every (covered policy required) rest)

asked_three : {A : Type 0} (a b c : Bool) (rest : Asked A) → ask 16 a (ask 17 b (ask 18 c rest)) ≡ ends_below 19 (first_of a b c) rest
unfolding ask ends_below first_of
asked_three false b c rest = refl
asked_three true false c rest = refl
asked_three true true false rest = refl
asked_three true true true rest = refl

entries_end : {A : Type 0} (policy : List Tree) (required : Required) → AllHold required.entries → (rest : Asked A)
    → satisfied policy required rest ≡ ends_below 19 (entries_fault policy required required.entries) rest
unfolding satisfied
entries_end policy required h rest =
    asked_three (every (has_tree policy) required.entries) (every (path_reached policy) required.entries) (every (covered policy required) required.entries) rest
    ∙ ap (λ (n : ℕ). ends_below 19 n rest) (sym (entries_first policy required h))

-- the entries of an interface hold a permission each
hold_append : {xs ys : List Entry} → AllHold xs → AllHold ys → AllHold (xs ++ ys)
hold_append hold_none h = h
hold_append (hold_more e more) h = hold_more e (hold_append more h)

hold_cond : (e : Entry) (rest : List Entry) → AllHold rest → (b : Bool) → holds_any e ≡ b → AllHold (cond b (e ∷ rest) rest)
hold_cond e rest more true h = hold_more h more
hold_cond e rest more false h = more

hold_only : (es : List Entry) → AllHold (only holds_any es)
unfolding only
hold_only [] = hold_none
hold_only (e ∷ rest) = hold_cond e (only holds_any rest) (hold_only rest) (holds_any e) refl

hold_gather : (ls : List Located) → AllHold (gather entries_of ls)
unfolding gather entries_of
hold_gather [] = hold_none
hold_gather (l ∷ rest) = hold_append (hold_only (map (entry_of l.component (acts_of l)) (rising 0 16))) (hold_gather rest)

interface_holds : (sheet : Sheet) → AllHold (required_of sheet).entries
unfolding required_of interface
interface_holds sheet = hold_gather (located sheet)

-- a charter that does not read fails question 11
eleven : {A : Type 0} (r : Read A) (q at : ℕ) → as_eleven r ≡ refused q at → q ≡ 11
unfolding as_eleven
eleven (got a next) q at e = let z : ◌≡◌ {A = ℕ} 0 1 = cc in absurd (omega arith)
eleven (refused p m) q at e = cc

pub policy_eleven : (c : List ℕ) (q at : ℕ) → read_policy c ≡ refused q at → q ≡ 11
unfolding read_policy_in
policy_eleven c q at e = eleven _ q at e

ends_now : {A : Type 0} (bound number : ℕ) (rest : Asked A) → number < bound → ends_below bound number rest ≡ failed number
unfolding ends_below
ends_now bound number rest h = rw (lt-ltb number bound h) refl

goes_on : {A : Type 0} (bound number : ℕ) (rest : Asked A) → bound ≤ number → ends_below bound number rest ≡ rest
unfolding ends_below
goes_on bound number rest h = rw (le-ltb number bound h) refl

-- Questions 11 to 18 after a sheet that passes 1 to 10.
unfoldable later : Sheet → Read (List Tree) → Asked Accepted
later sheet read =
    after_reading read (λ policy. well_formed policy (satisfied policy (required_of sheet) (passed (record { sheet = sheet; policy = policy }))))

judged_by : (c : List ℕ) (r : Read Sheet) (sheet : Sheet) (k : ℕ) → r ≡ got sheet k
    → after_reading r (λ sh. typed (sheet_acts sh) (later sh (read_policy c))) ≡ typed (sheet_acts sheet) (later sheet (read_policy c))
unfolding after_reading
judged_by c r sheet k e = rw e refl

judged_from_lem : (s c : List ℕ) (sheet : Sheet) (k : ℕ) → sheet_of s c ≡ got sheet k
    → judged s c ≡ typed (sheet_acts sheet) (later sheet (read_policy c))
unfolding judged judged_from later
judged_from_lem s c sheet k e = judged_by c (sheet_of s c) sheet k e

judged_read : (s c : List ℕ) (sheet : Sheet) (k : ℕ) → sheet_of s c ≡ got sheet k
    → judged s c ≡ ends_below 11 (worst_all (located sheet)) (later sheet (read_policy c))
judged_read s c sheet k e = judged_from_lem s c sheet k e ∙ typed_ends sheet (later sheet (read_policy c))

-- 64 lets the questions go on where 19 did
ends_passed : {A : Type 0} (number : ℕ) (rest : Asked A) → ends_below 19 number rest ≡ ends_below 64 (or_passed number) rest
unfolding ends_below or_passed
ends_passed number rest = go (ltb number 19) refl
  where
    go : (b : Bool) → ltb number 19 ≡ b → cond b (failed number) rest ≡ cond (ltb (cond b number 64) 64) (failed (cond b number 64)) rest
    go true e = rw (lt-ltb number 64 (omega (arith, ltb-true number 19 e))) refl
    go false e = refl

later_policy : (sheet : Sheet) (policy : List Tree) (rest : Asked Accepted)
    → well_formed policy (satisfied policy (required_of sheet) rest) ≡ ends_below 64 (policy_then_entries policy (required_of sheet)) rest
later_policy sheet policy rest =
    policy_ends policy (satisfied policy (required_of sheet) rest)
    ∙ ap (ends_below 16 (policy_fault policy)) (entries_end policy (required_of sheet) (interface_holds sheet) rest ∙ ends_passed _ rest)
    ∙ go (ltb (policy_fault policy) 16) refl
  where
    go : (b : Bool) → ltb (policy_fault policy) 16 ≡ b
        → ends_below 16 (policy_fault policy) (ends_below 64 (or_passed (entries_fault policy (required_of sheet) (required_of sheet).entries)) rest)
        ≡ ends_below 64 (policy_then_entries policy (required_of sheet)) rest
    go true e = unfold ends_below policy_then_entries in rw (e, lt-ltb (policy_fault policy) 64 (omega (arith, ltb-true (policy_fault policy) 16 e))) refl
    go false e = unfold ends_below policy_then_entries in rw e refl

-- No number is above 64, with which questions 11 to 18 pass.
passed_most : (number : ℕ) → or_passed number ≤ 64
unfolding or_passed
passed_most number = go (ltb number 19) refl
  where
    go : (b : Bool) → ltb number 19 ≡ b → cond b number 64 ≤ 64
    go true e = omega (arith, ltb-true number 19 e)
    go false e = omega arith

later_most : (policy : List Tree) (required : Required) → policy_then_entries policy required ≤ 64
unfolding policy_then_entries
later_most policy required = go (ltb (policy_fault policy) 16) refl
  where
    go : (b : Bool) → ltb (policy_fault policy) 16 ≡ b → cond b (policy_fault policy) (or_passed (entries_fault policy required required.entries)) ≤ 64
    go true e = omega (arith, ltb-true (policy_fault policy) 16 e)
    go false e = passed_most (entries_fault policy required required.entries)

first_of_last : (number : ℕ) (a : Accepted) → number ≤ 64 → first_failed (ends_below 64 number (passed a)) ≡ number
unfolding ends_below first_failed
first_of_last number a h = go (ltb number 64) refl
  where
    go : (b : Bool) → ltb number 64 ≡ b → first_failed (cond b (failed number) (passed a)) ≡ number
    go true e = refl
    go false e = omega (arith, ltb-false number 64 e)

later_first : (sheet : Sheet) (c : List ℕ) (r : Read (List Tree)) → read_policy c ≡ r
    → first_failed (later sheet r) ≡ after_policy r (required_of sheet)
unfolding later after_policy after_reading first_failed
later_first sheet c (got policy next) e =
    ap first_failed (later_policy sheet policy (passed (record { sheet = sheet; policy = policy })))
    ∙ first_of_last (policy_then_entries policy (required_of sheet)) (record { sheet = sheet; policy = policy }) (later_most policy (required_of sheet))
later_first sheet c (refused q at) e = refl

-- The first question that a sheet fails: by the reading, else by the walk's answer, else by the charter's.
pub judged_refused : (s c : List ℕ) (q at : ℕ) → sheet_of s c ≡ refused q at → judged s c ≡ failed q
unfolding judged judged_from
judged_refused s c q at e = rw e (unfold after_reading in refl)

pub judged_typing : (s c : List ℕ) (sheet : Sheet) (k : ℕ) → sheet_of s c ≡ got sheet k → worst_all (located sheet) < 11
    → worst_all (located sheet) ≡ first_failed (judged s c)
unfolding first_failed
judged_typing s c sheet k e h =
    sym (ap first_failed (judged_read s c sheet k e ∙ ends_now 11 (worst_all (located sheet)) (later sheet (read_policy c)) h))

pub judged_later : (s c : List ℕ) (sheet : Sheet) (k : ℕ) → sheet_of s c ≡ got sheet k → 11 ≤ worst_all (located sheet)
    → later_fault c (required_of sheet) ≡ first_failed (judged s c)
unfolding later_fault
judged_later s c sheet k e h =
    sym (ap first_failed (judged_read s c sheet k e ∙ goes_on 11 (worst_all (located sheet)) (later sheet (read_policy c)) h)
    ∙ later_first sheet c (read_policy c) refl)
