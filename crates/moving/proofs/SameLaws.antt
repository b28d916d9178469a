-- Sameness (Q-7): "Under any charter without purpose maps the moved sheet is accepted, or refused by the same number of 1 to 18, as the old
-- one was just before Q-6, provided both forms fit in 4,096 bytes and the output is long enough for either interface."
use Prim.Native.Nat.{ℕ, ◌≤◌}
use mathlib.Core.Bool.{Bool, true, false, cond, ◌&&◌}
use mathlib.Core.List.{List, [], ◌∷◌}
use mathlib.Core.Path.{◌≡◌, refl, sym, ap, ◌∙◌}
use native.Mathlib.Omega.{arith}
use borrow.Author.Tests.{leb-true, le-leb}
use lib.Dec.{leb}
use lib.ListN.{length, take, length-append}
use Rattle.reading.specs.Dialects.{purposes_in}
use Rattle.reading.specs.Read.{Read, got, refused}
use Rattle.reading.specs.Syntax.{Sheet}
use Rattle.reading.specs.System.{read_sheet_in, sheet_of_in}
use Rattle.reading.specs.declared.Dialect.{Dialect}
use Rattle.reading.specs.declared.Dialect.TheVariants.{Old as old, Current as current}
use Rattle.reading.proofs.FormLaws.{both_true}
use Rattle.reading.proofs.Parts.{Every, passed as passes}
use Rattle.encoding.specs.Encoding.{purpose_bytes, sheet_bytes}
use Rattle.encoding.proofs.Sizes.{old_zeros}
use Rattle.inference.specs.Acts.{sheet_acts}
use Rattle.inference.specs.Interface.{Entry, interface, map_of, list_bytes, entry_bytes, interface_bytes}
use Rattle.inference.specs.Lists.{gather}
use Rattle.inference.proofs.GatherLaws.{gather_same}
use Rattle.policy.specs.Reading.{read_policy_in, read_policy, without_maps}
use Rattle.policy.specs.Syntax.{Tree}
use Rattle.policy.proofs.DialectLaws.{AlikeRead, both_read, neither_read, alike_read}
use Rattle.service.specs.Questions.{Asked, passed, failed, ask, after_reading, typed, Accepted, judged_from, judged}
use Rattle.service.specs.Check.{fitting, interface_for, written, checked}
use Rattle.service.proofs.FirstLaws.{failed_below}
use Rattle.service.proofs.RoomLaws.{accepted_short}
use Rattle.moving.specs.Moving.{upgraded}
use Rattle.moving.specs.Before.{judged_in, entry_bytes_in, interface_bytes_in, interface_for_in, checked_in}
use Rattle.moving.proofs.MoveLaws.{upgrade_moves, old_parts, upgrade_writes, read_again}

-- In the current dialect the questions, the interface and the service are those of now.
pub judged_now : (s c : List ℕ) → judged_in current s c ≡ judged s c
unfolding judged_in judged
judged_now s c = refl

pub interface_now : (es : List Entry) → interface_bytes_in current es ≡ interface_bytes es
unfolding interface_bytes_in interface_bytes entry_bytes_in entry_bytes purpose_bytes purposes_in
interface_now es = gather_same (entry_bytes_in current) entry_bytes (λ e. refl) es

pub check_now : (s c output : List ℕ) → checked_in current s c output ≡ checked s c output
unfolding checked_in checked
check_now s c output = ap (written output) (ap (interface_for_in current output) (judged_now s c) ∙ go (judged s c))
  where
    go : (x : Asked Accepted) → interface_for_in current output x ≡ interface_for output x
    go (passed a) = unfold interface_for_in interface_for in ap (fitting output) (interface_now (interface a.sheet))
    go (failed q) = unfold interface_for_in interface_for in refl

-- The interface of then is never longer than that of now.
entry_shorter : (e : Entry) → length (entry_bytes_in old e) ≤ length (entry_bytes e)
unfolding entry_bytes_in entry_bytes purpose_bytes purposes_in
entry_shorter e =
    omega (arith, length-append e.component.path (map_of e ∷ list_bytes e.disclose), length-append e.component.path (e.component.purpose ∷ map_of e ∷ list_bytes e.disclose))

pub interface_shorter : (es : List Entry) → length (interface_bytes_in old es) ≤ length (interface_bytes es)
unfolding interface_bytes_in interface_bytes gather
interface_shorter [] = omega arith
interface_shorter (e ∷ es) =
    omega (arith, entry_shorter e, interface_shorter es, length-append (entry_bytes_in old e) (gather (entry_bytes_in old) es), length-append (entry_bytes e) (gather entry_bytes es))

-- Readings that the questions do not tell apart: of the same value, or refused with the same question.
data SameRead {A : Type 0} : Read A → Read A → Type 0 where
  same_got : {a : A} {k m : ℕ} → SameRead (got a k) (got a m)
  same_refused : {q i j : ℕ} → SameRead (refused q i) (refused q j)

same_after : {A B : Type 0} {x y : Read A} (f g : A → Asked B) → SameRead x y → ((a : A) → f a ≡ g a) → after_reading x f ≡ after_reading y g
unfolding after_reading
same_after f g (same_got {a}) h = h a
same_after f g same_refused h = refl

same_typed : {A : Type 0} (sheet : Sheet) {x y : Asked A} → x ≡ y → typed (sheet_acts sheet) x ≡ typed (sheet_acts sheet) y
same_typed sheet e = ap (typed (sheet_acts sheet)) e

same_judged : {x x' : Read Sheet} {y y' : Read (List Tree)} → SameRead x x' → SameRead y y' → judged_from x y ≡ judged_from x' y'
unfolding judged_from
same_judged s c = same_after _ _ s (λ sheet. same_typed sheet (same_after _ _ c (λ policy. refl)))

-- A charter without purpose maps, whether it reads or not.
same_charter : (c : List ℕ) → AlikeRead c → SameRead (read_policy_in old c) (read_policy c)
same_charter c (both_read {p} {k} e f) = rw (e, f) same_got
same_charter c (neither_read e f) = rw (e, f) same_refused

-- The same answer, as far as it is one of acceptance or one of questions 1 to 18.
pub data Alike : Asked ℕ → Asked ℕ → Type 0 where
  both_accepted : {m n : ℕ} → Alike (passed m) (passed n)
  both_refused : {q : ℕ} → q ≤ 18 → Alike (failed q) (failed q)

-- Where both interfaces fit, both calls are accepted.
fit_both : (out : List ℕ) (a : Accepted) → (length (interface_bytes_in old (interface a.sheet)) ≤ length out) × (length (interface_bytes (interface a.sheet)) ≤ length out)
    → Alike (written out (interface_for_in old out (passed a))).answer (written out (interface_for out (passed a))).answer
unfolding interface_for_in interface_for fitting ask written
fit_both out a h =
    rw (le-leb (length (interface_bytes_in old (interface a.sheet))) (length out) h.0, le-leb (length (interface_bytes (interface a.sheet))) (length out) h.1) both_accepted

refused_both : (out : List ℕ) (q : ℕ) → q ≤ 18 → Alike (written out (interface_for_in old out (failed q))).answer (written out (interface_for out (failed q))).answer
unfolding interface_for_in interface_for written
refused_both out q h = both_refused h

-- A sheet beside a charter: it reads as alone, unless the charter is too long.
read_beside : (d : Dialect) (s c : List ℕ) {t : Sheet} {k : ℕ} → sheet_of_in d s [] ≡ got t k → leb (length c) 4096 ≡ true → sheet_of_in d s c ≡ got t k
unfolding sheet_of_in
read_beside d s c e h =
    let p = passes (leb (length s) 4096 && leb 0 4096) (read_sheet_in d s) 1 4096 e in
    rw ((both_true (leb (length s) 4096) (leb 0 4096) p.test).0, h) p.then

charter_long : (d : Dialect) (s c : List ℕ) → leb (length c) 4096 ≡ false → sheet_of_in d s c ≡ refused 1 4096
unfolding sheet_of_in
charter_long d s c h = rw h (go (leb (length s) 4096))
  where
    go : (b : Bool) → cond (b && false) (read_sheet_in d s) (refused 1 4096) ≡ refused 1 4096
    go true = refl
    go false = refl

-- A sheet that was moved.
module _ (s output : List ℕ) (n : ℕ) (e : (upgraded s output).answer ≡ passed n) where
  abbrev tree : Sheet
  tree = (upgrade_moves s output n e).tree

  -- the sheet's new form
  abbrev pub new : List ℕ
  new = take n (upgraded s output).lent

  same_sheet : (c : List ℕ) → SameRead (sheet_of_in old s c) (sheet_of_in current new c)
  same_sheet c = go (leb (length c) 4096) refl
    where
      go : (b : Bool) → leb (length c) 4096 ≡ b → SameRead (sheet_of_in old s c) (sheet_of_in current new c)
      go true h =
          let m = upgrade_moves s output n e in
          let p = old_parts s output n e in
          let short = leb-true (length (sheet_bytes current tree)) 4096 m.passes in
          let r = read_again old current s c p (old_zeros s [] p) short (leb-true (length c) 4096 h) in
          rw (read_beside old s c m.reads h, upgrade_writes s output n e, r) same_got
      go false h = rw (charter_long old s c h, charter_long current new c h) same_refused

  -- Questions 1 to 18 come to the same, in an old sheet as they were then and in the moved one as they are now.
  pub same_verdict : (c : List ℕ) → Every (λ policy. without_maps policy ≡ true) (read_policy c)
      → judged_in old s c ≡ judged (take n (upgraded s output).lent) c
  unfolding judged_in judged
  same_verdict c w = same_judged (same_sheet c) (same_charter c (alike_read c w))

  -- The services' answers are alike, "provided .. the output is long enough for either interface".
  pub same_answer : (c out : List ℕ) → Every (λ policy. without_maps policy ≡ true) (read_policy c)
      → ((a : Accepted) → judged_in old s c ≡ passed a
      → (length (interface_bytes_in old (interface a.sheet)) ≤ length out) × (length (interface_bytes (interface a.sheet)) ≤ length out))
      → Alike (checked_in old s c out).answer (checked (take n (upgraded s output).lent) c out).answer
  unfolding checked_in checked
  same_answer c out w room = rw (← same_verdict c w) (go (judged_in old s c) refl)
    where
      go : (x : Asked Accepted) → judged_in old s c ≡ x
          → Alike (written out (interface_for_in old out x)).answer (written out (interface_for out x)).answer
      go (passed a) h = fit_both out a (room a h)
      go (failed q) h = refused_both out q (omega (arith, failed_below new c q (sym (same_verdict c w) ∙ h)))

  -- So an output of 18,944 bytes is long enough for either.
  pub same_in_room : (c out : List ℕ) → Every (λ policy. without_maps policy ≡ true) (read_policy c) → 18944 ≤ length out
      → Alike (checked_in old s c out).answer (checked (take n (upgraded s output).lent) c out).answer
  same_in_room c out w h = same_answer c out w (λ a e.
      let k = accepted_short new c a (sym (same_verdict c w) ∙ e) in
      (omega (arith, interface_shorter (interface a.sheet)), omega arith))
