-- The first question that fails, `first_failed` of what `judged` answers: below 64 it is the number that `judged` fails with; else
-- `judged` passes, since each number that it fails with is below 19, and the sheet reads.
use Prim.Native.Nat.{ℕ, ◌<◌, ◌≤◌}
use mathlib.Core.Path.{◌≡◌, refl}
use mathlib.Core.List.{List}
use mathlib.Core.Bool.{Bool, true, false}
use native.Mathlib.Omega.{arith}
use Rattle.reading.specs.Read.{Read, got, refused}
use Rattle.reading.specs.System.{sheet_of}
use Rattle.reading.proofs.QuestionLaws.{sheet_question}
use Rattle.inference.specs.Acts.{Act, sheet_acts}
use Rattle.inference.specs.Interface.{Required, required_of}
use Rattle.policy.specs.Syntax.{Tree}
use Rattle.policy.specs.Reading.{read_policy}
use Rattle.policy.specs.WellFormed.{nodes_fault}
use Rattle.wellformed.proofs.OrderLaws.{nodes_below}
use Rattle.service.specs.Questions.{Asked, passed, failed, ask, after_reading, typed, well_formed, satisfied, Accepted, judged_from, judged}
use Rattle.service.specs.Told.{first_failed}
use Rattle.service.proofs.JudgeLaws.{policy_eleven}

-- P holds of what passes, and the number of a question that fails is below 19.
unfoldable Ends : {A : Type 0} → (A → Type 0) → Asked A → Type 0
Ends P (passed a) = P a
Ends P (failed n) = n < 19

module _ {A : Type 0} (P : A → Type 0) where
  ends_passed : (a : A) → P a → Ends P (passed a)
  unfolding Ends
  ends_passed a h = h

  ends_ask : (n : ℕ) (b : Bool) (rest : Asked A) → n < 19 → Ends P rest → Ends P (ask n b rest)
  unfolding Ends ask
  ends_ask n true rest h e = e
  ends_ask n false rest h e = h

  ends_reading : {B : Type 0} (r : Read B) (f : B → Asked A) → ((q at : ℕ) → r ≡ refused q at → q < 19)
      → ((b : B) (k : ℕ) → r ≡ got b k → Ends P (f b)) → Ends P (after_reading r f)
  unfolding Ends after_reading
  ends_reading (got b k) f h g = g b k refl
  ends_reading (refused q at) f h g = h q at refl

  ends_typed : (acts : List Act) (rest : Asked A) → Ends P rest → Ends P (typed acts rest)
  unfolding typed
  ends_typed acts rest e =
      ends_ask 7 _ _ (omega arith) (ends_ask 8 _ _ (omega arith) (ends_ask 9 _ _ (omega arith) (ends_ask 10 _ _ (omega arith) e)))

  ends_formed : (policy : List Tree) (rest : Asked A) → Ends P rest → Ends P (well_formed policy rest)
  unfolding well_formed
  ends_formed policy rest e =
      ends_ask 12 _ _ (omega arith) (ends_ask (nodes_fault policy) _ _ (omega (arith, nodes_below policy)) (ends_ask 15 _ _ (omega arith) e))

  ends_satisfied : (policy : List Tree) (required : Required) (rest : Asked A) → Ends P rest → Ends P (satisfied policy required rest)
  unfolding satisfied
  ends_satisfied policy required rest e = ends_ask 16 _ _ (omega arith) (ends_ask 17 _ _ (omega arith) (ends_ask 18 _ _ (omega arith) e))

-- The bytes read as the sheet that is accepted.
pub record ReadsAs (s c : List ℕ) (a : Accepted) : Type 0 where
  pub end : ℕ
  pub reads : sheet_of s c ≡ got a.sheet end

judged_ends : (s c : List ℕ) → Ends (ReadsAs s c) (judged s c)
unfolding judged judged_from
judged_ends s c =
    ends_reading (ReadsAs s c) (sheet_of s c) _ (λ q at e. let h = sheet_question s c e in omega (arith, h.last)) (λ sheet k e.
    ends_typed (ReadsAs s c) (sheet_acts sheet) _
    (ends_reading (ReadsAs s c) (read_policy c) _ (λ q at f. omega (arith, policy_eleven c q at f)) (λ policy m f.
    ends_formed (ReadsAs s c) policy _
    (ends_satisfied (ReadsAs s c) policy (required_of sheet) _
    (ends_passed (ReadsAs s c) (record { sheet = sheet; policy = policy }) (record { end = k; reads = e }))))))

pub passed_reads : (s c : List ℕ) (a : Accepted) → judged s c ≡ passed a → ReadsAs s c a
unfolding Ends
passed_reads s c a h = rw h at (judged_ends s c)

pub failed_below : (s c : List ℕ) (n : ℕ) → judged s c ≡ failed n → n < 19
unfolding Ends
failed_below s c n h = rw h at (judged_ends s c)

-- A sheet and a charter that pass questions 1 to 18.
pub record Passed (s c : List ℕ) : Type 0 where
  pub accepted : Accepted
  pub passes : judged s c ≡ passed accepted
  pub end : ℕ
  pub reads : sheet_of s c ≡ got accepted.sheet end

pub first_passes : (s c : List ℕ) → 64 ≤ first_failed (judged s c) → Passed s c
unfolding Ends first_failed
first_passes s c h = go (judged s c) refl (judged_ends s c) h
  where
    go : (x : Asked Accepted) → judged s c ≡ x → Ends (ReadsAs s c) x → 64 ≤ first_failed x → Passed s c
    go (passed a) e r h = record { accepted = a; passes = e; end = r.end; reads = r.reads }
    go (failed n) e r h = absurd (omega (arith, r, h))

pub first_fails : (s c : List ℕ) → first_failed (judged s c) < 64 → judged s c ≡ failed (first_failed (judged s c))
unfolding first_failed
first_fails s c h = go (judged s c) h
  where
    go : (x : Asked Accepted) → first_failed x < 64 → x ≡ failed (first_failed x)
    go (passed a) h = absurd (omega (arith, h))
    go (failed n) h = refl
