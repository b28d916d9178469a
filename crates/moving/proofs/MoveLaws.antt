-- The promises of Q-7 on the way there and back: what an accepted call writes is the sheet's other form; going back restores the bytes,
-- and so does returning; 4,096 bytes of output always suffice; and which numbers a call is refused with.
use Prim.Native.Nat.{ℕ, ◌≤◌}
use mathlib.Core.Bool.{Bool, true, false}
use mathlib.Core.List.{List, [], ◌++◌}
use mathlib.Core.Path.{◌≡◌, refl, sym, ap, ◌∙◌}
use mathlib.Core.Logic.{◌⊎◌, inl, inr, ⊎_elim}
use native.Mathlib.Omega.{arith}
use borrow.Author.Tests.{leb-true, le-leb}
use lib.Dec.{leb}
use lib.ListN.{length, take, drop}
use lib.Seq.{take-append_seam}
use Rattle.reading.specs.Read.{Read, got, refused}
use Rattle.reading.specs.Syntax.{Sheet}
use Rattle.reading.specs.System.{sheet_of_in}
use Rattle.reading.specs.declared.Dialect.{Dialect}
use Rattle.reading.specs.declared.Dialect.TheVariants.{Old as old, Current as current}
use Rattle.reading.proofs.QuestionLaws.{Early, sheet_question_in}
use Rattle.reading.proofs.TreeLaws.{SheetPartsIn, sheet_parts_in}
use Rattle.encoding.specs.Encoding.{sheet_bytes, purposes, all_zero}
use Rattle.encoding.proofs.Stored.{sheet_stored}
use Rattle.encoding.proofs.ReadBack.{sheet_read}
use Rattle.encoding.proofs.Sizes.{sheet_longer, old_zeros}
use Rattle.service.specs.Questions.{Asked, passed, failed, ask, after_reading}
use Rattle.service.specs.Check.{Outcome, fitting, written}
use Rattle.moving.specs.Moving.{new_form, old_form, upgraded, downgraded}

never_passed : {A : Type 0} {P : Type 0} {a : A} {q : ℕ} → failed q ≡ passed a → P
never_passed e = let z : ◌≡◌ {A = ℕ} 0 1 = cc in absurd (omega arith)

-- What both services ask: questions 1 to 6 in a dialect, then one question of the sheet, then 19.
module _ (d : Dialect) (k : ℕ) (test : Sheet → Bool) (bytes : Sheet → List ℕ) (s output : List ℕ) where
  abbrev pub asked : Asked (List ℕ)
  asked = after_reading (sheet_of_in d s []) (λ t. ask k (test t) (fitting output (bytes t)))

  -- A sheet that passes them, and what stands in the output then.
  pub record Moves (n : ℕ) : Type 0 where
    pub tree : Sheet
    pub end : ℕ
    pub reads : sheet_of_in d s [] ≡ got tree end
    pub passes : test tree ≡ true
    pub long : n ≡ length (bytes tree)
    pub is : take n (written output asked).lent ≡ bytes tree

  abbrev pub moved : List ℕ → Outcome
  moved form = record { answer = passed (length form); lent = form ++ drop (length form) output }

  pub passing : (t : Sheet) (end : ℕ) → sheet_of_in d s [] ≡ got t end → test t ≡ true → length (bytes t) ≤ length output → written output asked ≡ moved (bytes t)
  unfolding after_reading ask fitting written
  passing t end e p h = rw (e, p, le-leb (length (bytes t)) (length output) h)

  -- The outcome by what the reading and the two tests say.
  abbrev by : Read Sheet → Outcome
  by x = written output (after_reading x (λ t. ask k (test t) (fitting output (bytes t))))

  moves_made : (n end : ℕ) (t : Sheet) → sheet_of_in d s [] ≡ got t end → test t ≡ true → leb (length (bytes t)) (length output) ≡ true
      → passed (length (bytes t)) ≡ passed n → Moves n
  moves_made n end t e p h f =
      let z : length (bytes t) ≡ n = cc in
      let o : written output asked ≡ moved (bytes t) = passing t end e p (leb-true (length (bytes t)) (length output) h) in
      record {
        tree = t;
        end = end;
        reads = e;
        passes = p;
        long = sym z;
        is = rw (o, ← z) (take-append_seam (bytes t) (drop (length (bytes t)) output));
      }

  accepted_tests : (n end : ℕ) (t : Sheet) → sheet_of_in d s [] ≡ got t end → (b c : Bool) → test t ≡ b → leb (length (bytes t)) (length output) ≡ c
      → (written output (ask k b (ask 19 c (passed (bytes t))))).answer ≡ passed n → Moves n
  unfolding ask written
  accepted_tests n end t e true true p h f = moves_made n end t e p h f
  accepted_tests n end t e true false p h f = never_passed f
  accepted_tests n end t e false c p h f = never_passed f

  accepted_read : (n : ℕ) (x : Read Sheet) → sheet_of_in d s [] ≡ x → (by x).answer ≡ passed n → Moves n
  unfolding after_reading fitting written
  accepted_read n (got t end) e f = accepted_tests n end t e (test t) (leb (length (bytes t)) (length output)) refl refl f
  accepted_read n (refused q p) e f = never_passed f

  pub accepted : (n : ℕ) → (written output asked).answer ≡ passed n → Moves n
  accepted n e = accepted_read n (sheet_of_in d s []) refl e

  -- The numbers that a call is refused with.
  refused_tests : (q : ℕ) (t : Sheet) (b c : Bool) → (written output (ask k b (ask 19 c (passed (bytes t))))).answer ≡ failed q → (q ≡ k) ⊎ (q ≡ 19)
  unfolding ask written
  refused_tests q t true true f = never_passed (sym f)
  refused_tests q t true false f = let z : ◌≡◌ {A = ℕ} 19 q = cc in inr (sym z)
  refused_tests q t false c f = let z : k ≡ q = cc in inl (sym z)

  refused_read : (q : ℕ) (x : Read Sheet) → sheet_of_in d s [] ≡ x → (by x).answer ≡ failed q → Early q ⊎ ((q ≡ k) ⊎ (q ≡ 19))
  unfolding after_reading fitting written
  refused_read q (got t end) e f = inr (refused_tests q t (test t) (leb (length (bytes t)) (length output)) f)
  refused_read q (refused p at) e f = let z : p ≡ q = cc in inl (rw z at (sheet_question_in d s [] e))

  pub refused_with : (q : ℕ) → (written output asked).answer ≡ failed q → Early q ⊎ ((q ≡ k) ⊎ (q ≡ 19))
  refused_with q e = refused_read q (sheet_of_in d s []) refl e

-- A sheet read from its bytes in another dialect, if they are few enough.
pub read_again : (d to : Dialect) (s : List ℕ) {t : Sheet} {k : ℕ} (charter : List ℕ) → SheetPartsIn d s [] t k → all_zero (purposes t.system) ≡ true
    → length (sheet_bytes to t) ≤ 4096 → length charter ≤ 4096 → sheet_of_in to (sheet_bytes to t) charter ≡ got t (length (sheet_bytes to t))
unfolding sheet_of_in
read_again d to s {t} charter p zs h c = rw (le-leb (length (sheet_bytes to t)) 4096 h, le-leb (length charter) 4096 c) (sheet_read d to s [] p zs)

-- What each service asks.
abbrev new_fits : Sheet → Bool
new_fits t = leb (length (sheet_bytes current t)) 4096

abbrev ordinary : Sheet → Bool
ordinary t = all_zero (purposes t.system)

-- "With an output long enough, where old to new succeeds, going back restores the old bytes".
module _ (s output : List ℕ) (n : ℕ) (e : (upgraded s output).answer ≡ passed n) where
  pub upgrade_moves : Moves old 1 new_fits (sheet_bytes current) s output n
  unfolding upgraded new_form
  upgrade_moves = accepted old 1 new_fits (sheet_bytes current) s output n e

  pub old_parts : SheetPartsIn old s [] upgrade_moves.tree upgrade_moves.end
  old_parts = sheet_parts_in old s [] upgrade_moves.reads

  pub upgrade_writes : take n (upgraded s output).lent ≡ sheet_bytes current upgrade_moves.tree
  unfolding upgraded new_form
  upgrade_writes = upgrade_moves.is

  pub upgrade_short : n ≤ 4096
  upgrade_short = omega (arith, upgrade_moves.long, leb-true (length (sheet_bytes current upgrade_moves.tree)) 4096 upgrade_moves.passes)

  pub upgrade_back : (back : List ℕ) → length s ≤ length back
      → downgraded (take n (upgraded s output).lent) back ≡ record { answer = passed (length s); lent = s ++ drop (length s) back }
  unfolding downgraded old_form
  upgrade_back back h =
      let t = upgrade_moves.tree in
      let zs : all_zero (purposes t.system) ≡ true = old_zeros s [] old_parts in
      let same : sheet_bytes old t ≡ s = sheet_stored old s [] old_parts in
      let r = read_again old current s [] old_parts zs (leb-true (length (sheet_bytes current t)) 4096 upgrade_moves.passes) (omega arith) in
      rw (upgrade_writes) (passing current 41 ordinary (sheet_bytes old) (sheet_bytes current t) back t (length (sheet_bytes current t)) r zs (rw same h) ∙ rw same)

-- "where going back succeeds, returning restores the new ones".
module _ (s output : List ℕ) (n : ℕ) (e : (downgraded s output).answer ≡ passed n) where
  pub downgrade_moves : Moves current 41 ordinary (sheet_bytes old) s output n
  unfolding downgraded old_form
  downgrade_moves = accepted current 41 ordinary (sheet_bytes old) s output n e

  pub new_parts : SheetPartsIn current s [] downgrade_moves.tree downgrade_moves.end
  new_parts = sheet_parts_in current s [] downgrade_moves.reads

  pub downgrade_writes : take n (downgraded s output).lent ≡ sheet_bytes old downgrade_moves.tree
  unfolding downgraded old_form
  downgrade_writes = downgrade_moves.is

  restored : sheet_bytes current downgrade_moves.tree ≡ s
  restored = sheet_stored current s [] new_parts

  pub downgrade_short : n ≤ 4096
  downgrade_short = omega (arith, downgrade_moves.long, sheet_longer downgrade_moves.tree, ap length restored, new_parts.short)

  pub downgrade_back : (back : List ℕ) → length s ≤ length back
      → upgraded (take n (downgraded s output).lent) back ≡ record { answer = passed (length s); lent = s ++ drop (length s) back }
  unfolding upgraded new_form
  downgrade_back back h =
      let t = downgrade_moves.tree in
      let fits : leb (length (sheet_bytes current t)) 4096 ≡ true = le-leb (length (sheet_bytes current t)) 4096 (omega (arith, ap length restored, new_parts.short)) in
      let r = read_again current old s [] new_parts downgrade_moves.passes (omega (arith, sheet_longer t, ap length restored, new_parts.short)) (omega arith) in
      rw (downgrade_writes) (passing old 1 new_fits (sheet_bytes current) (sheet_bytes old t) back t (length (sheet_bytes old t)) r fits (rw restored h) ∙ rw restored)

-- 4,096 bytes of output suffice: a sheet that passes what is asked before 19 is moved.
pub upgrade_always_room : (s output : List ℕ) (t : Sheet) (end : ℕ) → sheet_of_in old s [] ≡ got t end → length (sheet_bytes current t) ≤ 4096 → 4096 ≤ length output
    → (upgraded s output).answer ≡ passed (length (sheet_bytes current t))
unfolding upgraded new_form
upgrade_always_room s output t end e h k =
    ap (λ (o : Outcome). o.answer) (passing old 1 new_fits (sheet_bytes current) s output t end e (le-leb (length (sheet_bytes current t)) 4096 h) (omega arith))

pub downgrade_always_room : (s output : List ℕ) (t : Sheet) (end : ℕ) → sheet_of_in current s [] ≡ got t end → all_zero (purposes t.system) ≡ true → 4096 ≤ length output
    → (downgraded s output).answer ≡ passed (length (sheet_bytes old t))
unfolding downgraded old_form
downgrade_always_room s output t end e z k =
    let p = sheet_parts_in current s [] e in
    ap (λ (o : Outcome). o.answer) (passing current 41 ordinary (sheet_bytes old) s output t end e z
    (omega (arith, sheet_longer t, ap length (sheet_stored current s [] p), p.short)))

-- What a call answers is in range: at most 4,096 bytes, or one of the questions that are asked.
unfoldable pub MovedInRange : Asked ℕ → Type 0
MovedInRange (passed n) = n ≤ 4096
MovedInRange (failed q) = q ≤ 41

some_question : (k q : ℕ) → k ≤ 41 → Early q ⊎ ((q ≡ k) ⊎ (q ≡ 19)) → q ≤ 41
some_question k q h o = ⊎_elim (λ a. omega (arith, a.last)) (λ b. ⊎_elim (λ c. omega arith) (λ c. omega arith) b) o

pub upgrade_in_range : (s output : List ℕ) → MovedInRange (upgraded s output).answer
unfolding upgraded new_form
upgrade_in_range s output = go (upgraded s output).answer refl
  where
    go : (x : Asked ℕ) → (upgraded s output).answer ≡ x → MovedInRange x
    go (passed n) e = unfold MovedInRange in upgrade_short s output n e
    go (failed q) e = unfold MovedInRange in some_question 1 q (omega arith) (refused_with old 1 new_fits (sheet_bytes current) s output q e)

pub downgrade_in_range : (s output : List ℕ) → MovedInRange (downgraded s output).answer
unfolding downgraded old_form
downgrade_in_range s output = go (downgraded s output).answer refl
  where
    go : (x : Asked ℕ) → (downgraded s output).answer ≡ x → MovedInRange x
    go (passed n) e = unfold MovedInRange in downgrade_short s output n e
    go (failed q) e = unfold MovedInRange in some_question 41 q (omega arith) (refused_with current 41 ordinary (sheet_bytes old) s output q e)
