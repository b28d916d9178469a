-- What a script that was read tells: where its reading stands at the end, which move comes next, and how many there are at most.
use Prim.Native.Nat.{ℕ, zero, suc, ◌-◌, ◌<◌, ◌≤◌}
use mathlib.Core.List.{List, [], ◌∷◌}
use mathlib.Core.Path.{◌≡◌, sym, ap, ◌∙◌}
use native.Mathlib.Decide.{ℕ_discrete}
use native.Mathlib.Numerals.{sub-one}
use native.Mathlib.Omega.{arith}
use borrow.Author.Tests.{eq-eqb, ne_eqb}
use lib.ListN.{length}
use Rattle.reading.proofs.Parts.{never, parts}
use Rattle.reading.specs.Read.{Read, got, refused, and_then}
use Rattle.running.specs.Moves.{Move}
use Rattle.running.specs.Script.{move_at, moves_from, as_twenty_one, read_script}

-- The definition, one turn at a time.
pub moves_end : (n : ℕ) (s : List ℕ) (at : ℕ) → at ≡ length s → moves_from n s at ≡ got [] at
unfolding moves_from
moves_end zero s at h = rw (eq-eqb at (length s) h)
moves_end (suc n) s at h = rw (eq-eqb at (length s) h)

pub moves_full : (s : List ℕ) (at : ℕ) → (at ≡ length s → ⊥) → moves_from 0 s at ≡ refused 21 at
unfolding moves_from
moves_full s at h = rw (ne_eqb at (length s) h)

pub moves_step : (n : ℕ) (s : List ℕ) (at : ℕ) → (at ≡ length s → ⊥)
    → moves_from (suc n) s at ≡ and_then (move_at s at) (λ m k. and_then (moves_from n s k) (λ ms e. got (m ∷ ms) e))
unfolding moves_from
moves_step n s at h = rw (ne_eqb at (length s) h)

-- The move that comes next, and the moves after it.
pub record Next (n : ℕ) (s : List ℕ) (at : ℕ) (m : Move) (ms : List Move) (e : ℕ) : Type 0 where
  pub place : ℕ
  pub first : move_at s at ≡ got m place
  pub rest : moves_from n s place ≡ got ms e

-- The same where the list is not yet known to have a move.
pub record More (n : ℕ) (s : List ℕ) (at : ℕ) (ms : List Move) (e : ℕ) : Type 0 where
  pub move : Move
  pub others : List Move
  pub all : ms ≡ move ∷ others
  pub left : 0 < n
  pub next : Next (n - 1) s at move others e

next_of : (n : ℕ) (s : List ℕ) (at : ℕ) {ms : List Move} {e : ℕ}
    → and_then (move_at s at) (λ m k. and_then (moves_from n s k) (λ ms e. got (m ∷ ms) e)) ≡ got ms e → More (suc n) s at ms e
next_of n s at {ms} {e} h =
    let a = parts (move_at s at) (λ m k. and_then (moves_from n s k) (λ ms e. got (m ∷ ms) e)) h in
    let b = parts (moves_from n s a.place) (λ ms e. got (a.value ∷ ms) e) a.rest in
    let w : b.place ≡ e = cc in
    let z : ms ≡ a.value ∷ b.value = cc in
    record {
      move = a.value;
      others = b.value;
      all = z;
      left = omega arith;
      next = record { place = a.place; first = a.first; rest = rw (sub-one (suc n)) (b.first ∙ ap (λ (k : ℕ). got b.value k) w) };
    }

-- Where the script is not at its end, there is a next move.
pub more_moves : (n : ℕ) (s : List ℕ) (at : ℕ) {ms : List Move} {e : ℕ} → moves_from n s at ≡ got ms e → (at ≡ length s → ⊥)
    → More n s at ms e
more_moves zero s at h f = never (sym (moves_full s at f) ∙ h)
more_moves (suc n) s at h f = next_of n s at (sym (moves_step n s at f) ∙ h)

-- Where it is at its end, there is none.
pub no_more : (n : ℕ) (s : List ℕ) (at : ℕ) {ms : List Move} {e : ℕ} → moves_from n s at ≡ got ms e → at ≡ length s → ms ≡ []
no_more n s at {ms} {e} h f = let z : ◌≡◌ {A = Read (List Move)} (got [] at) (got ms e) = sym (moves_end n s at f) ∙ h in cc

-- The same for a list that is already taken apart.
as_next : (n : ℕ) (s : List ℕ) (at : ℕ) {m : Move} {ms : List Move} {e : ℕ} → More (suc n) s at (m ∷ ms) e → Next n s at m ms e
as_next n s at {m} {ms} {e} a =
    let v : a.move ≡ m = cc a.all in
    let w : a.others ≡ ms = cc a.all in
    record {
      place = a.next.place;
      first = a.next.first ∙ ap (λ (x : Move). got x a.next.place) v;
      rest = rw (sub-one (suc n)) at (a.next.rest ∙ ap (λ (x : List Move). got x e) w);
    }

pub next_move : (n : ℕ) (s : List ℕ) (at : ℕ) {m : Move} {ms : List Move} {e : ℕ} → moves_from (suc n) s at ≡ got (m ∷ ms) e
    → Next n s at m ms e
next_move n s at {m} {ms} {e} h = go (ℕ_discrete at (length s))
  where
    go : Dec (at ≡ length s) → Next n s at m ms e
    go (yes f) = let z = no_more (suc n) s at h f in let w : ◌≡◌ {A = ℕ} 0 1 = cc in absurd (omega arith)
    go (no f) = as_next n s at (more_moves (suc n) s at h f)

-- Where no move was read, the script is at its end.
pub at_end : (n : ℕ) (s : List ℕ) (at : ℕ) {e : ℕ} → moves_from n s at ≡ got [] e → at ≡ length s
at_end n s at h = go (ℕ_discrete at (length s))
  where
    go : Dec (at ≡ length s) → at ≡ length s
    go (yes f) = f
    go (no f) = let a = more_moves n s at h f in let w : ◌≡◌ {A = ℕ} 0 1 = cc in absurd (omega arith)

-- There are at most as many moves as may be read.
few : (n : ℕ) (s : List ℕ) (at : ℕ) {ms : List Move} {e : ℕ} → moves_from n s at ≡ got ms e
    → (0 < n → (k : ℕ) (others : List Move) → moves_from (n - 1) s k ≡ got others e → length others ≤ n - 1)
    → Dec (at ≡ length s) → length ms ≤ n
few n s at h r (yes f) = omega (arith, ap length (no_more n s at h f))
few n s at h r (no f) = let a = more_moves n s at h f in omega (arith, ap length a.all, r a.left a.next.place a.others a.next.rest)

pub moves_few : (n : ℕ) (s : List ℕ) (at : ℕ) {ms : List Move} {e : ℕ} → moves_from n s at ≡ got ms e → length ms ≤ n
moves_few zero s at h = few zero s at h (λ p. absurd (omega arith)) (ℕ_discrete at (length s))
moves_few (suc n) s at h =
    few (suc n) s at h (λ p k others g. rw (sub-one (suc n)) (moves_few n s k (rw (sub-one (suc n)) at g))) (ℕ_discrete at (length s))

-- A script that was read: its moves are those from its first byte on, at most 1,024.
twenty_one_got : {A : Type 0} (r : Read A) {a : A} {e : ℕ} → as_twenty_one r ≡ got a e → r ≡ got a e
unfolding as_twenty_one
twenty_one_got (got a e) h = h
twenty_one_got (refused q p) h = never h

pub script_moves : (s : List ℕ) {ms : List Move} {e : ℕ} → read_script s ≡ got ms e → moves_from 1024 s 0 ≡ got ms e
unfolding read_script
script_moves s h = twenty_one_got (moves_from 1024 s 0) h

pub script_few : (s : List ℕ) {ms : List Move} {e : ℕ} → moves_from 1024 s 0 ≡ got ms e → length ms ≤ 1024
script_few s h = moves_few 1024 s 0 h
