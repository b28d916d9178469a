-- A part of a class keeps to the count that the class keeps to. Let two tests tell components, the first none of the sheet's that
-- disclose and the second does not tell: then what the first tells have disclosed and still infer is at most what the second tells have.
use Prim.Native.Nat.{ℕ, ◌+◌, ◌≤◌}
use native.Mathlib.Omega.{arith}
use mathlib.Core.Bool.{Bool, true, false, cond, not, ◌&&◌}
use mathlib.Core.List.{List, [], ◌∷◌, Memᴰ}
use mathlib.Core.Option.{Option, some, none}
use mathlib.Core.Path.{◌≡◌, refl, ap, ◌∙◌}
use borrow.Author.Tests.{leb-true, le-leb}
use Rattle.reading.specs.Syntax.{Sheet}
use Rattle.inference.specs.Lists.{only}
use Rattle.inference.specs.Counts.{Count, fin, unlimited, ◌⊕◌, at_most}
use Rattle.inference.specs.Acts.{Component, Act, Located, located, sheet_acts}
use Rattle.inference.specs.Needs.{need_of, disclosures, weigh, total, disclosed}
use Rattle.inference.proofs.CountLaws.{join_comm, join_assoc, join_nothing, at_most_self, at_most_trans, at_most_joined, join_mono}
use Rattle.running.specs.State.{State}
use Rattle.running.specs.Products.{start}
use Rattle.running.specs.Moves.{Move, step, state_after, run_states}
use Rattle.running.specs.Guarantees.{state_acts, passes, acts_where, is_number, of_component, send_of, is_taken, disclosures_of_act, disclosed_where, is_within}
use Rattle.running.proofs.Alls.{All}
use Rattle.running.proofs.Components.{where_other, component_acts}
use Rattle.running.proofs.Runs.{counts_where}

-- Told by the first test alone.
abbrev besides : (Component → Bool) → (Component → Bool) → Component → Bool
besides p q c = p c && not (q c)

module _ (p q : Component → Bool) (k h : ℕ) where
  act_part : (o : Option Act) → disclosures_of_act p k h o ≤ disclosures_of_act q k h o + disclosures_of_act (besides p q) k h o
  unfolding disclosures_of_act
  act_part none = omega arith
  act_part (some a) = go (p a.component) (q a.component)
    where
      go : (x y : Bool) → cond x (disclosures k h (need_of a)) 0 ≤ cond y (disclosures k h (need_of a)) 0 + cond (x && not y) (disclosures k h (need_of a)) 0
      go true true = omega arith
      go true false = omega arith
      go false y = omega arith

  -- What was disclosed along moves.
  history_part : (s : State) (ms : List Move) → disclosed_where p k h s ms ≤ disclosed_where q k h s ms + disclosed_where (besides p q) k h s ms
  unfolding disclosed_where
  history_part s [] = omega arith
  history_part s (m ∷ ms) = go (is_taken (step s m)) (history_part (state_after s (step s m)) ms)
    where
      later : (Component → Bool) → ℕ
      later among = disclosed_where among k h (state_after s (step s m)) ms

      go : (t : Bool) → later p ≤ later q + later (besides p q)
          → cond t (disclosures_of_act p k h (send_of s m)) 0 + later p
          ≤ cond t (disclosures_of_act q k h (send_of s m)) 0 + later q + (cond t (disclosures_of_act (besides p q) k h (send_of s m)) 0 + later (besides p q))
      go true rest = omega (arith, act_part (send_of s m))
      go false rest = omega arith

  -- What acts disclose.
  acts_part : (xs : List Act) → at_most (disclosed k h (acts_where p xs)) (disclosed k h (acts_where q xs) ⊕ disclosed k h (acts_where (besides p q) xs)) ≡ true
  unfolding disclosed acts_where only total
  acts_part [] = at_most_joined (fin 0) (fin 0)
  acts_part (x ∷ xs) = go (p x.component) (q x.component) (acts_part xs)
    where
      own : Count
      own = weigh x.repeated (disclosures k h (need_of x))

      rest : (Component → Bool) → Count
      rest among = disclosed k h (acts_where among xs)

      put_in : rest q ⊕ (own ⊕ rest (besides p q)) ≡ own ⊕ (rest q ⊕ rest (besides p q))
      put_in = cc (join_assoc (rest q) own (rest (besides p q)), join_comm (rest q) own, join_assoc own (rest q) (rest (besides p q)))

      go : (a b : Bool) → at_most (rest p) (rest q ⊕ rest (besides p q)) ≡ true
          → at_most (disclosed k h (cond a (x ∷ acts_where p xs) (acts_where p xs)))
          (disclosed k h (cond b (x ∷ acts_where q xs) (acts_where q xs)) ⊕ disclosed k h (cond (a && not b) (x ∷ acts_where (besides p q) xs) (acts_where (besides p q) xs)))
          ≡ true
      go true true e = rw (join_assoc own (rest q) (rest (besides p q))) (join_mono own own (rest p) (rest q ⊕ rest (besides p q)) (at_most_self own) e)
      go true false e = rw put_in (join_mono own own (rest p) (rest q ⊕ rest (besides p q)) (at_most_self own) e)
      go false true e =
          rw (join_assoc own (rest q) (rest (besides p q)), join_comm own (rest q ⊕ rest (besides p q)))
          (at_most_trans (rest p) (rest q ⊕ rest (besides p q)) _ e (at_most_joined (rest q ⊕ rest (besides p q)) own))
      go false false e = e

-- What is at most nothing.
record Nothing (n : ℕ) (c : Count) : Type 0 where
  done : n ≡ 0
  left : c ≡ fin 0

at_most_nothing : (n : ℕ) (c : Count) → at_most (fin n ⊕ c) (fin 0) ≡ true → Nothing n c
unfolding at_most ◌⊕◌
at_most_nothing n (fin m) e = record { done = omega (arith, leb-true (n + m) 0 e); left = ap fin (omega (arith, leb-true (n + m) 0 e)) }
at_most_nothing n unlimited e = let z : ◌≡◌ {A = ℕ} 0 1 = cc in absurd (omega arith)

module _ (sheet : Sheet) (ms : List Move) (typed : All (λ a. passes a ≡ true) (sheet_acts sheet)) (p q : Component → Bool) (k h : ℕ)
    (others : acts_where (besides p q) (sheet_acts sheet) ≡ []) where
  abbrev sent : (Component → Bool) → ℕ
  sent among = disclosed_where among k h (start sheet) ms

  abbrev still : (Component → Bool) → Count
  still among = disclosed k h (acts_where among (state_acts (run_states (start sheet) ms)))

  no_others : Nothing (sent (besides p q)) (still (besides p q))
  no_others =
      at_most_nothing (sent (besides p q)) (still (besides p q))
      (unfold disclosed total in (rw others at (counts_where sheet ms typed (besides p q) k h)))

  part_still : at_most (still p) (still q) ≡ true
  part_still = rw (no_others.left, join_nothing (still q)) at (acts_part p q k h (state_acts (run_states (start sheet) ms)))

  pub part_within : (g : Count) → is_within g (sent q) (still q) ≡ true → is_within g (sent p) (still p) ≡ true
  unfolding is_within
  part_within unlimited e = refl
  part_within (fin g) e =
      let few : sent p ≤ sent q = omega (arith, history_part p q k h (start sheet) ms, no_others.done) in
      at_most_trans (fin (sent p) ⊕ still p) (fin (sent q) ⊕ still q) (fin g)
      (join_mono (fin (sent p)) (fin (sent q)) (still p) (still q) (unfold at_most in le-leb (sent p) (sent q) few) part_still) e

-- The component of a number is the only one of that number, so a class that has it has all of that number.
only_both : {A : Type 0} (p q : A → Bool) (xs : List A) → only (λ x. p x && q x) xs ≡ only q (only p xs)
unfolding only
only_both p q [] = refl
only_both p q (x ∷ xs) = go (p x) (q x) refl (only_both p q xs)
  where
    go : (a b : Bool) → q x ≡ b → only (λ y. p y && q y) xs ≡ only q (only p xs)
        → cond (a && b) (x ∷ only (λ y. p y && q y) xs) (only (λ y. p y && q y) xs) ≡ only q (cond a (x ∷ only p xs) (only p xs))
    go true true e rest = rw e (ap (λ (l : List _). x ∷ l) rest)
    go true false e rest = rw e rest
    go false b e rest = rest

pub same_number : (sheet : Sheet) (l : Located) → Memᴰ l (located sheet) → (q : Component → Bool) → q l.component ≡ true
    → acts_where (besides (is_number l.component.number) q) (sheet_acts sheet) ≡ []
unfolding acts_where of_component
same_number sheet l m q e =
    only_both (λ a. is_number l.component.number a.component) (λ a. not (q a.component)) (sheet_acts sheet)
    ∙ ap (acts_where (λ c. not (q c))) (component_acts sheet l m)
    ∙ where_other (λ c. not (q c)) l (ap not e)
