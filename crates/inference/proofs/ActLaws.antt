-- "Parallel parts and sequels join these, counts added, unlimited with any count giving unlimited. Under repeat each count
-- becomes unlimited." Each sentence as a law of the acts of a process, by cases over the process.
use Prim.Native.Nat.{ℕ, zero, suc, ◌+◌}
use mathlib.Core.Bool.{Bool, true, false, ◌||◌}
use mathlib.Core.List.{List, [], ◌∷◌, ◌++◌}
use mathlib.Core.Option.{Option, some}
use mathlib.Core.Path.{◌≡◌, refl, sym, ap, ◌∙◌}
use native.Mathlib.Omega.{arith}
use Rattle.reading.specs.Syntax.{Process, nil, par, new, input, output, repl}
use Rattle.needs.specs.declared.Need.{Need}
use Rattle.inference.proofs.CountLaws.{join_assoc, nothing_join, join_unlimited, unlimited_join}
use Rattle.inference.specs.Acts.{Component, Act, type_of, acts}
use Rattle.inference.specs.Counts.{Count, fin, unlimited, ◌⊕◌, repeatedly}
use Rattle.inference.specs.Lists.{any}
use Rattle.inference.specs.Needs.{need_of, need_on, disclosures, weigh, total, disclosed}

-- Acts that follow one another.
pub total_append : (w : Act → ℕ) (xs ys : List Act) → total w (xs ++ ys) ≡ total w xs ⊕ total w ys
unfolding total
total_append w [] ys = sym (nothing_join (total w ys))
total_append w (a ∷ xs) ys = rw (total_append w xs ys) (sym (join_assoc (weigh a.repeated (w a)) (total w xs) (total w ys)))

or_assoc : (a b c : Bool) → ((a || b) || c) ≡ (a || (b || c))
or_assoc true b c = refl
or_assoc false b c = refl

pub any_append : (p : Act → Bool) (xs ys : List Act) → any p (xs ++ ys) ≡ (any p xs || any p ys)
unfolding any
any_append p [] ys = refl
any_append p (a ∷ xs) ys = rw (any_append p xs ys) (sym (or_assoc (p a) (any p xs) (any p ys)))

-- "Parallel parts .. join these."
module _ (k h : ℕ) (c : Component) (b : Bool) (scope : List (Option ℕ)) where
  pub disclosed_par : (p q : Process)
      → disclosed k h (acts c b scope (par p q)) ≡ disclosed k h (acts c b scope p) ⊕ disclosed k h (acts c b scope q)
  unfolding disclosed acts
  disclosed_par p q = total_append (λ a. disclosures k h (need_of a)) (acts c b scope p) (acts c b scope q)

pub any_par : (t : Act → Bool) (c : Component) (b : Bool) (scope : List (Option ℕ)) (p q : Process)
    → any t (acts c b scope (par p q)) ≡ (any t (acts c b scope p) || any t (acts c b scope q))
unfolding acts
any_par t c b scope p q = any_append t (acts c b scope p) (acts c b scope q)

-- "Under repeat each count becomes unlimited", but for nothing, which stays nothing.
unfoldable pub forever : Count → Count
forever (fin n) = repeatedly n
forever unlimited = unlimited

repeatedly_sum : (m n : ℕ) → repeatedly (m + n) ≡ repeatedly m ⊕ repeatedly n
unfolding ◌⊕◌ repeatedly
repeatedly_sum zero n = let z : zero + n ≡ n = omega arith in rw z (sym (nothing_join (repeatedly n)))
repeatedly_sum (suc m) n = let z : suc m + n ≡ suc (m + n) = omega arith in rw z (sym (unlimited_join (repeatedly n)))

pub forever_join : (a b : Count) → forever (a ⊕ b) ≡ forever a ⊕ forever b
unfolding forever ◌⊕◌
forever_join (fin m) (fin n) = repeatedly_sum m n
forever_join (fin m) unlimited = sym (join_unlimited (repeatedly m))
forever_join unlimited (fin n) = sym (unlimited_join (repeatedly n))
forever_join unlimited unlimited = refl

weigh_forever : (b : Bool) (n : ℕ) → weigh true n ≡ forever (weigh b n)
unfolding weigh forever repeatedly
weigh_forever true zero = refl
weigh_forever true (suc n) = refl
weigh_forever false n = refl

-- One more act under a repeat.
pub one_repeated : (b : Bool) (n : ℕ) (x y : Count) → x ≡ forever y → weigh true n ⊕ x ≡ forever (weigh b n ⊕ y)
one_repeated b n x y e = rw (e, weigh_forever b n, forever_join (weigh b n) y)

-- A weight of needs: the acts of a process have the same needs under a repeat.
module _ (v : Need → ℕ) (c : Component) where
  abbrev weight : Act → ℕ
  weight a = v (need_of a)

  pub total_repeated : (b : Bool) (scope : List (Option ℕ)) (p : Process) → total weight (acts c true scope p) ≡ forever (total weight (acts c b scope p))
  unfolding acts total need_of forever repeatedly
  total_repeated b scope nil = refl
  total_repeated b scope (par p q) =
      total_append weight (acts c true scope p) (acts c true scope q)
      ∙ rw (total_repeated b scope p, total_repeated b scope q) (sym (forever_join (total weight (acts c b scope p)) (total weight (acts c b scope q))))
      ∙ ap forever (sym (total_append weight (acts c b scope p) (acts c b scope q)))
  total_repeated b scope (new t p) = total_repeated b (scope ++ (some t ∷ [])) p
  total_repeated b scope (input x t p) =
      one_repeated b (v (need_on false (type_of scope x))) (total weight (acts c true (scope ++ (some t ∷ [])) p)) (total weight (acts c b (scope ++ (some t ∷ [])) p))
      (total_repeated b (scope ++ (some t ∷ [])) p)
  total_repeated b scope (output x y p) =
      one_repeated b (v (need_on true (type_of scope x))) (total weight (acts c true scope p)) (total weight (acts c b scope p)) (total_repeated b scope p)
  total_repeated b scope (repl p) = total_repeated true scope p

module _ (k h : ℕ) (c : Component) (b : Bool) (scope : List (Option ℕ)) where
  pub disclosed_repl : (p : Process) → disclosed k h (acts c b scope (repl p)) ≡ forever (disclosed k h (acts c b scope p))
  unfolding disclosed acts
  disclosed_repl p = total_repeated (λ n. disclosures k h n) c b scope p
