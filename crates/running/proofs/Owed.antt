-- What threads owe: the weight of all their acts, for any weight of acts that does not look at repeats. An unfolding costs nothing,
-- since acts under a repeat weigh nothing or without limit and take in one more of them; and putting threads in a thread's place
-- costs what they cost more than it.
use Prim.Native.Nat.{ℕ, zero, suc, ◌+◌}
use native.Mathlib.Omega.{arith}
use mathlib.Core.Bool.{Bool, true, false}
use mathlib.Core.List.{List, [], ◌∷◌, ◌++◌, append-nil}
use mathlib.Core.Option.{Option, some}
use mathlib.Core.Path.{◌≡◌, refl, sym, ap, ap₂, ◌∙◌}
use lib.ListN.{get_elem?, set}
use Rattle.reading.specs.Syntax.{Process, nil, par, new, input, output, repl}
use Rattle.inference.specs.Lists.{gather}
use Rattle.inference.specs.Counts.{Count, fin, unlimited, ◌⊕◌, at_most, repeatedly}
use Rattle.inference.specs.Acts.{Component, Act, type_of, acts}
use Rattle.inference.specs.Needs.{weigh, total}
use Rattle.inference.proofs.CountLaws.{join_comm, join_assoc, nothing_join, at_most_self, at_most_trans, at_most_joined, join_mono}
use Rattle.inference.proofs.ActLaws.{total_append, forever, forever_join, one_repeated}
use Rattle.running.specs.State.{Thread}
use Rattle.running.specs.Moves.{singles, join}
use Rattle.running.specs.Guarantees.{thread_acts}
use Rattle.running.proofs.Alls.{All, done, also, all_append, all_left, all_right, all_set, all_gather, all_each, all_both, all_tail, gather_append}
use Rattle.running.proofs.ProductLaws.{Bound, scope_later, bound_later, Made}

-- An act as it is outside every repeat.
unfoldable pub bare : Act → Act
bare a = record { component = a.component; repeated = false; sends = a.sends; channel = a.channel; object = a.object }

unfoldable pub weight_of : (Act → ℕ) → List Act → Count
weight_of w all = total (λ a. w (bare a)) all

pub weight_append : (w : Act → ℕ) (xs ys : List Act) → weight_of w (xs ++ ys) ≡ weight_of w xs ⊕ weight_of w ys
unfolding weight_of
weight_append w xs ys = total_append (λ a. w (bare a)) xs ys

-- What a process weighs under a repeat.
pub weight_repeated : (w : Act → ℕ) (c : Component) (b : Bool) (scope : List (Option ℕ)) (p : Process)
    → weight_of w (acts c true scope p) ≡ forever (weight_of w (acts c b scope p))
unfolding weight_of acts total bare forever repeatedly
weight_repeated w c b scope nil = refl
weight_repeated w c b scope (par p q) =
    let l : weight_of w (acts c true scope p) ≡ forever (weight_of w (acts c b scope p)) = weight_repeated w c b scope p in
    let r : weight_of w (acts c true scope q) ≡ forever (weight_of w (acts c b scope q)) = weight_repeated w c b scope q in
    weight_append w (acts c true scope p) (acts c true scope q)
    ∙ ap₂ ◌⊕◌ l r
    ∙ sym (forever_join (weight_of w (acts c b scope p)) (weight_of w (acts c b scope q)))
    ∙ ap forever (sym (weight_append w (acts c b scope p) (acts c b scope q)))
weight_repeated w c b scope (new t p) = weight_repeated w c b (scope ++ (some t ∷ [])) p
weight_repeated w c b scope (input x t p) =
    one_repeated b (w (record { component = c; repeated = false; sends = false; channel = type_of scope x; object = some t }))
    (weight_of w (acts c true (scope ++ (some t ∷ [])) p)) (weight_of w (acts c b (scope ++ (some t ∷ [])) p))
    (weight_repeated w c b (scope ++ (some t ∷ [])) p)
weight_repeated w c b scope (output x y p) =
    one_repeated b (w (record { component = c; repeated = false; sends = true; channel = type_of scope x; object = type_of scope y }))
    (weight_of w (acts c true scope p)) (weight_of w (acts c b scope p)) (weight_repeated w c b scope p)
weight_repeated w c b scope (repl p) = weight_repeated w c true scope p

absorbs : (x : Count) → x ⊕ forever x ≡ forever x
unfolding ◌⊕◌ forever repeatedly
absorbs (fin zero) = refl
absorbs (fin (suc n)) = refl
absorbs unlimited = refl

-- An unfolding costs nothing.
pub unfold_free : (w : Act → ℕ) (c : Component) (scope : List (Option ℕ)) (p : Process)
    → weight_of w (acts c false scope p ++ acts c true scope p) ≡ weight_of w (acts c true scope p)
unfold_free w c scope p =
    let r : weight_of w (acts c true scope p) ≡ forever (weight_of w (acts c false scope p)) = weight_repeated w c false scope p in
    weight_append w (acts c false scope p) (acts c true scope p)
    ∙ rw r (absorbs (weight_of w (acts c false scope p)))

-- A property that does not look at repeats holds of the acts of an unfolding.
module _ (P : Act → Type 0) where
  pub all_unfolded : (c : Component) (b : Bool) (scope : List (Option ℕ)) (p : Process)
      → All (λ a. P (bare a)) (acts c true scope p) → All (λ a. P (bare a)) (acts c b scope p)
  unfolding acts bare
  all_unfolded c b scope nil h = done
  all_unfolded c b scope (par p q) h =
      all_append (all_unfolded c b scope p (all_left (acts c true scope p) (acts c true scope q) h))
      (all_unfolded c b scope q (all_right (acts c true scope p) (acts c true scope q) h))
  all_unfolded c b scope (new t p) h = all_unfolded c b (scope ++ (some t ∷ [])) p h
  all_unfolded c b scope (input x t p) (also h hs) = also h (all_unfolded c b (scope ++ (some t ∷ [])) p hs)
  all_unfolded c b scope (output x y p) (also h hs) = also h (all_unfolded c b scope p hs)
  all_unfolded c b scope (repl p) h = h

-- What threads owe.
unfoldable pub owed : (Act → ℕ) → List ℕ → List Thread → Count
owed w τ ts = weight_of w (gather (thread_acts τ) ts)

pub owed_append : (w : Act → ℕ) (τ : List ℕ) (ts us : List Thread) → owed w τ (ts ++ us) ≡ owed w τ ts ⊕ owed w τ us
unfolding owed
owed_append w τ ts us = ap (weight_of w) (gather_append (thread_acts τ) ts us) ∙ weight_append w (gather (thread_acts τ) ts) (gather (thread_acts τ) us)

pub acts_later : (τ σ : List ℕ) (t : Thread) → Bound τ t.names → thread_acts (τ ++ σ) t ≡ thread_acts τ t
unfolding thread_acts
acts_later τ σ t b = ap (λ l. acts t.component false l t.process) (scope_later τ σ b)

-- A thread whose names have types and whose acts all have a property.
pub record Good (P : Act → Type 0) (τ : List ℕ) (t : Thread) : Type 0 where
  pub bound : Bound τ t.names
  pub holds : All (λ a. P (bare a)) (thread_acts τ t)

-- Names given later change nothing.
pub good_later : {P : Act → Type 0} (τ σ : List ℕ) (t : Thread) → Good P τ t → Good P (τ ++ σ) t
good_later τ σ t g = record { bound = bound_later τ σ g.bound; holds = rw (acts_later τ σ t g.bound) g.holds }

gather_later : (P : Act → Type 0) (τ σ : List ℕ) {ts : List Thread} → All (Good P τ) ts → gather (thread_acts (τ ++ σ)) ts ≡ gather (thread_acts τ) ts
unfolding gather
gather_later P τ σ done = refl
gather_later P τ σ (also {x = t} g hs) = ap₂ ◌++◌ (acts_later τ σ t g.bound) (gather_later P τ σ hs)

pub owed_later : (P : Act → Type 0) (w : Act → ℕ) (τ σ : List ℕ) {ts : List Thread} → All (Good P τ) ts → owed w (τ ++ σ) ts ≡ owed w τ ts
unfolding owed
owed_later P w τ σ gs = ap (weight_of w) (gather_later P τ σ gs)

pub owed_one : (w : Act → ℕ) (τ : List ℕ) (t : Thread) → owed w τ (t ∷ []) ≡ weight_of w (thread_acts τ t)
unfolding owed gather
owed_one w τ t = ap (weight_of w) (append-nil (thread_acts τ t))

pub owed_made : (w : Act → ℕ) {τ : List ℕ} {ts : List Thread} {xs : List Act} → Made τ ts xs → owed w τ ts ≡ weight_of w xs
unfolding owed
owed_made w m = ap (weight_of w) m.same

pub good_made : (P : Act → Type 0) {τ : List ℕ} {ts : List Thread} {xs : List Act} → Made τ ts xs → All (λ a. P (bare a)) xs → All (Good P τ) ts
good_made P {τ} {ts} {xs} m h =
    let k : All (λ a. P (bare a)) (gather (thread_acts τ) ts) = rw m.same h in
    all_both (λ t b a. record { bound = b; holds = a }) m.bound (all_each (thread_acts τ) ts k)

-- Threads in the place of others: they are good, and cost at most what those cost, with something spent besides.
pub record Fits (P : Act → Type 0) (τ : List ℕ) (spent : (Act → ℕ) → ℕ) (now before : List Thread) : Type 0 where
  pub good : All (Good P τ) now
  pub cost : (w : Act → ℕ) → at_most (fin (spent w) ⊕ owed w τ now) (owed w τ before) ≡ true

front : (n a b r : Count) → at_most (n ⊕ a) b ≡ true → at_most (n ⊕ (a ⊕ r)) (b ⊕ r) ≡ true
front n a b r h = rw (← join_assoc n a r) (join_mono (n ⊕ a) b r r h (at_most_self r))

behind : (n l a b : Count) → at_most (n ⊕ a) b ≡ true → at_most (n ⊕ (l ⊕ a)) (l ⊕ b) ≡ true
behind n l a b h =
    let e : n ⊕ (l ⊕ a) ≡ l ⊕ (n ⊕ a) = cc (join_assoc n l a, join_assoc l n a, join_comm n l) in
    rw e (join_mono l l (n ⊕ a) b (at_most_self l) h)

pub spent_then : (m n : ℕ) (a b c : Count) → at_most (fin m ⊕ b) c ≡ true → at_most (fin n ⊕ a) b ≡ true → at_most (fin (m + n) ⊕ a) c ≡ true
unfolding ◌⊕◌
spent_then m n a b c h k =
    let e : fin (m + n) ⊕ a ≡ fin m ⊕ (fin n ⊕ a) = join_assoc (fin m) (fin n) a in
    rw e (at_most_trans (fin m ⊕ (fin n ⊕ a)) (fin m ⊕ b) c (join_mono (fin m) (fin m) (fin n ⊕ a) b (at_most_self (fin m)) k) h)

set_cost : (w : Act → ℕ) (τ : List ℕ) (n : ℕ) (ls : List (List Thread)) (i : ℕ) (x old : List Thread) → get_elem? ls i ≡ some old
    → at_most (fin n ⊕ owed w τ x) (owed w τ old) ≡ true
    → at_most (fin n ⊕ owed w τ (join (set ls i x))) (owed w τ (join ls)) ≡ true
unfolding join gather
set_cost w τ n [] i x old e h = let z : ◌≡◌ {A = ℕ} 0 1 = cc in absurd (omega arith)
set_cost w τ n (l ∷ ls) zero x old e h =
    let z : old ≡ l = cc in
    let k : at_most (fin n ⊕ owed w τ x) (owed w τ l) ≡ true = rw z at h in
    rw (owed_append w τ x (join ls), owed_append w τ l (join ls))
    (front (fin n) (owed w τ x) (owed w τ l) (owed w τ (join ls)) k)
set_cost w τ n (l ∷ ls) (suc i) x old e h =
    rw (owed_append w τ l (join (set ls i x)), owed_append w τ l (join ls))
    (behind (fin n) (owed w τ l) (owed w τ (join (set ls i x))) (owed w τ (join ls)) (set_cost w τ n ls i x old e h))

pub fits_set : (P : Act → Type 0) (τ : List ℕ) (spent : (Act → ℕ) → ℕ) (ls : List (List Thread)) (i : ℕ) (x old : List Thread)
    → get_elem? ls i ≡ some old → All (All (Good P τ)) ls → Fits P τ spent x old → Fits P τ spent (join (set ls i x)) (join ls)
unfolding join
fits_set P τ spent ls i x old e gs f = record {
  good = all_gather (λ l. l) (all_set ls i gs f.good);
  cost = λ w. set_cost w τ (spent w) ls i x old e (f.cost w);
}

pub all_singles : {P : Thread → Type 0} {ts : List Thread} → All P ts → All (All P) (singles ts)
unfolding singles
all_singles done = done
all_singles (also p ps) = also (also p done) (all_singles ps)

pub join_singles : (ts : List Thread) → join (singles ts) ≡ ts
unfolding join singles gather
join_singles [] = refl
join_singles (t ∷ ts) = ap (λ l. t ∷ l) (join_singles ts)

pub single_at : (ts : List Thread) (i : ℕ) (t : Thread) → get_elem? ts i ≡ some t → get_elem? (singles ts) i ≡ some (t ∷ [])
unfolding singles
single_at [] i t e = let z : ◌≡◌ {A = ℕ} 0 1 = cc in absurd (omega arith)
single_at (u ∷ ts) zero t e = let z : u ≡ t = cc in rw z
single_at (u ∷ ts) (suc i) t e = single_at ts i t e

pub set_other : {A : Type 0} (ls : List A) (i j : ℕ) (x y : A) → (i ≡ j → ⊥) → get_elem? ls j ≡ some y → get_elem? (set ls i x) j ≡ some y
set_other [] i j x y h e = e
set_other (l ∷ ls) zero zero x y h e = absurd (h refl)
set_other (l ∷ ls) zero (suc j) x y h e = e
set_other (l ∷ ls) (suc i) zero x y h e = e
set_other (l ∷ ls) (suc i) (suc j) x y h e = set_other ls i j x y (λ z. h (ap suc z)) e

pub fits_then : (P : Act → Type 0) (τ : List ℕ) (spent : (Act → ℕ) → ℕ) (x y z : List Thread)
    → Fits P τ (λ w. 0) x y → Fits P τ spent y z → Fits P τ spent x z
fits_then P τ spent x y z f g = record {
  good = f.good;
  cost = λ w. let e : spent w + 0 ≡ spent w = omega arith in
      rw e at (spent_then (spent w) 0 (owed w τ x) (owed w τ y) (owed w τ z) (g.cost w) (f.cost w));
}

-- An act and its continuation: what stands after the act fits in the act's place, the act's weight spent.
pub fits_act : (P : Act → Type 0) (τ : List ℕ) (t : Thread) (a : Act) (rest : List Act) (x : List Thread)
    → Good P τ t → thread_acts τ t ≡ bare a ∷ rest → Made τ x rest → Fits P τ (λ w. w (bare a)) x (t ∷ [])
unfolding weight_of total weigh bare
fits_act P τ t a rest x g e m = record {
  good = good_made P m (all_tail (rw e at g.holds));
  cost = λ w.
      let k : owed w τ (t ∷ []) ≡ fin (w (bare a)) ⊕ weight_of w rest = owed_one w τ t ∙ ap (weight_of w) e in
      rw (k, owed_made w m) (at_most_self (fin (w (bare a)) ⊕ weight_of w rest));
}

-- What is not counted is not spent.
pub fits_free : (P : Act → Type 0) (τ : List ℕ) (spent : (Act → ℕ) → ℕ) (x y : List Thread) → Fits P τ spent x y → Fits P τ (λ w. 0) x y
fits_free P τ spent x y f = record { good = f.good; cost = λ w. less (spent w) (owed w τ x) (owed w τ y) (f.cost w) }
  where
    less : (n : ℕ) (a b : Count) → at_most (fin n ⊕ a) b ≡ true → at_most (fin 0 ⊕ a) b ≡ true
    less n a b h =
        let k : at_most (fin 0 ⊕ a) (fin n ⊕ a) ≡ true = rw (nothing_join a, join_comm (fin n) a) (at_most_joined a (fin n)) in
        at_most_trans (fin 0 ⊕ a) (fin n ⊕ a) b k h
