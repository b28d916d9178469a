-- What every run keeps, whatever its moves, refused ones included: every run name has a type, every act still ahead has a given
-- property (one that implies questions 7 to 10 and does not look at repeats), and, for every weight of acts at once, what has
-- been sent so far and what is still owed are together at most what was owed at the start. In a communication both acts stand on one
-- channel, so that the name sent has the type that the receiver's bound name has.
use Prim.Native.Nat.{ℕ, zero, suc, ◌+◌, ◌<◌}
use native.Mathlib.Omega.{arith}
use mathlib.Core.Bool.{Bool, true, false, cond, ◌&&◌}
use mathlib.Core.List.{List, [], ◌∷◌, ◌++◌, append_assoc, append-nil}
use mathlib.Core.Option.{Option, some, none}
use mathlib.Core.Path.{◌≡◌, refl, sym, ap, ap₂, ◌∙◌}
use lib.ListN.{length, get_or, get_elem?, set, replicate, length-append, length-set, length-replicate}
use borrow.Author.Tests.{eqb-true}
use Rattle.reading.proofs.TotalLaws.{both_left, both_right}
use Rattle.reading.specs.Syntax.{Process, nil, par, new, input, output, repl}
use Rattle.reading.specs.Types.{shape}
use Rattle.reading.specs.declared.Shape.{Shape}
use Rattle.reading.specs.declared.Shape.TheVariants.{Plain, Channel}
use Rattle.inference.specs.Counts.{Count, fin, ◌⊕◌, at_most}
use Rattle.inference.specs.Acts.{Act, type_of, acts}
use Rattle.inference.specs.Typing.{is_known, of_shape, of_channel, is_type, in_scope, on_channel, carries_object, in_path}
use Rattle.inference.proofs.RowSteps.{elem_in}
use Rattle.inference.proofs.CountLaws.{nothing_join, at_most_self}
use Rattle.running.specs.State.{Thread, State}
use Rattle.running.specs.Products.{news, threads_of}
use Rattle.running.specs.Moves.{Move, unfold_repl, send_out, receive_in, communicate, environment_name, Result, refuses, takes, guard, given, Sending, Receiving, run_name, as_sending, as_receiving, as_repeat, environment_knows, made, singles, join, after, now_known, has_room, taken, unfold_step, send_step, receive_step, communicate_step, environment_step, step, state_after, run_states}
use Rattle.running.specs.Guarantees.{scope_of, thread_acts, passes, next_of, next_act, act_at, send_of, is_taken}
use Rattle.running.proofs.Alls.{All, done, also, all_append, all_map, all_head, all_at, all_set}
use Rattle.running.proofs.ProductLaws.{Bound, scope_later, bound_later, scope_snoc, Made, products}
use Rattle.running.proofs.Owed.{bare, weight_of, weight_append, unfold_free, all_unfolded, owed, owed_append, owed_later, owed_one, owed_made, good_made, acts_later, Good, good_later, Fits, fits_set, fits_then, fits_act, fits_free, all_singles, join_singles, single_at, set_other, spent_then}

-- A name in scope is a run name with that type.
record Found (τ names : List ℕ) (x : ℕ) : Type 0 where
  type : type_of (scope_of τ names) x ≡ get_elem? τ (get_or names x 65535)
  known : get_or names x 65535 < length τ

found : (τ names : List ℕ) (x : ℕ) → Bound τ names → is_known (type_of (scope_of τ names) x) ≡ true → Found τ names x
unfolding scope_of type_of is_known
found τ [] x done h = let z : false ≡ true = h in let y : ◌≡◌ {A = ℕ} 0 1 = cc in absurd (omega arith)
found τ (n ∷ names) zero (also b bs) h = record { type = refl; known = b }
found τ (n ∷ names) (suc x) (also b bs) h = let r : Found τ names x = found τ names x bs h in record { type = r.type; known = r.known }

-- Both acts on one channel: the name sent has the bound type.
agree_shape : (s : Shape) (o : Option ℕ) (u : ℕ) → of_shape (λ g t. is_type t o) s ≡ true → of_shape (λ g t. is_type t (some u)) s ≡ true → o ≡ some u
unfolding of_shape is_type
agree_shape (Plain k) o u h e = let z : false ≡ true = h in cc
agree_shape (Channel g t) none u h e = let z : false ≡ true = h in cc
agree_shape (Channel g t) (some v) u h e = let a : t ≡ v = eqb-true t v h in let b : t ≡ u = eqb-true t u e in cc

agree : (c o : Option ℕ) (u : ℕ) → of_channel (λ g t. is_type t o) c ≡ true → of_channel (λ g t. is_type t (some u)) c ≡ true → o ≡ some u
unfolding of_channel
agree none o u h e = let z : false ≡ true = h in cc
agree (some c) o u h e = agree_shape (shape c) o u h e

-- Elimination of the questions of a move.
pub on_guard : (R : Result → Type 0) (n : ℕ) (b : Bool) (r : Result) → ((k : ℕ) → R (refuses k)) → (b ≡ true → R r) → R (guard n b r)
unfolding guard
on_guard R n true r nay go = go refl
on_guard R n false r nay go = nay n

pub on_given : {A : Type 0} (R : Result → Type 0) (n : ℕ) (o : Option A) (f : A → Result) → ((k : ℕ) → R (refuses k))
    → ((a : A) → o ≡ some a → R (f a)) → R (given n o f)
unfolding given
on_given R n none f nay go = nay n
on_given R n (some a) f nay go = go a refl

pub on_taken : (R : Result → Type 0) (s : State) (bytes : List ℕ) → ((k : ℕ) → R (refuses k)) → R (takes s bytes) → R (taken s bytes)
unfolding taken
on_taken R s bytes nay go = on_guard R 35 (has_room s) (takes s bytes) nay (λ h. go)

pub on_sending : (R : Result → Type 0) (n : ℕ) (t : Thread) (p : Process) (f : Sending → Result) → ((k : ℕ) → R (refuses k))
    → ((x y : ℕ) (q : Process) → p ≡ output x y q → R (f (record { channel = run_name t x; sent = run_name t y; continuation = q })))
    → R (given n (as_sending t p) f)
unfolding given as_sending
on_sending R n t nil f nay go = nay n
on_sending R n t (par p q) f nay go = nay n
on_sending R n t (new u p) f nay go = nay n
on_sending R n t (input x u p) f nay go = nay n
on_sending R n t (output x y p) f nay go = go x y p refl
on_sending R n t (repl p) f nay go = nay n

pub on_receiving : (R : Result → Type 0) (n : ℕ) (t : Thread) (p : Process) (f : Receiving → Result) → ((k : ℕ) → R (refuses k))
    → ((x u : ℕ) (q : Process) → p ≡ input x u q → R (f (record { channel = run_name t x; bound = u; continuation = q })))
    → R (given n (as_receiving t p) f)
unfolding given as_receiving
on_receiving R n t nil f nay go = nay n
on_receiving R n t (par p q) f nay go = nay n
on_receiving R n t (new u p) f nay go = nay n
on_receiving R n t (input x u p) f nay go = go x u p refl
on_receiving R n t (output x y p) f nay go = nay n
on_receiving R n t (repl p) f nay go = nay n

pub on_repeat : (R : Result → Type 0) (n : ℕ) (p : Process) (f : Process → Result) → ((k : ℕ) → R (refuses k))
    → ((q : Process) → p ≡ repl q → R (f q)) → R (given n (as_repeat p) f)
unfolding given as_repeat
on_repeat R n nil f nay go = nay n
on_repeat R n (par p q) f nay go = nay n
on_repeat R n (new u p) f nay go = nay n
on_repeat R n (input x u p) f nay go = nay n
on_repeat R n (output x y p) f nay go = nay n
on_repeat R n (repl p) f nay go = go p refl

-- The weight of an act that may be none.
unfoldable pub weight_at : (Act → ℕ) → Option Act → ℕ
weight_at w none = 0
weight_at w (some a) = w (bare a)

unfoldable pub send_act : List ℕ → Thread → ℕ → ℕ → Act
send_act τ t x y = record { component = t.component; repeated = false; sends = true; channel = type_of (scope_of τ t.names) x; object = type_of (scope_of τ t.names) y }

unfoldable pub receive_act : List ℕ → Thread → ℕ → ℕ → Act
receive_act τ t x u = record { component = t.component; repeated = false; sends = false; channel = type_of (scope_of τ t.names) x; object = some u }

acts_send : (τ : List ℕ) (t : Thread) (x y : ℕ) (p : Process) → t.process ≡ output x y p
    → thread_acts τ t ≡ bare (send_act τ t x y) ∷ acts t.component false (scope_of τ t.names) p
unfolding thread_acts acts bare send_act
acts_send τ t x y p e = rw e

acts_receive : (τ : List ℕ) (t : Thread) (x u : ℕ) (p : Process) → t.process ≡ input x u p
    → thread_acts τ t ≡ bare (receive_act τ t x u) ∷ acts t.component false (scope_of τ t.names ++ (some u ∷ [])) p
unfolding thread_acts acts bare receive_act
acts_receive τ t x u p e = rw e

acts_repeat : (τ : List ℕ) (t : Thread) (p : Process) → t.process ≡ repl p
    → thread_acts τ t ≡ acts t.component true (scope_of τ t.names) p
unfolding thread_acts acts
acts_repeat τ t p e = rw e

-- Products of a thread's continuation, under the names so far and those that it makes; `ρ` are new names that come before them.
fits_unfold : (P : Act → Type 0) (τ : List ℕ) (t : Thread) (p : Process) → t.process ≡ repl p → Good P τ t
    → Fits P (τ ++ news p) (λ w. 0) (threads_of t.component t.names (length τ + 0) p ++ (t ∷ [])) (t ∷ [])
fits_unfold P τ t p e g =
    let n : length τ ≡ length τ + 0 = omega arith in
    let m₁ : Made (τ ++ (news p ++ [])) (threads_of t.component t.names (length τ + 0) p) (acts t.component false (scope_of τ t.names) p)
    = products t.component τ [] t.names (length τ + 0) p n g.bound in
    let m : Made (τ ++ news p) (threads_of t.component t.names (length τ + 0) p) (acts t.component false (scope_of τ t.names) p)
    = rw (append-nil (news p)) at m₁ in
    let h : All (λ a. P (bare a)) (acts t.component true (scope_of τ t.names) p) = rw (acts_repeat τ t p e) at g.holds in
    let gl : Good P (τ ++ news p) t = good_later τ (news p) t g in
    let al : thread_acts (τ ++ news p) t ≡ acts t.component true (scope_of τ t.names) p = acts_later τ (news p) t g.bound ∙ acts_repeat τ t p e in
    record {
      good = all_append (good_made P m (all_unfolded P t.component false (scope_of τ t.names) p h)) (also gl done);
      cost = λ w.
          let k : owed w (τ ++ news p) (t ∷ []) ≡ weight_of w (acts t.component true (scope_of τ t.names) p) = owed_one w (τ ++ news p) t ∙ ap (weight_of w) al in
          let j : owed w (τ ++ news p) (threads_of t.component t.names (length τ + 0) p ++ (t ∷ [])) ≡ owed w (τ ++ news p) (t ∷ [])
          = owed_append w (τ ++ news p) (threads_of t.component t.names (length τ + 0) p) (t ∷ []) ∙ ap₂ ◌⊕◌ (owed_made w m) k
          ∙ sym (weight_append w (acts t.component false (scope_of τ t.names) p) (acts t.component true (scope_of τ t.names) p))
          ∙ unfold_free w t.component (scope_of τ t.names) p ∙ sym k in
          rw (nothing_join (owed w (τ ++ news p) (threads_of t.component t.names (length τ + 0) p ++ (t ∷ []))), j) (at_most_self (owed w (τ ++ news p) (t ∷ [])));
    }

fits_send : (P : Act → Type 0) (τ σ : List ℕ) (t : Thread) (x y : ℕ) (p : Process) → t.process ≡ output x y p → Good P τ t
    → Fits P (τ ++ (news p ++ σ)) (λ w. w (bare (send_act τ t x y))) (threads_of t.component t.names (length τ + 0) p) (t ∷ [])
fits_send P τ σ t x y p e g =
    let n : length τ ≡ length τ + 0 = omega arith in
    let m : Made (τ ++ (news p ++ σ)) (threads_of t.component t.names (length τ + 0) p) (acts t.component false (scope_of τ t.names) p)
    = products t.component τ σ t.names (length τ + 0) p n g.bound in
    fits_act P (τ ++ (news p ++ σ)) t (send_act τ t x y) (acts t.component false (scope_of τ t.names) p) (threads_of t.component t.names (length τ + 0) p)
    (good_later τ (news p ++ σ) t g) (acts_later τ (news p ++ σ) t g.bound ∙ acts_send τ t x y p e) m

fits_receive : (P : Act → Type 0) (τ ρ : List ℕ) (t : Thread) (x u v : ℕ) (p : Process) → t.process ≡ input x u p → Good P τ t
    → v < length τ → get_elem? τ v ≡ some u
    → Fits P (τ ++ (ρ ++ news p)) (λ w. 0) (threads_of t.component (t.names ++ (v ∷ [])) (length τ + length ρ) p) (t ∷ [])
fits_receive P τ ρ t x u v p e g h k =
    let n : length (τ ++ ρ) ≡ length τ + length ρ = length-append τ ρ in
    let b : Bound τ (t.names ++ (v ∷ [])) = all_append g.bound (also h done) in
    let m₁ : Made ((τ ++ ρ) ++ (news p ++ [])) (threads_of t.component (t.names ++ (v ∷ [])) (length τ + length ρ) p) (acts t.component false (scope_of (τ ++ ρ) (t.names ++ (v ∷ []))) p)
    = products t.component (τ ++ ρ) [] (t.names ++ (v ∷ [])) (length τ + length ρ) p n (bound_later τ ρ b) in
    let s : scope_of (τ ++ ρ) (t.names ++ (v ∷ [])) ≡ scope_of τ t.names ++ (some u ∷ [])
    = scope_later τ ρ b ∙ scope_snoc τ t.names v ∙ ap (λ l. scope_of τ t.names ++ (l ∷ [])) k in
    let a : (τ ++ ρ) ++ news p ≡ τ ++ (ρ ++ news p) = append_assoc τ ρ (news p) in
    let m : Made (τ ++ (ρ ++ news p)) (threads_of t.component (t.names ++ (v ∷ [])) (length τ + length ρ) p) (acts t.component false (scope_of τ t.names ++ (some u ∷ [])) p)
    = rw (append-nil (news p), s, a) at m₁ in
    fits_free P (τ ++ (ρ ++ news p)) (λ w. w (bare (receive_act τ t x u))) (threads_of t.component (t.names ++ (v ∷ [])) (length τ + length ρ) p) (t ∷ [])
    (fits_act P (τ ++ (ρ ++ news p)) t (receive_act τ t x u) (acts t.component false (scope_of τ t.names ++ (some u ∷ [])) p) (threads_of t.component (t.names ++ (v ∷ [])) (length τ + length ρ) p)
    (good_later τ (ρ ++ news p) t g) (acts_later τ (ρ ++ news p) t g.bound ∙ acts_receive τ t x u p e) m)

-- A good state: every thread good, and every name given known to the environment or not.
pub record Sound (P : Act → Type 0) (s : State) : Type 0 where
  pub threads : All (Good P s.types) s.threads
  pub flags : length s.known ≡ length s.types

unfoldable pub state_owed : (Act → ℕ) → State → Count
state_owed w s = owed w s.types s.threads

-- A state after another: sound, and what was spent and what it owes are together at most what the other owed.
pub record Took (P : Act → Type 0) (s : State) (spent : (Act → ℕ) → ℕ) (s' : State) : Type 0 where
  pub sound : Sound P s'
  pub cost : (w : Act → ℕ) → at_most (fin (spent w) ⊕ state_owed w s') (state_owed w s) ≡ true

took_after : (P : Act → Type 0) (s : State) (spent : (Act → ℕ) → ℕ) (ls : List (List Thread)) (σ : List ℕ) → Sound P s
    → Fits P (s.types ++ σ) spent (join ls) s.threads → Took P s spent (after s ls σ)
unfolding after state_owed
took_after P s spent ls σ d f =
    let k : length (s.known ++ replicate (length σ) false) ≡ length (s.types ++ σ)
    = omega (arith, length-append s.known (replicate (length σ) false), length-replicate (length σ) false, length-append s.types σ, d.flags) in
    record {
      sound = record { threads = f.good; flags = k };
      cost = λ w. rw (owed_later P w s.types σ d.threads) at (f.cost w);
    }

took_known : (P : Act → Type 0) (s : State) (spent : (Act → ℕ) → ℕ) (s' : State) (n : ℕ) → Took P s spent s' → Took P s spent (now_known n s')
unfolding now_known state_owed
took_known P s spent s' n k = record {
  sound = record { threads = k.sound.threads; flags = length-set s'.known n true ∙ k.sound.flags };
  cost = k.cost;
}

-- What a move does: it is refused, or leads to such a state, the weight of its send spent.
pub data Kept (P : Act → Type 0) (s : State) (spent : (Act → ℕ) → ℕ) : Result → Type 0 where
  stays : {n : ℕ} → Kept P s spent (refuses n)
  goes : {s' : State} {bytes : List ℕ} → Took P s spent s' → Kept P s spent (takes s' bytes)

send_at_lem : (s : State) (i : ℕ) (t : Thread) (x y : ℕ) (p : Process) → get_elem? s.threads i ≡ some t → t.process ≡ output x y p
    → act_at s (get_elem? s.threads i) ≡ some (bare (send_act s.types t x y))
unfolding act_at next_act next_of
send_at_lem s i t x y p e h =
    let k : thread_acts s.types t ≡ bare (send_act s.types t x y) ∷ acts t.component false (scope_of s.types t.names) p = acts_send s.types t x y p h in
    rw (e, k, h)

spent_at : (s : State) (i : ℕ) (t : Thread) (x y : ℕ) (p : Process) → get_elem? s.threads i ≡ some t → t.process ≡ output x y p
    → (w : Act → ℕ) → w (bare (send_act s.types t x y)) ≡ weight_at w (act_at s (get_elem? s.threads i))
unfolding weight_at bare send_act
spent_at s i t x y p e h w = rw (send_at_lem s i t x y p e h)

fits_same : (P : Act → Type 0) (τ : List ℕ) (e f : (Act → ℕ) → ℕ) (x y : List Thread) → ((w : Act → ℕ) → e w ≡ f w) → Fits P τ e x y → Fits P τ f x y
fits_same P τ e f x y h k = record { good = k.good; cost = λ w. rw (h w) at (k.cost w) }

known_given : (ks : List Bool) (n : ℕ) → get_or ks n false ≡ true → n < length ks
known_given [] n h = let z : false ≡ true = h in let y : ◌≡◌ {A = ℕ} 0 1 = cc in absurd (omega arith)
known_given (k ∷ ks) zero h = omega arith
known_given (k ∷ ks) (suc n) h = let r : n < length ks = known_given ks n h in omega arith

known_typed : (P : Act → Type 0) (s : State) (n : ℕ) → Sound P s → environment_knows s n ≡ true → n < length s.types
unfolding environment_knows
known_typed P s n d h = omega (arith, known_given s.known n h, d.flags)

type_at : (τ : List ℕ) (v u : ℕ) → v < length τ → get_or τ v 0 ≡ u → get_elem? τ v ≡ some u
type_at τ v u h e = sym (elem_in τ v h) ∙ ap some e

-- A sender is no receiver.
two_threads : (ts : List Thread) (i j : ℕ) (t u : Thread) (x y x' v : ℕ) (p q : Process) → get_elem? ts i ≡ some t → get_elem? ts j ≡ some u
    → t.process ≡ output x y p → u.process ≡ input x' v q → i ≡ j → ⊥
two_threads ts i j t u x y x' v p q e f g h k =
    let a : get_elem? ts i ≡ get_elem? ts j = ap (λ n. get_elem? ts n) k in
    let b : t ≡ u = cc in
    let c : output x y p ≡ input x' v q = sym g ∙ ap (λ (r : Thread). r.process) b ∙ h in
    let z : ◌≡◌ {A = ℕ} 0 1 = cc in absurd (omega arith)

passes_scope : (a : Act) → passes a ≡ true → in_scope a ≡ true
unfolding passes
passes_scope a h = both_left (in_scope a) (on_channel a) (both_left (in_scope a && on_channel a) (carries_object a && in_path a) h)

passes_carries : (a : Act) → passes a ≡ true → carries_object a ≡ true
unfolding passes
passes_carries a h = both_left (carries_object a) (in_path a) (both_right (in_scope a && on_channel a) (carries_object a && in_path a) h)

next_holds : (P : Act → Type 0) (τ : List ℕ) (t : Thread) (a : Act) (rest : List Act) → Good P τ t → thread_acts τ t ≡ bare a ∷ rest → P (bare a)
unfolding bare
next_holds P τ t a rest g e = all_head (rw e at g.holds)

-- The name sent in a communication has a type, the bound one.
record Sent (τ : List ℕ) (n v : ℕ) : Type 0 where
  given_before : n < length τ
  of_type : get_elem? τ n ≡ some v

sent : (τ : List ℕ) (t u : Thread) (x y x' v : ℕ) → Bound τ t.names → Bound τ u.names → run_name t x ≡ run_name u x'
    → passes (bare (send_act τ t x y)) ≡ true → passes (bare (receive_act τ u x' v)) ≡ true → Sent τ (run_name t y) v
unfolding run_name bare send_act receive_act in_scope carries_object
sent τ t u x y x' v b c e h k =
    let h₁ : (is_known (type_of (scope_of τ t.names) x) && is_known (type_of (scope_of τ t.names) y)) ≡ true = passes_scope (bare (send_act τ t x y)) h in
    let h₂ : of_channel (λ g l. is_type l (type_of (scope_of τ t.names) y)) (type_of (scope_of τ t.names) x) ≡ true = passes_carries (bare (send_act τ t x y)) h in
    let k₁ : (is_known (type_of (scope_of τ u.names) x') && is_known (some v)) ≡ true = passes_scope (bare (receive_act τ u x' v)) k in
    let k₂ : of_channel (λ g l. is_type l (some v)) (type_of (scope_of τ u.names) x') ≡ true = passes_carries (bare (receive_act τ u x' v)) k in
    let fx : Found τ t.names x = found τ t.names x b (both_left (is_known (type_of (scope_of τ t.names) x)) (is_known (type_of (scope_of τ t.names) y)) h₁) in
    let fy : Found τ t.names y = found τ t.names y b (both_right (is_known (type_of (scope_of τ t.names) x)) (is_known (type_of (scope_of τ t.names) y)) h₁) in
    let fu : Found τ u.names x' = found τ u.names x' c (both_left (is_known (type_of (scope_of τ u.names) x')) (is_known (some v)) k₁) in
    let same : type_of (scope_of τ u.names) x' ≡ type_of (scope_of τ t.names) x
    = fu.type ∙ ap (λ n. get_elem? τ n) (sym e) ∙ sym fx.type in
    let o : type_of (scope_of τ t.names) y ≡ some v = agree (type_of (scope_of τ t.names) x) (type_of (scope_of τ t.names) y) v h₂ (rw same at k₂) in
    record { given_before = fy.known; of_type = sym fy.type ∙ o }

-- One thread's place taken.
fits_place : (P : Act → Type 0) (s : State) (σ : List ℕ) (spent : (Act → ℕ) → ℕ) (i : ℕ) (t : Thread) (x : List Thread) → Sound P s
    → get_elem? s.threads i ≡ some t → Fits P (s.types ++ σ) spent x (t ∷ [])
    → Fits P (s.types ++ σ) spent (join (set (singles s.threads) i x)) s.threads
fits_place P s σ spent i t x d e f =
    let gs : All (Good P (s.types ++ σ)) s.threads = all_map (λ u g. good_later s.types σ u g) d.threads in
    rw (join_singles s.threads) at (fits_set P (s.types ++ σ) spent (singles s.threads) i x (t ∷ []) (single_at s.threads i t e) (all_singles gs) f)

module _ (P : Act → Type 0) (typed : (a : Act) → P a → passes a ≡ true) where
  kept_unfold : (s : State) (i : ℕ) → Sound P s → Kept P s (λ w. 0) (unfold_step s i)
  unfolding unfold_step made
  kept_unfold s i d =
      on_given (Kept P s (λ w. 0)) _ _ _ (λ k. stays) (λ t e.
      on_repeat (Kept P s (λ w. 0)) _ _ _ (λ k. stays) (λ p h.
      on_taken (Kept P s (λ w. 0)) _ _ (λ k. stays) (goes (took_after P s (λ w. 0) _ (news p) d
      (fits_place P s (news p) (λ w. 0) i t _ d e (fits_unfold P s.types t p h (all_at s.threads i e d.threads)))))))

  kept_send : (s : State) (i : ℕ) → Sound P s → Kept P s (λ w. weight_at w (send_of s (send_out i))) (send_step s i)
  unfolding send_step made send_of
  kept_send s i d =
      on_given (Kept P s (λ w. weight_at w (act_at s (get_elem? s.threads i)))) _ _ _ (λ k. stays) (λ t e.
      on_sending (Kept P s (λ w. weight_at w (act_at s (get_elem? s.threads i)))) _ t _ _ (λ k. stays) (λ x y p h.
      on_guard (Kept P s (λ w. weight_at w (act_at s (get_elem? s.threads i)))) _ _ _ (λ k. stays) (λ b.
      on_taken (Kept P s (λ w. weight_at w (act_at s (get_elem? s.threads i)))) _ _ (λ k. stays) (goes
      (took_known P s (λ w. weight_at w (act_at s (get_elem? s.threads i))) _ _
      (took_after P s (λ w. weight_at w (act_at s (get_elem? s.threads i))) _ (news p) d
      (fits_place P s (news p) (λ w. weight_at w (act_at s (get_elem? s.threads i))) i t _ d e
      (fits_same P (s.types ++ news p) (λ w. w (bare (send_act s.types t x y))) (λ w. weight_at w (act_at s (get_elem? s.threads i))) _ _
      (spent_at s i t x y p e h)
      (rw (append-nil (news p)) at (fits_send P s.types [] t x y p h (all_at s.threads i e d.threads)))))))))))

  kept_receive : (s : State) (i v : ℕ) → Sound P s → Kept P s (λ w. 0) (receive_step s i v)
  unfolding receive_step made
  kept_receive s i v d =
      on_given (Kept P s (λ w. 0)) _ _ _ (λ k. stays) (λ t e.
      on_receiving (Kept P s (λ w. 0)) _ t _ _ (λ k. stays) (λ x u p h.
      on_guard (Kept P s (λ w. 0)) _ _ _ (λ k. stays) (λ b.
      on_guard (Kept P s (λ w. 0)) _ _ _ (λ k. stays) (λ c.
      on_taken (Kept P s (λ w. 0)) _ _ (λ k. stays) (goes (took_after P s (λ w. 0) _ (news p) d
      (fits_place P s (news p) (λ w. 0) i t _ d e
      (fits_receive P s.types [] t x u v p h (all_at s.threads i e d.threads)
      (known_typed P s v d (both_right (environment_knows s (run_name t x)) (environment_knows s v) b))
      (type_at s.types v u (known_typed P s v d (both_right (environment_knows s (run_name t x)) (environment_knows s v) b)) (eqb-true (get_or s.types v 0) u c))))))))))

  fits_communicate : (s : State) (i j : ℕ) (t u : Thread) (x y x' v : ℕ) (p q : Process) → Sound P s
      → get_elem? s.threads i ≡ some t → get_elem? s.threads j ≡ some u → t.process ≡ output x y p → u.process ≡ input x' v q
      → run_name t x ≡ run_name u x'
      → Fits P (s.types ++ (news p ++ news q)) (λ w. weight_at w (act_at s (get_elem? s.threads i)))
      (join (set (set (singles s.threads) i (made s 0 t t.names p)) j (made s (length (news p)) u (u.names ++ (run_name t y ∷ [])) q)))
      s.threads
  unfolding made
  fits_communicate s i j t u x y x' v p q d e f h k c =
      let τ : List ℕ = s.types in
      let gt : Good P s.types t = all_at s.threads i e d.threads in
      let gu : Good P s.types u = all_at s.threads j f d.threads in
      let pt : P (bare (send_act s.types t x y)) = next_holds P s.types t (send_act s.types t x y) _ gt (acts_send s.types t x y p h) in
      let pu : P (bare (receive_act s.types u x' v)) = next_holds P s.types u (receive_act s.types u x' v) _ gu (acts_receive s.types u x' v q k) in
      let o : Sent s.types (run_name t y) v = sent s.types t u x y x' v gt.bound gu.bound c (typed _ pt) (typed _ pu) in
      let ft : Fits P (s.types ++ (news p ++ news q)) (λ w. weight_at w (act_at s (get_elem? s.threads i))) (made s 0 t t.names p) (t ∷ [])
      = fits_same P (s.types ++ (news p ++ news q)) (λ w. w (bare (send_act s.types t x y))) (λ w. weight_at w (act_at s (get_elem? s.threads i))) _ _
      (spent_at s i t x y p e h) (fits_send P s.types (news q) t x y p h gt) in
      let fu : Fits P (s.types ++ (news p ++ news q)) (λ w. 0) (made s (length (news p)) u (u.names ++ (run_name t y ∷ [])) q) (u ∷ [])
      = fits_receive P s.types (news p) u x' v (run_name t y) q k gu o.given_before o.of_type in
      let gs : All (Good P (s.types ++ (news p ++ news q))) s.threads = all_map (λ l g. good_later s.types (news p ++ news q) l g) d.threads in
      let at_j : get_elem? (set (singles s.threads) i (made s 0 t t.names p)) j ≡ some (u ∷ [])
      = set_other (singles s.threads) i j (made s 0 t t.names p) (u ∷ [])
      (two_threads s.threads i j t u x y x' v p q e f h k) (single_at s.threads j u f) in
      fits_then P (s.types ++ (news p ++ news q)) (λ w. weight_at w (act_at s (get_elem? s.threads i))) _ _ _
      (fits_set P (s.types ++ (news p ++ news q)) (λ w. 0) (set (singles s.threads) i (made s 0 t t.names p)) j _ (u ∷ []) at_j
      (all_set (singles s.threads) i (all_singles gs) ft.good) fu)
      (fits_place P s (news p ++ news q) (λ w. weight_at w (act_at s (get_elem? s.threads i))) i t _ d e ft)

  kept_communicate : (s : State) (i j : ℕ) → Sound P s → Kept P s (λ w. weight_at w (send_of s (communicate i j))) (communicate_step s i j)
  unfolding communicate_step send_of
  kept_communicate s i j d =
      on_given (Kept P s (λ w. weight_at w (act_at s (get_elem? s.threads i)))) _ _ _ (λ k. stays) (λ t e.
      on_given (Kept P s (λ w. weight_at w (act_at s (get_elem? s.threads i)))) _ _ _ (λ k. stays) (λ u f.
      on_sending (Kept P s (λ w. weight_at w (act_at s (get_elem? s.threads i)))) _ t _ _ (λ k. stays) (λ x y p h.
      on_receiving (Kept P s (λ w. weight_at w (act_at s (get_elem? s.threads i)))) _ u _ _ (λ k. stays) (λ x' v q k.
      on_guard (Kept P s (λ w. weight_at w (act_at s (get_elem? s.threads i)))) _ _ _ (λ n. stays) (λ c.
      on_taken (Kept P s (λ w. weight_at w (act_at s (get_elem? s.threads i)))) _ _ (λ n. stays) (goes
      (took_after P s (λ w. weight_at w (act_at s (get_elem? s.threads i))) _ (news p ++ news q) d
      (fits_communicate s i j t u x y x' v p q d e f h k (eqb-true (run_name t x) (run_name u x') c)))))))))

  kept_environment : (s : State) (t : ℕ) → Sound P s → Kept P s (λ w. 0) (environment_step s t)
  unfolding environment_step
  kept_environment s t d =
      let f : Fits P (s.types ++ (t ∷ [])) (λ w. 0) s.threads s.threads = record {
        good = all_map (λ l g. good_later s.types (t ∷ []) l g) d.threads;
        cost = λ w. rw (nothing_join (owed w (s.types ++ (t ∷ [])) s.threads)) (at_most_self (owed w (s.types ++ (t ∷ [])) s.threads));
      } in
      on_taken (Kept P s (λ w. 0)) _ _ (λ n. stays) (goes
      (took_known P s (λ w. 0) _ _
      (took_after P s (λ w. 0) (singles s.threads) (t ∷ []) d (rw (join_singles s.threads) f))))

  pub kept : (s : State) (m : Move) → Sound P s → Kept P s (λ w. weight_at w (send_of s m)) (step s m)
  unfolding step send_of weight_at
  kept s (unfold_repl i) d = kept_unfold s i d
  kept s (send_out i) d = kept_send s i d
  kept s (receive_in i v) d = kept_receive s i v d
  kept s (communicate i j) d = kept_communicate s i j d
  kept s (environment_name t) d = kept_environment s t d

-- The weight of what a run sends: of each taken move, its send.
unfoldable pub sent_by : (Act → ℕ) → State → List Move → ℕ
sent_by w s [] = 0
sent_by w s (m ∷ ms) = cond (is_taken (step s m)) (weight_at w (send_of s m)) 0 + sent_by w (state_after s (step s m)) ms

module _ (P : Act → Type 0) (typed : (a : Act) → P a → passes a ≡ true) where
  after_one : (s : State) (spent : (Act → ℕ) → ℕ) (r : Result) → Sound P s → Kept P s spent r
      → Took P s (λ w. cond (is_taken r) (spent w) 0) (state_after s r)
  unfolding is_taken state_after
  after_one s spent (refuses n) d stays = record { sound = d; cost = λ w. rw (nothing_join (state_owed w s)) (at_most_self (state_owed w s)) }
  after_one s spent (takes s' bytes) d (goes k) = k

  -- Every run.
  pub run_kept : (s : State) (ms : List Move) → Sound P s → Took P s (λ w. sent_by w s ms) (run_states s ms)
  unfolding run_states sent_by
  run_kept s [] d = record { sound = d; cost = λ w. rw (nothing_join (state_owed w s)) (at_most_self (state_owed w s)) }
  run_kept s (m ∷ ms) d =
      let a : Took P s (λ w. cond (is_taken (step s m)) (weight_at w (send_of s m)) 0) (state_after s (step s m))
      = after_one s (λ w. weight_at w (send_of s m)) (step s m) d (kept P typed s m d) in
      let b : Took P (state_after s (step s m)) (λ w. sent_by w (state_after s (step s m)) ms) (run_states (state_after s (step s m)) ms)
      = run_kept (state_after s (step s m)) ms a.sound in
      record {
        sound = b.sound;
        cost = λ w. spent_then (cond (is_taken (step s m)) (weight_at w (send_of s m)) 0) (sent_by w (state_after s (step s m)) ms)
            (state_owed w (run_states (state_after s (step s m)) ms)) (state_owed w (state_after s (step s m))) (state_owed w s) (a.cost w) (b.cost w);
      }
