-- The invariant of every run, put to the four parts of demand 3: each part is the invariant for one property of acts or one
-- weight, and what an accepted sheet has.
use Prim.Native.Nat.{ℕ}
use native.Mathlib.Omega.{arith}
use mathlib.Core.Bool.{Bool, true, false, cond, ◌&&◌, ◌||◌}
use mathlib.Core.List.{List, [], ◌∷◌}
use mathlib.Core.Option.{Option, some, none}
use mathlib.Core.Path.{◌≡◌, refl, sym, ap, ◌∙◌}
use lib.ListN.{length, get_elem?, replicate, length-append, length-replicate}
use Rattle.reading.proofs.TotalLaws.{both_left}
use Rattle.reading.specs.Syntax.{Process, nil, par, new, input, output, repl, Sheet}
use Rattle.needs.specs.declared.Need.{Need}
use Rattle.inference.specs.Lists.{every, any, only}
use Rattle.inference.specs.Counts.{Count, fin, unlimited, ◌⊕◌, at_most, repeatedly}
use Rattle.inference.specs.Acts.{Component, Act, sheet_acts}
use Rattle.inference.proofs.RowSteps.{elem_in}
use Rattle.inference.specs.Typing.{is_known, in_scope, on_channel, carries_object, in_path}
use Rattle.inference.specs.Needs.{need_of, is_read, is_write, is_access, disclosures, weigh, total, disclosed}
use Rattle.inference.proofs.CountLaws.{join_comm, nothing_join, at_most_trans, at_most_joined}
use Rattle.policy.specs.Syntax.{Tree}
use Rattle.running.specs.State.{State}
use Rattle.running.specs.Products.{system_news, start}
use Rattle.running.specs.Moves.{Move, step, state_after, run_states}
use Rattle.running.specs.Guarantees.{scope_of, all_named, thread_acts, state_acts, passes, is_typed, acts_where, is_number, of_component, NotBeyond, next_of, next_act, grants_need, is_fine, next_fine, no_error, send_of, disclosures_of_act, disclosed_where, is_within}
use Rattle.running.proofs.Alls.{All, done, also, and_both, all_map, all_both, all_gather, every_all}
use Rattle.running.proofs.ProductLaws.{Bound, made_start, start_acts}
use Rattle.running.proofs.Owed.{bare, weight_of, owed, Good, good_made}
use Rattle.running.proofs.Invariant.{weight_at, sent_by, Sound, Took, state_owed, run_kept}
use Rattle.running.proofs.Accepted.{any_self}

start_flags : (sheet : Sheet) → length (start sheet).known ≡ length (start sheet).types
unfolding start
start_flags sheet =
    omega (
      arith,
      length-append (replicate (length sheet.free) true) (replicate (length (system_news sheet.system)) false),
      length-append sheet.free (system_news sheet.system),
      length-replicate (length sheet.free) true,
      length-replicate (length (system_news sheet.system)) false,
    )

start_sound : (P : Act → Type 0) (sheet : Sheet) → All (λ a. P (bare a)) (sheet_acts sheet) → Sound P (start sheet)
start_sound P sheet h = record { threads = good_made P (made_start sheet) h; flags = start_flags sheet }

sound_acts : (P : Act → Type 0) (s : State) → Sound P s → All (λ a. P (bare a)) (state_acts s)
unfolding state_acts
sound_acts P s d = all_gather (thread_acts s.types) (all_map (λ t g. g.holds) d.threads)

bare_passes : (a : Act) → passes (bare a) ≡ passes a
unfolding passes in_scope on_channel carries_object in_path bare
bare_passes a = refl

bare_fine : (policy : List Tree) (a : Act) → is_fine policy (bare a) ≡ is_fine policy a
unfolding is_fine passes in_scope on_channel carries_object in_path bare need_of
bare_fine policy a = refl

fine_passes : (policy : List Tree) (a : Act) → is_fine policy a ≡ true → passes a ≡ true
unfolding is_fine
fine_passes policy a h = both_left (passes a) (grants_need policy a.component (need_of a)) h

-- What any run leads to, for a property of acts.
module _ (P : Act → Type 0) (typed : (a : Act) → P a → passes a ≡ true) (sheet : Sheet) (h : All (λ a. P (bare a)) (sheet_acts sheet)) (ms : List Move) where
  took : Took P (start sheet) (λ w. sent_by w (start sheet) ms) (run_states (start sheet) ms)
  took = run_kept P typed (start sheet) ms (start_sound P sheet h)

  run_acts : All (λ a. P (bare a)) (state_acts (run_states (start sheet) ms))
  run_acts = sound_acts P (run_states (start sheet) ms) took.sound

-- Every run name has a type.
named_scope : (τ : List ℕ) {names : List ℕ} → Bound τ names → every is_known (scope_of τ names) ≡ true
unfolding scope_of every is_known
named_scope τ done = refl
named_scope τ (also {x = n} {xs = names} h b) =
    let k : is_known (get_elem? τ n) ≡ true = rw (← elem_in τ n h) refl in
    and_both (is_known (get_elem? τ n)) (every is_known (scope_of τ names)) k (named_scope τ b)

pub run_named : (sheet : Sheet) (ms : List Move) → All (λ a. passes a ≡ true) (sheet_acts sheet) → all_named (run_states (start sheet) ms) ≡ true
unfolding all_named
run_named sheet ms h =
    every_all (λ t. every is_known (scope_of (run_states (start sheet) ms).types t.names))
    (all_map (λ t (g : Good (λ a. passes a ≡ true) (run_states (start sheet) ms).types t). named_scope (run_states (start sheet) ms).types g.bound)
    (took (λ a. passes a ≡ true) (λ a k. k) sheet (all_map (λ a (k : passes a ≡ true). rw (bare_passes a) k) h) ms).sound.threads)

-- Typed.
pub run_typed : (sheet : Sheet) (ms : List Move) → All (λ a. passes a ≡ true) (sheet_acts sheet) → is_typed (run_states (start sheet) ms) ≡ true
unfolding is_typed
run_typed sheet ms h =
    every_all passes (all_map (λ a (k : passes (bare a) ≡ true). rw (bare_passes a) at k)
    (run_acts (λ a. passes a ≡ true) (λ a k. k) sheet (all_map (λ a (k : passes a ≡ true). rw (bare_passes a) k) h) ms))

-- No next act is an error.
next_fine_lem : (policy : List Tree) (p : Process) {xs : List Act} → All (λ a. is_fine policy (bare a) ≡ true) xs → next_fine policy (next_of p xs) ≡ true
unfolding next_fine next_of
next_fine_lem policy nil hs = refl
next_fine_lem policy (par p q) hs = refl
next_fine_lem policy (new t p) hs = refl
next_fine_lem policy (input x t p) done = refl
next_fine_lem policy (input x t p) (also {x = a} h hs) = rw (bare_fine policy a) at h
next_fine_lem policy (output x y p) done = refl
next_fine_lem policy (output x y p) (also {x = a} h hs) = rw (bare_fine policy a) at h
next_fine_lem policy (repl p) hs = refl

pub run_fine : (policy : List Tree) (sheet : Sheet) (ms : List Move) → All (λ a. is_fine policy a ≡ true) (sheet_acts sheet)
    → no_error policy (run_states (start sheet) ms) ≡ true
unfolding no_error next_act
run_fine policy sheet ms h =
    let s : All (λ a. is_fine policy (bare a) ≡ true) (sheet_acts sheet) = all_map (λ a (k : is_fine policy a ≡ true). rw (bare_fine policy a) k) h in
    let t : Took (λ a. is_fine policy a ≡ true) (start sheet) (λ w. sent_by w (start sheet) ms) (run_states (start sheet) ms)
    = took (λ a. is_fine policy a ≡ true) (fine_passes policy) sheet s ms in
    every_all (λ t. next_fine policy (next_act (run_states (start sheet) ms) t))
    (all_map (λ t (g : Good (λ a. is_fine policy a ≡ true) (run_states (start sheet) ms).types t). next_fine_lem policy t.process g.holds) t.sound.threads)

-- Not beyond the start: flags.
any_only : (q t : Act → Bool) (xs : List Act) → any t (only q xs) ≡ any (λ a. q a && t a) xs
unfolding any only
any_only q t [] = refl
any_only q t (x ∷ xs) = go (q x) (any_only q t xs)
  where
    go : (b : Bool) → any t (only q xs) ≡ any (λ a. q a && t a) xs
        → any t (cond b (x ∷ only q xs) (only q xs)) ≡ ((b && t x) || any (λ a. q a && t a) xs)
    go true e = ap (λ z. t x || z) e
    go false e = e

any_all : (q : Act → Bool) (R : Type 0) {xs : List Act} → All (λ a. q a ≡ true → R) xs → any q xs ≡ true → R
unfolding any
any_all q R done h = let z : ◌≡◌ {A = ℕ} 0 1 = cc in absurd (omega arith)
any_all q R (also {x = x} {xs = xs} f fs) h = go (q x) refl h (any_all q R fs)
  where
    go : (b : Bool) → q x ≡ b → (b || any q xs) ≡ true → (any q xs ≡ true → R) → R
    go true e k rest = f e
    go false e k rest = rest k

record Within (all : List Act) (a : Act) : Type 0 where
  fits : passes a ≡ true
  there : (t : Act → Bool) → t a ≡ true → any (λ b. t (bare b)) all ≡ true

run_flags : (sheet : Sheet) (ms : List Move) → All (λ a. passes a ≡ true) (sheet_acts sheet) → (t : Act → Bool)
    → any (λ b. t (bare b)) (state_acts (run_states (start sheet) ms)) ≡ true → any (λ b. t (bare b)) (sheet_acts sheet) ≡ true
run_flags sheet ms h t e =
    let s : All (λ a. Within (sheet_acts sheet) (bare a)) (sheet_acts sheet)
    = all_both (λ a (k : passes a ≡ true) n. record { fits = rw (bare_passes a) k; there = n }) h (any_self bare (sheet_acts sheet)) in
    any_all (λ b. t (bare b)) (any (λ b. t (bare b)) (sheet_acts sheet) ≡ true)
    (all_map (λ a (w : Within (sheet_acts sheet) (bare a)). w.there t) (run_acts (Within (sheet_acts sheet)) (λ a w. w.fits) sheet s ms)) e

-- The flags of the components that a test tells.
flags_where : (sheet : Sheet) (ms : List Move) → All (λ a. passes a ≡ true) (sheet_acts sheet) → (among : Component → Bool) (v : Need → Bool)
    → any (λ a. v (need_of a)) (acts_where among (state_acts (run_states (start sheet) ms))) ≡ true → any (λ a. v (need_of a)) (acts_where among (sheet_acts sheet)) ≡ true
unfolding acts_where bare need_of
flags_where sheet ms h among v e =
    let k : any (λ a. among a.component && v (need_of a)) (state_acts (run_states (start sheet) ms)) ≡ true
    = rw (any_only (λ a. among a.component) (λ a. v (need_of a)) (state_acts (run_states (start sheet) ms))) at e in
    rw (any_only (λ a. among a.component) (λ a. v (need_of a)) (sheet_acts sheet))
    (run_flags sheet ms h (λ a. among a.component && v (need_of a)) k)

-- Counts: the weight of a disclosure at such a component.
unfoldable pub discloses_at : (Component → Bool) → ℕ → ℕ → Act → ℕ
discloses_at among k h a = cond (among a.component) (disclosures k h (need_of a)) 0

weigh_nothing : (b : Bool) → weigh b 0 ≡ fin 0
unfolding weigh repeatedly
weigh_nothing true = refl
weigh_nothing false = refl

pub count_where : (among : Component → Bool) (k h : ℕ) (xs : List Act) → disclosed k h (acts_where among xs) ≡ weight_of (discloses_at among k h) xs
unfolding disclosed acts_where weight_of only total bare discloses_at need_of
count_where among k h [] = refl
count_where among k h (x ∷ xs) = go (among x.component) (count_where among k h xs)
  where
    go : (b : Bool) → disclosed k h (acts_where among xs) ≡ weight_of (discloses_at among k h) xs
        → disclosed k h (cond b (x ∷ acts_where among xs) (acts_where among xs))
        ≡ weigh x.repeated (cond b (disclosures k h (need_of x)) 0) ⊕ weight_of (discloses_at among k h) xs
    go true e = ap (λ z. weigh x.repeated (disclosures k h (need_of x)) ⊕ z) e
    go false e = rw (weigh_nothing x.repeated) (e ∙ sym (nothing_join (weight_of (discloses_at among k h) xs)))

act_discloses : (among : Component → Bool) (k h : ℕ) (o : Option Act) → disclosures_of_act among k h o ≡ weight_at (discloses_at among k h) o
unfolding disclosures_of_act weight_at discloses_at bare need_of
act_discloses among k h none = refl
act_discloses among k h (some a) = refl

disclosed_sent : (among : Component → Bool) (k h : ℕ) (s : State) (ms : List Move) → disclosed_where among k h s ms ≡ sent_by (discloses_at among k h) s ms
unfolding disclosed_where sent_by
disclosed_sent among k h s [] = refl
disclosed_sent among k h s (m ∷ ms) = rw (act_discloses among k h (send_of s m), disclosed_sent among k h (state_after s (step s m)) ms)

owed_acts : (w : Act → ℕ) (s : State) → state_owed w s ≡ weight_of w (state_acts s)
unfolding state_owed owed state_acts
owed_acts w s = refl

-- What the components that a test tells have disclosed and still infer is at most what their sheet infers for them.
pub counts_where : (sheet : Sheet) (ms : List Move) → All (λ a. passes a ≡ true) (sheet_acts sheet) → (among : Component → Bool) (k h : ℕ)
    → at_most (fin (disclosed_where among k h (start sheet) ms) ⊕ disclosed k h (acts_where among (state_acts (run_states (start sheet) ms)))) (disclosed k h (acts_where among (sheet_acts sheet))) ≡ true
counts_where sheet ms p among k h =
    let t : Took (λ a. passes a ≡ true) (start sheet) (λ w. sent_by w (start sheet) ms) (run_states (start sheet) ms)
    = took (λ a. passes a ≡ true) (λ a k. k) sheet (all_map (λ a (k : passes a ≡ true). rw (bare_passes a) k) p) ms in
    let c : at_most (fin (sent_by (discloses_at among k h) (start sheet) ms) ⊕ state_owed (discloses_at among k h) (run_states (start sheet) ms)) (state_owed (discloses_at among k h) (start sheet)) ≡ true
    = t.cost (discloses_at among k h) in
    let a : disclosed k h (acts_where among (state_acts (run_states (start sheet) ms))) ≡ state_owed (discloses_at among k h) (run_states (start sheet) ms)
    = count_where among k h (state_acts (run_states (start sheet) ms)) ∙ sym (owed_acts (discloses_at among k h) (run_states (start sheet) ms)) in
    let b : disclosed k h (acts_where among (sheet_acts sheet)) ≡ state_owed (discloses_at among k h) (start sheet)
    = count_where among k h (sheet_acts sheet) ∙ ap (weight_of (discloses_at among k h)) (sym (start_acts sheet)) ∙ sym (owed_acts (discloses_at among k h) (start sheet)) in
    rw (a, b, disclosed_sent among k h (start sheet) ms) c

without : (n : ℕ) (a b : Count) → at_most (fin n ⊕ a) b ≡ true → at_most a b ≡ true
without n a b h =
    let k : at_most a (fin n ⊕ a) ≡ true = rw (join_comm (fin n) a) (at_most_joined a (fin n)) in
    at_most_trans a (fin n ⊕ a) b k h

-- Not beyond the start.
pub beyond_where : (sheet : Sheet) (ms : List Move) → All (λ a. passes a ≡ true) (sheet_acts sheet) → (among : Component → Bool)
    → NotBeyond (acts_where among (state_acts (run_states (start sheet) ms))) (acts_where among (sheet_acts sheet))
beyond_where sheet ms p among = record {
  reads = λ k. flags_where sheet ms p among (is_read k);
  writes = λ k. flags_where sheet ms p among (is_write k);
  accesses = λ k. flags_where sheet ms p among (is_access k);
  counts = λ k h. without (disclosed_where among k h (start sheet) ms) (disclosed k h (acts_where among (state_acts (run_states (start sheet) ms))))
      (disclosed k h (acts_where among (sheet_acts sheet))) (counts_where sheet ms p among k h);
}

-- The same of one component, by its number.
pub run_not_beyond : (sheet : Sheet) (ms : List Move) → All (λ a. passes a ≡ true) (sheet_acts sheet) → (n : ℕ)
    → NotBeyond (of_component n (state_acts (run_states (start sheet) ms))) (of_component n (sheet_acts sheet))
unfolding of_component
run_not_beyond sheet ms p n = beyond_where sheet ms p (is_number n)

-- No finite count exceeded.
pub within_grant : (g : Count) (n : ℕ) (a b : Count) → at_most (fin n ⊕ a) b ≡ true → at_most b g ≡ true → is_within g n a ≡ true
unfolding is_within
within_grant unlimited n a b h k = refl
within_grant (fin g) n a b h k = at_most_trans (fin n ⊕ a) b (fin g) h k
