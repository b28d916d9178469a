-- What demand 3 says of a state: typed, not beyond the start, no next act an error, and no finite count exceeded.
use Rattle.std.specs.Prelude.{ℕ, ◌+◌, ◌<◌, ◌≡◌, Bool, true, false, cond, ◌&&◌, eqb}
use mathlib.Core.List.{List, [], ◌∷◌, map, Memᴰ}
use Rattle.std.proofs.Math.Option.{Option, some, none}
use Rattle.std.proofs.Math.ListN.{get_elem?}
use Rattle.reading.specs.Syntax.{Process, nil, par, new, input, output, repl, Sheet}
use Rattle.needs.specs.declared.Need.{Need}
use Rattle.needs.specs.declared.Need.TheVariants.{Nothing, Read, Write, Access, Disclose}
use Rattle.inference.specs.Lists.{every, any, only, gather}
use Rattle.inference.specs.Counts.{Count, fin, unlimited, ◌⊕◌, at_most}
use Rattle.inference.specs.Classes.{shares}
use Rattle.inference.specs.Acts.{Component, Located, located, Act, acts, sheet_acts}
use Rattle.inference.specs.Typing.{is_known, in_scope, on_channel, carries_object, in_path}
use Rattle.inference.specs.Needs.{need_of, is_read, is_write, is_access, disclosures, disclosed}
use Rattle.policy.specs.Syntax.{Tree}
use Rattle.fit.specs.Grants.{flag_granted, count_granted}
use Rattle.running.specs.State.{Thread, State}
use Rattle.service.specs.Questions.{Accepted}
use Rattle.running.specs.Products.{start}
use Rattle.running.specs.Moves.{Move, unfold_repl, send_out, receive_in, communicate, environment_name, Result, refuses, takes, step, state_after, run_states}

-- The types of a thread's names by level: "run names having their types". A run name never given has none, and so is not in
-- scope.
unfoldable pub scope_of : List ℕ → List ℕ → List (Option ℕ)
scope_of types names = map (λ n. get_elem? types n) names

-- Every run name of every thread has a type.
unfoldable pub all_named : State → Bool
all_named s = every (λ t. every is_known (scope_of s.types t.names)) s.threads

-- Every thread's component, its number, its path and its purpose, is a component of the sheet.
unfoldable pub same_groups : List ℕ → List ℕ → Bool
same_groups [] [] = true
same_groups [] (h ∷ hs) = false
same_groups (g ∷ gs) [] = false
same_groups (g ∷ gs) (h ∷ hs) = eqb g h && same_groups gs hs

unfoldable pub same_component : Component → Component → Bool
same_component c d = eqb c.number d.number && (same_groups c.path d.path && eqb c.purpose d.purpose)

unfoldable pub is_component_of : Sheet → Component → Bool
is_component_of sheet c = any (λ l. same_component l.component c) (located sheet)

unfoldable pub all_located : Sheet → State → Bool
all_located sheet s = every (λ t. is_component_of sheet t.component) s.threads

-- The acts of a thread's remaining process, "binders still ahead [having] their stored [types]".
unfoldable pub thread_acts : List ℕ → Thread → List Act
thread_acts types t = acts t.component false (scope_of types t.names) t.process

unfoldable pub state_acts : State → List Act
state_acts s = gather (thread_acts s.types) s.threads

-- Questions 7 to 10 of one act.
unfoldable pub passes : Act → Bool
passes a = (in_scope a && on_channel a) && (carries_object a && in_path a)

-- "A state is typed if each remaining text passes 7 to 10 throughout".
unfoldable pub is_typed : State → Bool
is_typed s = every passes (state_acts s)

-- What the components that `among` tells infer: "what [their] threads' remaining texts need, joined as parallel parts".
unfoldable pub acts_where : (Component → Bool) → List Act → List Act
acts_where among all = only (λ a. among a.component) all

-- The component of a number, and what it infers.
unfoldable pub is_number : ℕ → Component → Bool
is_number n c = eqb c.number n

unfoldable pub of_component : ℕ → List Act → List Act
of_component n all = acts_where (is_number n) all

-- "It is not beyond the start if, for each kind, every flag in it was inferred from the sheet for that post, and every count is at
-- most the one inferred there".
pub record NotBeyond (now start : List Act) : Type 0 where
  pub reads : (k : ℕ) → any (λ a. is_read k (need_of a)) now ≡ true → any (λ a. is_read k (need_of a)) start ≡ true
  pub writes : (k : ℕ) → any (λ a. is_write k (need_of a)) now ≡ true → any (λ a. is_write k (need_of a)) start ≡ true
  pub accesses : (k : ℕ) → any (λ a. is_access k (need_of a)) now ≡ true → any (λ a. is_access k (need_of a)) start ≡ true
  pub counts : (k h : ℕ) → at_most (disclosed k h now) (disclosed k h start) ≡ true

-- "A thread's next act is its next receive or send (a repeat has none before its copy)": the first of its acts. (An input
-- or output has a first act, so that an empty list is never met there.)
unfoldable pub next_of : Process → List Act → Option Act
next_of nil rest = none
next_of (par p q) rest = none
next_of (new t p) rest = none
next_of (input x t p) [] = none
next_of (input x t p) (a ∷ rest) = some a
next_of (output x y p) [] = none
next_of (output x y p) (a ∷ rest) = some a
next_of (repl p) rest = none

unfoldable pub next_act : State → Thread → Option Act
next_act s t = next_of t.process (thread_acts s.types t)

-- A permission that a component's grant, which is for its purpose, holds: a flag, or a count of at least one.
unfoldable pub grants_need : List Tree → Component → Need → Bool
grants_need policy c Nothing = true
grants_need policy c (Read k) = flag_granted 1 policy k c
grants_need policy c (Write k) = flag_granted 2 policy k c
grants_need policy c (Access k) = flag_granted 4 policy k c
grants_need policy c (Disclose k h) = at_most (fin 1) (count_granted h policy k c)

-- "it is an error if it fails 7 to 10 under the names' types, or needs a permission that its path's grant lacks"; "an error where the grant
-- for that purpose lacks it" (document 02, Q-6)
unfoldable pub is_fine : List Tree → Act → Bool
is_fine policy a = passes a && grants_need policy a.component (need_of a)

unfoldable pub next_fine : List Tree → Option Act → Bool
next_fine policy none = true
next_fine policy (some a) = is_fine policy a

unfoldable pub no_error : List Tree → State → Bool
no_error policy s = every (λ t. next_fine policy (next_act s t)) s.threads

-- The send of a move, taken or not.
unfoldable pub act_at : State → Option Thread → Option Act
act_at s none = none
act_at s (some t) = next_act s t

unfoldable pub send_of : State → Move → Option Act
send_of s (unfold_repl i) = none
send_of s (send_out i) = act_at s (get_elem? s.threads i)
send_of s (receive_in i v) = none
send_of s (communicate i j) = act_at s (get_elem? s.threads i)
send_of s (environment_name t) = none

unfoldable pub is_taken : Result → Bool
is_taken (refuses n) = false
is_taken (takes s bytes) = true

-- how often an act at such a component discloses data of kind k into group h
unfoldable pub disclosures_of_act : (Component → Bool) → ℕ → ℕ → Option Act → ℕ
disclosures_of_act among k h none = 0
disclosures_of_act among k h (some a) = cond (among a.component) (disclosures k h (need_of a)) 0

-- "A post hands over a link of kind t in group G by each taken 02 or 04 whose send, at that post, needs disclose G of t."
unfoldable pub disclosed_where : (Component → Bool) → ℕ → ℕ → State → List Move → ℕ
disclosed_where among k h s [] = 0
disclosed_where among k h s (m ∷ ms) =
    cond (is_taken (step s m)) (disclosures_of_act among k h (send_of s m)) 0 + disclosed_where among k h (state_after s (step s m)) ms

unfoldable pub disclosed_by : ℕ → ℕ → ℕ → State → List Move → ℕ
disclosed_by n k h s ms = disclosed_where (is_number n) k h s ms

-- "the links it has handed over since the start plus those it still infers are at most that count", wherever that is finite
unfoldable pub is_within : Count → ℕ → Count → Bool
is_within unlimited done left = true
is_within (fin g) done left = at_most (fin done ⊕ left) (fin g)

-- The state that a run of an accepted sheet has come to after the moves `ms`.
abbrev pub reached : Accepted → List Move → State
reached a ms = run_states (start a.sheet) ms

-- Demand 3, of one list of moves: what holds of the state after them.
pub record Guaranteed (a : Accepted) (ms : List Move) : Type 0 where
  -- every run name of every thread has a type, and every thread is one of a component of the sheet, with that component's path and
  -- purpose ("Threads take their post's purpose through a run", document 02, Q-6): so `typed` and `error_free`, which ask of the thread's
  -- own names, path and purpose, ask of the sheet's
  pub named : all_named (reached a ms) ≡ true
  pub placed : all_located a.sheet (reached a ms) ≡ true
  -- "each remaining text passes 7 to 10 throughout"
  pub typed : is_typed (reached a ms) ≡ true
  -- of each component: "for each kind, every flag in it was inferred from the sheet for that post, and every count is at most the one
  -- inferred there"
  pub not_beyond : (n : ℕ) → NotBeyond (of_component n (state_acts (reached a ms))) (of_component n (sheet_acts a.sheet))
  -- no thread's next act is an error: none "fails 7 to 10 under the names' types, or needs a permission that its path's grant
  -- lacks", which is the grant for its purpose
  pub error_free : no_error a.policy (reached a ms) ≡ true
  -- of the class of each component (the components whose paths have its groups and which have its purpose), kind and group whose count
  -- is finite: "the links all its posts have handed over, plus those they still infer, are together at most the charter's count"
  -- (document 02, Q-4), which "belong[s] to path and purpose" (Q-6)
  pub within : (l : Located) → Memᴰ l (located a.sheet) → (kind group : ℕ) → kind < 16 → group < 64
      → is_within (count_granted group a.policy kind l.component)
      (disclosed_where (shares l.component) kind group (start a.sheet) ms)
      (disclosed kind group (acts_where (shares l.component) (state_acts (reached a ms))))
      ≡ true
