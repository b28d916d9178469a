-- Every thread stays its component's: what a thread makes has its component, so that what holds of the components of a state's
-- threads holds of those of every later state; and the threads of a start are those of the sheet's components.
use Prim.Native.Nat.{ℕ, ◌+◌}
use mathlib.Core.Bool.{Bool, true, ◌&&◌}
use mathlib.Core.List.{List, [], ◌∷◌, ◌++◌}
use mathlib.Core.Option.{Option}
use mathlib.Core.Path.{◌≡◌, refl}
use borrow.Author.Tests.{eq-eqb}
use lib.Dec.{eqb}
use lib.ListN.{length}
use Rattle.reading.specs.Syntax.{Process, nil, par, new, input, output, repl, System, nilₛ, parₛ, groupₛ, newₛ, compₛ, Sheet, components}
use Rattle.inference.specs.Acts.{Component, component_at, Located, locate, located}
use Rattle.running.specs.State.{Thread, State}
use Rattle.running.specs.Products.{news, threads_of, system_threads, system_news, start}
use Rattle.running.specs.Moves.{Move, unfold_repl, send_out, receive_in, communicate, environment_name, Result, made, singles, join, after, now_known, unfold_step, send_step, receive_step, communicate_step, environment_step, step, state_after, run_states}
use Rattle.running.specs.Guarantees.{same_groups, same_component, is_component_of, all_located}
use Rattle.running.proofs.Alls.{All, done, also, and_both, any_member, all_append, all_left, all_right, all_head, all_at, all_set, all_gather, all_from, every_all}
use Rattle.running.proofs.Owed.{all_singles, join_singles}
use Rattle.running.proofs.Invariant.{on_given, on_guard, on_taken, on_sending, on_receiving, on_repeat}

-- A property of components, of all threads' components.
module _ (C : Component → Type 0) where
  abbrev Homed : List Thread → Type 0
  Homed ts = All (λ t. C t.component) ts

  made_homed : (c : Component) (names : List ℕ) (next : ℕ) (p : Process) → C c → Homed (threads_of c names next p)
  unfolding threads_of
  made_homed c names next nil h = done
  made_homed c names next (par p q) h = all_append (made_homed c names next p h) (made_homed c names (next + length (news p)) q h)
  made_homed c names next (new t p) h = made_homed c (names ++ (next ∷ [])) (next + 1) p h
  made_homed c names next (input x t p) h = also h done
  made_homed c names next (output x y p) h = also h done
  made_homed c names next (repl p) h = also h done

  system_homed : (m : ℕ) (path names : List ℕ) (scope : List (Option ℕ)) (next : ℕ) (s : System)
      → All (λ l. C l.component) (locate m path scope s) → Homed (system_threads m path names next s)
  unfolding system_threads locate
  system_homed m path names scope next nilₛ h = done
  system_homed m path names scope next (parₛ l r) h =
      all_append (system_homed m path names scope next l (all_left (locate m path scope l) (locate (m + components l) path scope r) h))
      (system_homed (m + components l) path names scope (next + length (system_news l)) r
      (all_right (locate m path scope l) (locate (m + components l) path scope r) h))
  system_homed m path names scope next (groupₛ g p) h = system_homed m (path ++ (g ∷ [])) names scope next p h
  system_homed m path names scope next (newₛ t p) h = system_homed m path (names ++ (next ∷ [])) (scope ++ (_ ∷ [])) (next + 1) p h
  system_homed m path names scope next (compₛ own p) h = made_homed (component_at m path own) names next p (all_head h)

  -- What a move leads to.
  abbrev Homes : State → Result → Type 0
  Homes s r = Homed (state_after s r).threads

  step_homed : (s : State) (m : Move) → Homed s.threads → Homes s (step s m)
  unfolding step unfold_step send_step receive_step communicate_step environment_step state_after after now_known made join
  step_homed s (unfold_repl i) h =
      on_given (Homes s) _ _ _ (λ k. h) (λ t e.
      on_repeat (Homes s) _ _ _ (λ k. h) (λ p q.
      on_taken (Homes s) _ _ (λ k. h)
      (all_gather (λ l. l) (all_set (singles s.threads) i (all_singles h)
      (all_append (made_homed t.component _ _ p (all_at s.threads i e h)) (also (all_at s.threads i e h) done))))))
  step_homed s (send_out i) h =
      on_given (Homes s) _ _ _ (λ k. h) (λ t e.
      on_sending (Homes s) _ t _ _ (λ k. h) (λ x y p q.
      on_guard (Homes s) _ _ _ (λ k. h) (λ b.
      on_taken (Homes s) _ _ (λ k. h)
      (all_gather (λ l. l) (all_set (singles s.threads) i (all_singles h)
      (made_homed t.component _ _ p (all_at s.threads i e h)))))))
  step_homed s (receive_in i v) h =
      on_given (Homes s) _ _ _ (λ k. h) (λ t e.
      on_receiving (Homes s) _ t _ _ (λ k. h) (λ x u p q.
      on_guard (Homes s) _ _ _ (λ k. h) (λ b.
      on_guard (Homes s) _ _ _ (λ k. h) (λ c.
      on_taken (Homes s) _ _ (λ k. h)
      (all_gather (λ l. l) (all_set (singles s.threads) i (all_singles h)
      (made_homed t.component _ _ p (all_at s.threads i e h))))))))
  step_homed s (communicate i j) h =
      on_given (Homes s) _ _ _ (λ k. h) (λ t e.
      on_given (Homes s) _ _ _ (λ k. h) (λ u f.
      on_sending (Homes s) _ t _ _ (λ k. h) (λ x y p q.
      on_receiving (Homes s) _ u _ _ (λ k. h) (λ z v r o.
      on_guard (Homes s) _ _ _ (λ k. h) (λ b.
      on_taken (Homes s) _ _ (λ k. h)
      (all_gather (λ l. l) (all_set _ j (all_set (singles s.threads) i (all_singles h)
      (made_homed t.component _ _ p (all_at s.threads i e h)))
      (made_homed u.component _ _ r (all_at s.threads j f h)))))))))
  step_homed s (environment_name t) h = on_taken (Homes s) _ _ (λ k. h) (all_gather (λ l. l) (all_singles h))

  run_homed : (s : State) (ms : List Move) → Homed s.threads → Homed (run_states s ms).threads
  unfolding run_states
  run_homed s [] h = h
  run_homed s (m ∷ ms) h = run_homed (state_after s (step s m)) ms (step_homed s m h)

same_groups_lem : (gs : List ℕ) → same_groups gs gs ≡ true
unfolding same_groups
same_groups_lem [] = refl
same_groups_lem (g ∷ gs) = and_both (eqb g g) (same_groups gs gs) (eq-eqb g g refl) (same_groups_lem gs)

same_component_lem : (c : Component) → same_component c c ≡ true
unfolding same_component
same_component_lem c =
    and_both (eqb c.number c.number) (same_groups c.path c.path && eqb c.purpose c.purpose) (eq-eqb c.number c.number refl)
    (and_both (same_groups c.path c.path) (eqb c.purpose c.purpose) (same_groups_lem c.path) (eq-eqb c.purpose c.purpose refl))

components_located : (sheet : Sheet) → All (λ l. is_component_of sheet l.component ≡ true) (located sheet)
unfolding is_component_of
components_located sheet = all_from (located sheet) (λ l m. any_member (λ k. same_component k.component l.component) l m (same_component_lem l.component))

-- Every thread of every state of a run is one of a component of the sheet.
pub run_located : (sheet : Sheet) (ms : List Move) → all_located sheet (run_states (start sheet) ms) ≡ true
unfolding all_located start located
run_located sheet ms =
    every_all (λ t. is_component_of sheet t.component)
    (run_homed (λ c. is_component_of sheet c ≡ true) (start sheet) ms
    (system_homed (λ c. is_component_of sheet c ≡ true) 0 [] _ _ _ sheet.system (components_located sheet)))
