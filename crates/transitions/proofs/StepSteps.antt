-- The move that a code names, return by return.
use Prim.Native.Nat.{ℕ, ◌+◌, ◌<◌}
use mathlib.Core.Path.{◌≡◌}
use mathlib.Core.List.{List}
use mathlib.Core.Bool.{Bool}
use borrow.Author.Rules.{rules}
use lib.ListN.{length}
use Rattle.std.specs.Prelude.{Result as Answer}
use Rattle.running.specs.State.{State}
use Rattle.running.specs.Moves.{unfold_step, send_step, receive_step, communicate_step, environment_step, step}
use Rattle.script.specs.Told.{move_of}
use Rattle.script.specs.declared.Communication.{Communication}
use Rattle.script.specs.declared.Move.{Move}
use Rattle.script.specs.declared.Move.TheVariants as move
use Rattle.script.specs.declared.Receipt.{Receipt}
use Rattle.products.specs.declared.Sizes.{Sizes}
use Rattle.products.specs.Held.{Holds}
use Rattle.transitions.specs.declared.Moved.{Moved}
use Rattle.transitions.specs.declared.MoveRefusal.{MoveRefusal}
use Rattle.transitions.specs.Steps.{TypeFits, Answers, Stepped, SteppedAny}

module _ (forms : List ℕ) (m : Move) (z : Sizes) (threads types : List ℕ) (known : List Bool) (cells : List ℕ) where
  abbrev Told : List ℕ → List ℕ → List Bool → List ℕ → Answer Moved MoveRefusal → Type 0
  Told threads' types' known' cells' r = Stepped forms z threads types known cells threads' types' known' cells' (λ state. step state (move_of m)) r

  module _ (threads' types' cells' : List ℕ) (r : Answer Moved MoveRefusal) where
    pub step_unfold : (i : ℕ) → m ≡ move.Unfold i → length known ≡ 1024
        → SteppedAny forms z threads types cells threads' types' cells' (λ state. unfold_step state i) r → Told threads' types' known cells' r
    unfolding step move_of
    step_unfold i e room f state turns few h = rw e (f state turns known few room h)

    pub step_send : (i : ℕ) (known' : List Bool) → m ≡ move.SendOut i
        → Stepped forms z threads types known cells threads' types' known' cells' (λ state. send_step state i) r → Told threads' types' known' cells' r
    unfolding step move_of
    step_send i known' e f state turns few h = rw e (f state turns few h)

    pub step_receive : (p : Receipt) → m ≡ move.ReceiveIn p
        → Stepped forms z threads types known cells threads' types' known cells' (λ state. receive_step state p.thread p.name) r
        → Told threads' types' known cells' r
    unfolding step move_of
    step_receive p e f state turns few h = rw e (f state turns few h)

    pub step_communicate : (p : Communication) → m ≡ move.Communicate p → length known ≡ 1024
        → SteppedAny forms z threads types cells threads' types' cells' (λ state. communicate_step state p.sender p.receiver) r
        → Told threads' types' known cells' r
    unfolding step move_of
    step_communicate p e room f state turns few h = rw e (f state turns known few room h)

  pub step_environment : (types' : List ℕ) (known' : List Bool) (r : Answer Moved MoveRefusal) (t : ℕ) → m ≡ move.EnvironmentName t → length threads ≡ 128
      → ((forms threads cells : List ℕ) (state : State) (turns : ℕ) → length threads ≡ 128 → Holds forms z turns threads types known cells state
      → Answers forms (turns + 1) threads types' known' cells state (environment_step state t) z r)
      → Told threads types' known' cells r
  unfolding step move_of
  step_environment types' known' r t e room f state turns few h = rw e (f forms threads cells state turns room h)

pub brought_fits : (m : Move) (t : ℕ) → TypeFits m → m ≡ move.EnvironmentName t → t < 4294967296
unfolding TypeFits
brought_fits m t h e = rw e at h

pub ruleset step_steps = (rules, brought_fits, step_unfold, step_send, step_receive, step_communicate, step_environment)
