-- What is no repeat, no send and no receive.
use Prim.Native.Nat.{ℕ}
use mathlib.Core.Path.{◌≡◌, refl}
use mathlib.Core.List.{List}
use mathlib.Core.Option.{none}
use Rattle.std.specs.Prelude.{Option, Some, None}
use Rattle.memory.specs.declared.Thread.{Thread as Place}
use Rattle.continuations.specs.declared.Action.{Action}
use Rattle.continuations.specs.declared.Prefix.{Prefix}
use Rattle.continuations.specs.declared.Prefix.TheVariants as prefix
use Rattle.continuations.specs.Prefixes.{sending_of, receiving_of, repeat_of}

module _ (forms : List ℕ) (t : Place) where
  pub no_repeat : (st : Option Prefix) → ((next : ℕ) → st ≡ Some (prefix.Repeats next) → ⊥) → repeat_of forms t st ≡ none
  unfolding repeat_of
  no_repeat None q = refl
  no_repeat (Some (prefix.Repeats next)) q = absurd (q next refl)
  no_repeat (Some (prefix.Receives d)) q = refl
  no_repeat (Some (prefix.Sends d)) q = refl

  pub no_send : (st : Option Prefix) → ((d : Action) → st ≡ Some (prefix.Sends d) → ⊥) → sending_of forms t st ≡ none
  unfolding sending_of
  no_send None q = refl
  no_send (Some (prefix.Repeats next)) q = refl
  no_send (Some (prefix.Receives d)) q = refl
  no_send (Some (prefix.Sends d)) q = absurd (q d refl)

  pub no_receive : (st : Option Prefix) → ((d : Action) → st ≡ Some (prefix.Receives d) → ⊥) → receiving_of forms t st ≡ none
  unfolding receiving_of
  no_receive None q = refl
  no_receive (Some (prefix.Repeats next)) q = refl
  no_receive (Some (prefix.Receives d)) q = absurd (q d refl)
  no_receive (Some (prefix.Sends d)) q = refl
