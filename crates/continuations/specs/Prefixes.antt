-- The prefix of a thread (document 01: the form it stands at): the form that the code finds at its place, as the definitions of moves take it.
use Rattle.std.specs.Prelude.{ℕ, ◌+◌, ◌-◌, ◌%◌, ◌<◌, ◌≤◌, ◌≡◌, List}
use Rattle.std.specs.Prelude.{Option as Found, Some, None}
use Rattle.std.proofs.Math.Option.{Option, some, none}
use Rattle.reading.specs.Syntax.{Process}
use Rattle.decoding.specs.Tables.{process_in}
use Rattle.running.specs.State.{Thread}
use Rattle.running.specs.Moves.{Sending, Receiving, as_sending, as_receiving, as_repeat}
use Rattle.memory.specs.Chains.{chain}
use Rattle.memory.specs.declared.Thread.{Thread as Place}
use Rattle.continuations.specs.declared.Action.{Action}
use Rattle.continuations.specs.declared.Prefix.{Prefix}
use Rattle.continuations.specs.declared.Prefix.TheVariants.{Repeats, Receives, Sends}

-- What follows at `next`, under the same names. A place is read within its range, so that no fact about it has to be carried along.
abbrev pub continuation_of : Place → ℕ → Place
continuation_of t next = record { component = t.component; env = t.env; names = t.names; nest = t.nest - 1; at = next % 8192 }

unfoldable pub sending_of : List ℕ → Place → Found Prefix → Option Sending
sending_of forms t None = none
sending_of forms t (Some (Repeats next)) = none
sending_of forms t (Some (Receives d)) = none
sending_of forms t (Some (Sends d)) =
    some (record { channel = d.channel; sent = d.object; continuation = process_in (t.nest - 1) forms (d.next % 8192) })

unfoldable pub receiving_of : List ℕ → Place → Found Prefix → Option Receiving
receiving_of forms t None = none
receiving_of forms t (Some (Repeats next)) = none
receiving_of forms t (Some (Receives d)) =
    some (record { channel = d.channel; bound = d.object; continuation = process_in (t.nest - 1) forms (d.next % 8192) })
receiving_of forms t (Some (Sends d)) = none

unfoldable pub repeat_of : List ℕ → Place → Found Prefix → Option Process
repeat_of forms t None = none
repeat_of forms t (Some (Repeats next)) = some (process_in (t.nest - 1) forms (next % 8192))
repeat_of forms t (Some (Receives d)) = none
repeat_of forms t (Some (Sends d)) = none

-- What was found is what the thread's process begins with; a receive leaves room for the name that it binds, and what is sent has two
-- bytes.
pub record HasPrefix (forms : List ℕ) (t : Place) (u : Thread) (r : Found Prefix) : Type 0 where
  pub sends : as_sending u u.process ≡ sending_of forms t r
  pub receives : as_receiving u u.process ≡ receiving_of forms t r
  pub repeats : as_repeat u.process ≡ repeat_of forms t r
  pub binds : (d : Action) → r ≡ Some (Receives d) → t.names + (t.nest - 1) < 128
  pub small : (d : Action) → r ≡ Some (Sends d) → d.object < 65536

-- What was found at a place, for the thread that stands there with its run names.
abbrev pub PrefixFound : List ℕ → List ℕ → Place → Found Prefix → Type 0
PrefixFound forms cells t r =
    (u : Thread) → u.names ≡ chain cells t.names t.env → u.process ≡ process_in t.nest forms t.at
    → t.names + t.nest ≤ 128 → HasPrefix forms t u r
