-- What a move asks, and its answer: the state that memory holds afterwards, and the record.
use Rattle.std.specs.Prelude.{Option, Some, None, Result as Answer, Ok, Err, ℕ, ◌+◌, ◌<◌, ◌≤◌, ◌≡◌, List, Bool, true, cond, ltb, length, set}
use Rattle.running.specs.State.{State}
use Rattle.running.specs.Moves.{Result, state_after, record_bytes}
use Rattle.script.specs.Told.{bytes_of}
use Rattle.script.specs.declared.Record.{Record}
use Rattle.script.specs.declared.Move.{Move}
use Rattle.script.specs.declared.Move.TheVariants as move
use Rattle.products.specs.declared.Sizes.{Sizes}
use Rattle.products.specs.Held.{Holds}
use Rattle.transitions.specs.declared.Moved.{Moved}
use Rattle.transitions.specs.declared.MoveRefusal.{MoveRefusal}
use Rattle.transitions.specs.declared.MoveRefusal.TheVariants.{NoThread, OtherPrefix, NotKnown, OtherType, OtherChannel, NoRoom}

-- A type that a move brings fits the table of types.
unfoldable pub TypeFits : Move → Type 0
TypeFits (move.Unfold i) = Unit {0}
TypeFits (move.SendOut i) = Unit {0}
TypeFits (move.ReceiveIn p) = Unit {0}
TypeFits (move.Communicate p) = Unit {0}
TypeFits (move.EnvironmentName t) = t < 4294967296

-- The number of the question that a refused move fails.
abbrev pub number_of : MoveRefusal → ℕ
number_of NoThread = 30
number_of OtherPrefix = 31
number_of NotKnown = 32
number_of OtherType = 33
number_of OtherChannel = 34
number_of NoRoom = 35

-- The record of a refused move: its number, and zeros in all other fields.
unfoldable pub refused_line : ℕ → Record
refused_line number = record { number = number; label = 0; channel = 0; name = 0; actor = 0; receiver = 0 }

-- A refused move: its number, and the sizes as they are.
unfoldable pub refusal : ℕ → Sizes → Moved
refusal number z = record {
  sizes = z;
  line = record { number = number; label = 0; channel = 0; name = 0; actor = 0; receiver = 0 };
}

-- The sizes after a move, and its record. A refused move leaves the sizes as they were.
unfoldable pub sizes_after : Sizes → Answer Moved MoveRefusal → Sizes
sizes_after z (Ok moved) = moved.sizes
sizes_after z (Err refusal) = z

unfoldable pub line_of : Answer Moved MoveRefusal → Record
line_of (Ok moved) = moved.line
line_of (Err refusal) = refused_line (number_of refusal)

pub record Answers (forms : List ℕ) (turns : ℕ) (threads types : List ℕ) (known : List Bool) (cells : List ℕ) (state : State)
    (result : Result) (z : Sizes) (r : Answer Moved MoveRefusal) : Type 0 where
  pub holds : Holds forms (sizes_after z r) turns threads types known cells (state_after state result)
  pub bytes : bytes_of (line_of r) ≡ record_bytes result

-- 35, or the record of a move whose products are in place.
unfoldable pub outcome_of : Option Sizes → Record → Answer Moved MoveRefusal
outcome_of (Some z) rec = Ok (record { sizes = z; line = rec })
outcome_of None rec = Err NoRoom

-- A name sent to the environment becomes known, where it is one of those given.
unfoldable pub known_after : Sizes → ℕ → List Bool → List Bool
known_after z name known = cond (ltb name z.names) (set known name true) known

-- What a move promises: from every state that memory holds, with cells for one turn more, it answers `f` of that state, and memory
-- holds the state afterwards. Memory is the tables of threads, types, known names and cells, first before the move and then after it.
abbrev pub Stepped : List ℕ → Sizes → List ℕ → List ℕ → List Bool → List ℕ → List ℕ → List ℕ → List Bool → List ℕ → (State → Result)
    → Answer Moved MoveRefusal → Type 0
Stepped forms z threads types known cells threads' types' known' cells' f r =
    (state : State) (turns : ℕ) → turns + 1029 ≤ length cells → Holds forms z turns threads types known cells state
    → Answers forms (turns + 1) threads' types' known' cells' state (f state) z r

-- The same of a move that is not lent what is known, whatever that is.
abbrev pub SteppedAny : List ℕ → Sizes → List ℕ → List ℕ → List ℕ → List ℕ → List ℕ → List ℕ → (State → Result) → Answer Moved MoveRefusal → Type 0
SteppedAny forms z threads types cells threads' types' cells' f r =
    (state : State) (turns : ℕ) (known : List Bool) → turns + 1029 ≤ length cells → length known ≡ 1024
    → Holds forms z turns threads types known cells state → Answers forms (turns + 1) threads' types' known cells' state (f state) z r
