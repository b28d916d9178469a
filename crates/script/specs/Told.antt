-- Which move and which answer of document 01 each value of the code is, and which bytes a record is.
use Rattle.std.specs.Prelude.{ℕ, ◌+◌, ◌%◌, ◌<◌, ◌≡◌, List, [], ◌∷◌, ◌++◌, length, Option, Some, None, Result, Ok, Err}
use Rattle.reading.specs.Read.{Read, got, refused}
use Rattle.reading.specs.Told.{told}
use Rattle.reading.specs.declared.Question.{Question}
use Rattle.reading.specs.declared.Question.TheVariants as question
use Rattle.reading.specs.declared.Refusal.{Refusal}
use Rattle.running.specs.Moves.{Move as Transition, unfold_repl, send_out, receive_in, communicate, environment_name, word}
use Rattle.script.specs.declared.Move.{Move}
use Rattle.script.specs.declared.Move.TheVariants as move
use Rattle.script.specs.declared.MovePlace.{MovePlace}
use Rattle.script.specs.declared.Record.{Record}

unfoldable pub move_of : Move → Transition
move_of (move.Unfold i) = unfold_repl i
move_of (move.SendOut i) = send_out i
move_of (move.ReceiveIn r) = receive_in r.thread r.name
move_of (move.Communicate m) = communicate m.sender m.receiver
move_of (move.EnvironmentName t) = environment_name t

abbrev pub move_read : Result MovePlace Refusal → Read Transition
move_read = told (λ p. got (move_of p.step) p.next)

-- how many bytes a move has that was read from a place on; none where none was read
unfoldable pub Spans : ℕ → Read Transition → Option ℕ → Type 0
Spans at (got m next) (Some n) = (next ≡ at + n) × (0 < n)
Spans at (got m next) None = ⊥
Spans at (refused question place) (Some n) = ⊥
Spans at (refused question place) None = Unit {0}

-- how many moves a script has that was read; the question that fails, where it is not
unfoldable pub moves_in : Read (List Transition) → Result ℕ Question
moves_in (got ms e) = Ok (length ms)
moves_in (refused q at) = Err question.Script

-- "A record: 00; label; channel and name, two bytes each; acting post, receiver's post." "A refused move: its number, seven zeros."
unfoldable pub bytes_of : Record → List ℕ
bytes_of r =
    r.number % 256 ∷ r.label % 256 ∷ (word r.channel ++ (word r.name ++ (r.actor % 256 ∷ r.receiver % 256 ∷ [])))
