-- Question 21: "script made of at most 1,024 whole moves, codes, type counts, groups and kinds in range?"
use Rattle.std.specs.Prelude.{ℕ, zero, suc, ◌+◌, ◌*◌, List, [], ◌∷◌, cond, length, ltb, eqb}
use Rattle.reading.specs.Read.{Read, got, refused, and_then, byte_at}
use Rattle.reading.specs.Types.{type_at}
use Rattle.policy.specs.Reading.{two_bytes}
use Rattle.running.specs.Moves.{Move, unfold_repl, send_out, receive_in, communicate, environment_name}

-- The move with a code; i, j and v have no range.
unfoldable pub move_from : List ℕ → ℕ → ℕ → Read Move
move_from s at code =
    cond (eqb code 1) (and_then (byte_at s at) (λ i m. got (unfold_repl i) m))
    (cond (eqb code 2) (and_then (byte_at s at) (λ i m. got (send_out i) m))
    (cond (eqb code 3) (and_then (byte_at s at) (λ i m. and_then (two_bytes s m) (λ v k. got (receive_in i v) k)))
    (cond (eqb code 4) (and_then (byte_at s at) (λ i m. and_then (byte_at s m) (λ j k. got (communicate i j) k)))
    (cond (eqb code 5) (and_then (type_at s at) (λ t m. got (environment_name t) m))
    (refused 4 at)))))

unfoldable pub move_at : List ℕ → ℕ → Read Move
move_at s at = and_then (byte_at s at) (λ code m. move_from s m code)

-- The moves to the script's end, at most `most` of them.
unfoldable pub moves_from : ℕ → List ℕ → ℕ → Read (List Move)
moves_from zero s at = cond (eqb at (length s)) (got [] at) (refused 21 at)
moves_from (suc n) s at =
    let rest : Read (List Move) = and_then (move_at s at) (λ m k. and_then (moves_from n s k) (λ ms e. got (m ∷ ms) e)) in
    cond (eqb at (length s)) (got [] at) rest

unfoldable pub as_twenty_one : {A : Type 0} → Read A → Read A
as_twenty_one (got a next) = got a next
as_twenty_one (refused question at) = refused 21 at

unfoldable pub read_script : List ℕ → Read (List Move)
read_script s = as_twenty_one (moves_from 1024 s 0)
