-- The fields of each move, as `move_from` of the crate `running` has them behind the move's code.
use Rattle.std.specs.Prelude.{ℕ, List}
use Rattle.reading.specs.Read.{Read, got, and_then, byte_at}
use Rattle.reading.specs.Types.{type_at}
use Rattle.policy.specs.Reading.{two_bytes}
use Rattle.running.specs.Moves.{Move, unfold_repl, send_out, receive_in, communicate, environment_name}

unfoldable pub unfold_at : List ℕ → ℕ → Read Move
unfold_at s at = and_then (byte_at s at) (λ i m. got (unfold_repl i) m)

unfoldable pub send_at : List ℕ → ℕ → Read Move
send_at s at = and_then (byte_at s at) (λ i m. got (send_out i) m)

unfoldable pub receipt_at : List ℕ → ℕ → Read Move
receipt_at s at = and_then (byte_at s at) (λ i m. and_then (two_bytes s m) (λ v k. got (receive_in i v) k))

unfoldable pub communication_at : List ℕ → ℕ → Read Move
communication_at s at = and_then (byte_at s at) (λ i m. and_then (byte_at s m) (λ j k. got (communicate i j) k))

unfoldable pub environment_name_at : List ℕ → ℕ → Read Move
environment_name_at s at = and_then (type_at s at) (λ t m. got (environment_name t) m)
