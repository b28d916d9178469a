-- How a move is read: a refusal is handed on, fields that were found make the move, and each code has its own arm.
use Prim.Native.Nat.{ℕ}
use mathlib.Core.List.{List}
use mathlib.Core.Path.{◌≡◌}
use borrow.Author.Tests.{ne_eqb}
use Rattle.reading.proofs.Steps.{steps}
use Rattle.reading.specs.Read.{Read, refused, and_then}
use Rattle.running.specs.Moves.{Move}
use Rattle.running.specs.Script.{move_from}
use Rattle.script.specs.Fields.{unfold_at, send_at, receipt_at, communication_at, environment_name_at}

pub ruleset field_steps = (steps)

module _ (s : List ℕ) (at code : ℕ) {y : Read Move} where
  pub code_unfold : code ≡ 1 → y ≡ unfold_at s at → y ≡ move_from s at code
  unfolding move_from unfold_at
  code_unfold e h = rw e h

  pub code_send : code ≡ 2 → y ≡ send_at s at → y ≡ move_from s at code
  unfolding move_from send_at
  code_send e h = rw e h

  pub code_receipt : code ≡ 3 → y ≡ receipt_at s at → y ≡ move_from s at code
  unfolding move_from receipt_at
  code_receipt e h = rw e h

  pub code_communication : code ≡ 4 → y ≡ communication_at s at → y ≡ move_from s at code
  unfolding move_from communication_at
  code_communication e h = rw e h

  pub code_environment : code ≡ 5 → y ≡ environment_name_at s at → y ≡ move_from s at code
  unfolding move_from environment_name_at
  code_environment e h = rw e h

  pub code_other : (code ≡ 1 → ⊥) → (code ≡ 2 → ⊥) → (code ≡ 3 → ⊥) → (code ≡ 4 → ⊥) → (code ≡ 5 → ⊥) → y ≡ refused 4 at
      → y ≡ move_from s at code
  unfolding move_from
  code_other a b c d e h = rw (ne_eqb code 1 a, ne_eqb code 2 b, ne_eqb code 3 c, ne_eqb code 4 d, ne_eqb code 5 e) h

pub ruleset move_steps = (field_steps, code_unfold, code_send, code_receipt, code_communication, code_environment, code_other)
