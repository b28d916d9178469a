-- Demand 3 from the exported contracts: where `velimhaw_check` or `velimhaw_play` answers 64 or more, what `check` and `play` assure
-- holds (the crate execution's specs/Assurance.antt).
use Prim.Native.Nat.{ℕ, ◌+◌, ◌<◌, ◌≤◌}
use mathlib.Core.Path.{◌≡◌, refl}
use mathlib.Core.List.{List}
use mathlib.Core.Bool.{Bool, true, false}
use native.Mathlib.Omega.{arith}
use Rattle.service.specs.Questions.{Asked, passed, failed}
use Rattle.service.specs.Check.{checked}
use Rattle.running.specs.Play.{played}
use Rattle.execution.specs.Assurance.{Assured, AssuredRun}
use Rattle.execution.proofs.Assurance.{check_assures, play_assures}
use Rattle.comparing.specs.NoLooser.{no_looser}
use Rattle.comparing.proofs.Theorem.{stricter_checks}
use Rattle.velimhaw.specs.Codes.{CheckedAs, PlayedAs, ComparedAs}
use Rattle.velimhaw.proofs.CodeLaws.{Tells, accepts, refuses, check_tells, play_tells, TellsYesOrNo, says_yes, no_looser_tells}

-- A number from 64 on tells that the call was accepted.
told_accepted : (x : Asked ℕ) (r n : ℕ) → Tells x r → r ≡ n + 64 → passed n ≡ x
told_accepted (passed m) r n (accepts) e = let z : n ≡ m = omega arith in rw z
told_accepted (failed q) r n (refuses h) e = absurd (omega arith)

pub exported_check_assures : (sheet charter output output' : List ℕ) (n : ℕ) → CheckedAs sheet charter output output' (n + 64) → Assured sheet charter
exported_check_assures sheet charter output output' n c =
    check_assures sheet charter output output' n (record {
      answer = told_accepted (checked sheet charter output).answer (n + 64) n (check_tells sheet charter output output' (n + 64) c) refl;
      lent = c.lent;
    })

pub exported_play_assures : (sheet charter script log log' : List ℕ) (n : ℕ) → PlayedAs sheet charter script log log' (n + 64)
    → AssuredRun sheet charter script log log' n
exported_play_assures sheet charter script log log' n p =
    play_assures sheet charter script log log' n (record {
      answer = told_accepted (played sheet charter script log).answer (n + 64) n (play_tells sheet charter script log log' (n + 64) p) refl;
      lent = p.lent;
    })

-- Document 02, Q-8, from the exported contracts: where `velimhaw_no_looser` answers 1 of A and B, and `velimhaw_check` accepts a sheet under A,
-- what it answers and writes under A it answers and writes under B.
told_yes : (t : Bool) → TellsYesOrNo t 1 → t ≡ true
told_yes false tells = elim tells [ ]
told_yes true says_yes = refl

pub exported_stricter_checks : (sheet a b output output' : List ℕ) (n : ℕ) → ComparedAs a b 1 → CheckedAs sheet a output output' (n + 64)
    → CheckedAs sheet b output output' (n + 64)
exported_stricter_checks sheet a b output output' n one c =
    let x = exported_check_assures sheet a output output' n c in
    let same = stricter_checks sheet a b output x.accepted (told_yes (no_looser a b) (no_looser_tells a b 1 one)) x.passes in
    record { answer = rw same c.answer; lent = rw same c.lent }
