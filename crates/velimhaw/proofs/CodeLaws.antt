-- Each number that an exported service answers tells one answer: below 64 it is the number of the question that failed; from 64 on
-- the call was accepted, and 64 less is the length written or the number of moves. The bounds in `code_of` are never reached.
use Prim.Native.Nat.{ℕ, ◌+◌, ◌*◌, ◌<◌, ◌≤◌}
use mathlib.Core.Path.{◌≡◌, refl, sym}
use mathlib.Core.List.{List}
use mathlib.Core.Bool.{Bool, true, false}
use native.Mathlib.Omega.{arith}
use lib.ListN.{length}
use lib.Dec.{leb}
use borrow.Author.Tests.{lt-ltb}
use Rattle.reading.specs.Read.{Read, got, refused}
use Rattle.service.specs.Questions.{Asked, passed, failed, ask, after_reading, Accepted, judged}
use Rattle.service.specs.Check.{checked}
use Rattle.service.proofs.FirstLaws.{failed_below}
use Rattle.service.proofs.RoomLaws.{InRange, check_in_range}
use Rattle.explaining.specs.Explain.{explained}
use Rattle.explaining.proofs.ExplainLaws.{SaidInRange, explain_in_range}
use Rattle.slack.specs.Slack.{slack_told}
use Rattle.slack.proofs.SlackSizes.{SlackInRange, slack_in_range}
use Rattle.comparing.specs.NoLooser.{no_looser}
use Rattle.moving.specs.Moving.{upgraded, downgraded}
use Rattle.moving.proofs.MoveLaws.{MovedInRange, upgrade_in_range, downgrade_in_range}
use Rattle.running.specs.State.{State}
use Rattle.running.specs.Products.{start}
use Rattle.running.specs.Moves.{Move, has_room}
use Rattle.running.specs.Script.{moves_from, as_twenty_one, read_script}
use Rattle.running.specs.Play.{opened_from, opened, logged, outcome_of, played}
use Rattle.script.proofs.ScriptLaws.{script_moves, script_few}
use Rattle.velimhaw.specs.Codes.{code_of, CheckedAs, PlayedAs, ExplainedAs, ToldAs, UpgradedAs, DowngradedAs, yes_or_no, ComparedAs}

-- A number that tells an answer.
pub data Tells : Asked ℕ → ℕ → Type 0 where
  accepts : {n : ℕ} → Tells (passed n) (n + 64)
  refuses : {q : ℕ} → q < 64 → Tells (failed q) q

-- answers within the bounds of `code_of`
unfoldable Small : Asked ℕ → Type 0
Small (passed n) = n < 4294967296
Small (failed q) = q < 63

code_tells : (x : Asked ℕ) → Small x → Tells x (code_of x)
unfolding Small code_of
code_tells (passed n) h = rw (lt-ltb n 4294967296 h) accepts
code_tells (failed q) h = rw (lt-ltb q 63 h) (refuses {q = q} (omega arith))

small_check : (x : Asked ℕ) → InRange x → Small x
unfolding Small InRange
small_check (passed n) h = omega arith
small_check (failed q) h = omega arith

pub check_tells : (sheet charter output output' : List ℕ) (r : ℕ) → CheckedAs sheet charter output output' r
    → Tells (checked sheet charter output).answer r
check_tells sheet charter output output' r c =
    rw c.answer (code_tells (checked sheet charter output).answer
    (small_check (checked sheet charter output).answer (check_in_range sheet charter output)))

small_explained : (x : Asked ℕ) → SaidInRange x → Small x
unfolding Small SaidInRange
small_explained (passed n) h = omega arith
small_explained (failed q) h = omega arith

pub explain_tells : (sheet charter names line line' : List ℕ) (r : ℕ) → ExplainedAs sheet charter names line line' r
    → Tells (explained sheet charter names line).answer r
explain_tells sheet charter names line line' r x =
    rw x.answer (code_tells (explained sheet charter names line).answer
    (small_explained (explained sheet charter names line).answer (explain_in_range sheet charter names line)))

small_told : (x : Asked ℕ) → SlackInRange x → Small x
unfolding Small SlackInRange
small_told (passed n) h = omega arith
small_told (failed q) h = omega arith

pub slack_tells : (sheet charter output output' : List ℕ) (r : ℕ) → ToldAs sheet charter output output' r
    → Tells (slack_told sheet charter output).answer r
slack_tells sheet charter output output' r x =
    rw x.answer (code_tells (slack_told sheet charter output).answer
    (small_told (slack_told sheet charter output).answer (slack_in_range sheet charter output)))

small_moved : (x : Asked ℕ) → MovedInRange x → Small x
unfolding Small MovedInRange
small_moved (passed n) h = omega arith
small_moved (failed q) h = omega arith

pub upgrade_tells : (sheet output output' : List ℕ) (r : ℕ) → UpgradedAs sheet output output' r → Tells (upgraded sheet output).answer r
upgrade_tells sheet output output' r x =
    rw x.answer (code_tells (upgraded sheet output).answer (small_moved (upgraded sheet output).answer (upgrade_in_range sheet output)))

pub downgrade_tells : (sheet output output' : List ℕ) (r : ℕ) → DowngradedAs sheet output output' r → Tells (downgraded sheet output).answer r
downgrade_tells sheet output output' r x =
    rw x.answer (code_tells (downgraded sheet output).answer (small_moved (downgraded sheet output).answer (downgrade_in_range sheet output)))

-- A number that tells yes or no.
pub data TellsYesOrNo : Bool → ℕ → Type 0 where
  says_yes : TellsYesOrNo true 1
  says_no : TellsYesOrNo false 0

pub no_looser_tells : (a b : List ℕ) (r : ℕ) → ComparedAs a b r → TellsYesOrNo (no_looser a b) r
no_looser_tells a b r c = rw c.answer (go (no_looser a b))
  where
    go : (t : Bool) → TellsYesOrNo t (yes_or_no t)
    go true = unfold yes_or_no in says_yes
    go false = unfold yes_or_no in says_no

-- the only number that a script is refused with
twenty_one : (x : Read (List Move)) {q at : ℕ} → as_twenty_one x ≡ refused q at → q ≡ 21
unfolding as_twenty_one
twenty_one (got a k) e = let z : ◌≡◌ {A = ℕ} 0 1 = cc in absurd (omega arith)
twenty_one (refused p k) {q} e = let z : ◌≡◌ {A = ℕ} 21 q = cc in sym z

script_question : (script : List ℕ) {q at : ℕ} → read_script script ≡ refused q at → q ≡ 21
unfolding read_script
script_question script e = twenty_one (moves_from 1024 script 0) e

module _ (script log : List ℕ) where
  small_log : (begin : State) (moves : List Move) → length moves ≤ 1024 → (b : Bool)
      → Small (outcome_of log (ask 22 b (passed (record { begin = begin; moves = moves })))).answer
  unfolding ask outcome_of Small
  small_log begin moves h true = omega arith
  small_log begin moves h false = omega arith

  small_script : (begin : State) (x : Read (List Move)) → read_script script ≡ x
      → Small (outcome_of log (logged log (after_reading x (λ moves. passed (record { begin = begin; moves = moves }))))).answer
  unfolding after_reading logged
  small_script begin (got moves k) e =
      small_log begin moves (script_few script (script_moves script e)) (leb (8 * length moves) (length log))
  small_script begin (refused q at) e =
      unfold outcome_of Small in omega (arith, script_question script e)

  small_start : (a : Accepted) (b : Bool)
      → Small (outcome_of log (logged log (ask 20 b
      (after_reading (read_script script) (λ moves. passed (record { begin = start a.sheet; moves = moves })))))).answer
  unfolding ask
  small_start a true = small_script (start a.sheet) (read_script script) refl
  small_start a false = unfold logged outcome_of Small in omega arith

  small_play : (sheet charter : List ℕ) → Small (played sheet charter script log).answer
  unfolding played opened
  small_play sheet charter = go (judged sheet charter) refl
    where
      go : (x : Asked Accepted) → judged sheet charter ≡ x → Small (outcome_of log (logged log (opened_from script x))).answer
      go (passed a) e = unfold opened_from in small_start a (has_room (start a.sheet))
      go (failed n) e = unfold opened_from logged outcome_of Small in omega (arith, failed_below sheet charter n e)

pub play_tells : (sheet charter script log log' : List ℕ) (r : ℕ) → PlayedAs sheet charter script log log' r
    → Tells (played sheet charter script log).answer r
play_tells sheet charter script log log' r p =
    rw p.answer (code_tells (played sheet charter script log).answer (small_play script log sheet charter))
