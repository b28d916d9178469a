-- Demand 3 as a user of the services meets it. "if `check` answers accepted, then .." is `check_assures`; "whatever `play` logs, then
-- .." is `play_assures`. Their hypotheses are the contracts of `check` and `play`; what they promise is told in specs/Assurance.antt.
use Prim.Native.Nat.{ℕ, ◌*◌}
use mathlib.Core.Bool.{Bool, true, false}
use mathlib.Core.List.{List, [], ◌∷◌, ◌++◌}
use mathlib.Core.Option.{Option, some, none}
use mathlib.Core.Path.{◌≡◌, refl, sym, ap, ◌∙◌}
use native.Mathlib.Omega.{arith}
use lib.Dec.{leb}
use lib.ListN.{length, drop, length-append}
use Rattle.reading.specs.Read.{Read, got, refused}
use Rattle.service.specs.Questions.{Asked, passed, failed, ask, after_reading, Accepted, judged}
use Rattle.service.specs.Check.{interface_for, written, checked}
use Rattle.service.specs.Told.{Checked}
use Rattle.std.specs.Prelude.{Ok}
use Rattle.running.specs.State.{State}
use Rattle.running.specs.Products.{start}
use Rattle.running.specs.Moves.{Move, unfold_repl, send_out, receive_in, communicate, environment_name, Result, refuses, guard, given, word, record_of, taken, unfold_step, send_step, receive_step, communicate_step, environment_step, step, state_after, record_bytes, has_room, run_log}
use Rattle.running.specs.Script.{read_script}
use Rattle.running.specs.Play.{opened_from, opened, logged, outcome_of, played}
use Rattle.running.proofs.Theorem.{guaranteed}
use Rattle.execution.specs.Told.{Played}
use Rattle.execution.specs.Assurance.{Assured, AssuredRun}

assured : (sheet charter : List ℕ) (a : Accepted) → judged sheet charter ≡ passed a → Assured sheet charter
assured sheet charter a e = record { accepted = a; passes = e; holds = guaranteed sheet charter a e }

never : {R : Type 0} {A : Type 0} {n : ℕ} {a : A} → failed n ≡ passed a → R
never e = let z : ◌≡◌ {A = ℕ} 0 1 = cc in absurd (omega arith)

-- If `check` answers accepted.
pub check_assures : (sheet charter output output' : List ℕ) (n : ℕ) → Checked sheet charter output output' (Ok n) → Assured sheet charter
unfolding checked interface_for written
check_assures sheet charter output output' n c = go (judged sheet charter) refl c.answer
  where
    go : (j : Asked Accepted) → judged sheet charter ≡ j → passed n ≡ (written output (interface_for output j)).answer → Assured sheet charter
    go (passed a) e h = assured sheet charter a e
    go (failed q) e h = never (sym h)

-- "eight bytes a move": each record has eight, a refused move's too.
record Eight (r : Result) : Type 0 where
  long : length (record_bytes r) ≡ 8

eight_refused : (n : ℕ) → Eight (refuses n)
unfolding record_bytes
eight_refused n = record { long = refl }

eight_given : {A : Type 0} (n : ℕ) (o : Option A) (f : A → Result) → ((a : A) → Eight (f a)) → Eight (given n o f)
unfolding given
eight_given n none f h = eight_refused n
eight_given n (some a) f h = h a

eight_guard : (n : ℕ) (b : Bool) (r : Result) → Eight r → Eight (guard n b r)
unfolding guard
eight_guard n true r h = h
eight_guard n false r h = eight_refused n

eight_taken : (s : State) (label channel name actor receiver : ℕ) → Eight (taken s (record_of label channel name actor receiver))
unfolding taken record_of word record_bytes
eight_taken s label channel name actor receiver = eight_guard 35 (has_room s) _ (record { long = refl })

eight_step : (s : State) (m : Move) → Eight (step s m)
unfolding step unfold_step send_step receive_step communicate_step environment_step
eight_step s (unfold_repl i) = eight_given 30 _ _ (λ t. eight_given 31 _ _ (λ p. eight_taken _ _ _ _ _ _))
eight_step s (send_out i) = eight_given 30 _ _ (λ t. eight_given 31 _ _ (λ a. eight_guard 32 _ _ (eight_taken _ _ _ _ _ _)))
eight_step s (receive_in i v) = eight_given 30 _ _ (λ t. eight_given 31 _ _ (λ a. eight_guard 32 _ _ (eight_guard 33 _ _ (eight_taken _ _ _ _ _ _))))
eight_step s (communicate i j) =
    eight_given 30 _ _ (λ t. eight_given 30 _ _ (λ u. eight_given 31 _ _ (λ a. eight_given 31 _ _ (λ b. eight_guard 34 _ _ (eight_taken _ _ _ _ _ _)))))
eight_step s (environment_name t) = eight_taken _ _ _ _ _ _

run_length : (s : State) (ms : List Move) → length (run_log s ms) ≡ 8 * length ms
unfolding run_log
run_length s [] = refl
run_length s (m ∷ ms) =
    length-append (record_bytes (step s m)) (run_log (state_after s (step s m)) ms)
    ∙ omega (arith, (eight_step s m).long, run_length (state_after s (step s m)) ms)

-- Whatever `play` logs.
pub play_assures : (sheet charter script log log' : List ℕ) (n : ℕ) → Played sheet charter script log log' (Ok n)
    → AssuredRun sheet charter script log log' n
unfolding played opened opened_from logged outcome_of ask after_reading assured
play_assures sheet charter script log log' n p = judging (judged sheet charter) refl p.answer p.lent
  where
    logging : (a : Accepted) (ms : List Move) (end : ℕ) → judged sheet charter ≡ passed a → read_script script ≡ got ms end → (b : Bool)
        → passed n ≡ (outcome_of log (ask 22 b (passed (record { begin = start a.sheet; moves = ms })))).answer
        → log' ≡ (outcome_of log (ask 22 b (passed (record { begin = start a.sheet; moves = ms })))).lent
        → AssuredRun sheet charter script log log' n
    logging a ms end e r false h k = never (sym h)
    logging a ms end e r true h k =
        let count : n ≡ length ms = cc in
        record {
          assured = assured sheet charter a e;
          moves = ms;
          end = end;
          reads = r;
          count = count;
          records = k ∙ ap (λ m. run_log (start a.sheet) ms ++ drop m log) (run_length (start a.sheet) ms ∙ ap (λ m. 8 * m) (sym count));
        }

    scripting : (a : Accepted) → judged sheet charter ≡ passed a → (r : Read (List Move)) → read_script script ≡ r
        → passed n ≡ (outcome_of log (logged log (after_reading r (λ ms. passed (record { begin = start a.sheet; moves = ms }))))).answer
        → log' ≡ (outcome_of log (logged log (after_reading r (λ ms. passed (record { begin = start a.sheet; moves = ms }))))).lent
        → AssuredRun sheet charter script log log' n
    scripting a e (got ms end) r h k = logging a ms end e r (leb (8 * length ms) (length log)) h k
    scripting a e (refused q at) r h k = never (sym h)

    starting : (a : Accepted) → judged sheet charter ≡ passed a → (b : Bool)
        → passed n ≡ (outcome_of log (logged log (ask 20 b (after_reading (read_script script) (λ ms. passed (record { begin = start a.sheet; moves = ms })))))).answer
        → log' ≡ (outcome_of log (logged log (ask 20 b (after_reading (read_script script) (λ ms. passed (record { begin = start a.sheet; moves = ms })))))).lent
        → AssuredRun sheet charter script log log' n
    starting a e true h k = scripting a e (read_script script) refl h k
    starting a e false h k = never (sym h)

    judging : (j : Asked Accepted) → judged sheet charter ≡ j → passed n ≡ (outcome_of log (logged log (opened_from script j))).answer
        → log' ≡ (outcome_of log (logged log (opened_from script j))).lent → AssuredRun sheet charter script log log' n
    judging (passed a) e h k = starting a e (has_room (start a.sheet)) h k
    judging (failed q) e h k = never (sym h)
