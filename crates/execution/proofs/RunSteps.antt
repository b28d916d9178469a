-- A run, move by move, over plain values: the next move can be read, its step and its record keep what the log of the run is, and after
-- the last move the log is whole.
use Prim.Native.Nat.{ℕ, ◌+◌, ◌-◌, ◌*◌, ◌<◌, ◌≤◌}
use mathlib.Core.Bool.{Bool}
use mathlib.Core.List.{List, [], ◌∷◌, ◌++◌, append_assoc, append-nil}
use mathlib.Core.Path.{◌≡◌, refl, sym, ap, ◌∙◌}
use native.Mathlib.Decide.{ℕ_discrete}
use native.Mathlib.Omega.{arith}
use borrow.Author.Rules.{rules}
use lib.Dec.{eqb}
use lib.ListN.{length, take, drop, take-append-drop}
use lib.Seq.{length-take-le}
use Rattle.reading.proofs.Parts.{never, Every, of_found, every_then, every_cond}
use Rattle.reading.specs.Read.{got, byte_at}
use Rattle.reading.specs.Types.{type_at}
use Rattle.reading.specs.declared.Refusal.{Refusal}
use Rattle.running.specs.State.{State}
use Rattle.decoding.proofs.FormFacts.{small_type}
use Rattle.policy.specs.Reading.{two_bytes}
use Rattle.running.specs.Moves.{Move, unfold_repl, send_out, receive_in, communicate, environment_name, step, state_after, record_bytes, run_log}
use Rattle.running.specs.Script.{move_from, move_at, moves_from}
use Rattle.script.specs.Told.{move_of, move_read, bytes_of}
use Rattle.script.specs.declared.Move.{Move as Step}
use Rattle.script.specs.declared.Move.TheVariants as step_case
use Rattle.script.specs.declared.MovePlace.{MovePlace}
use Rattle.script.proofs.ScriptLaws.{More, more_moves, no_more}
use Rattle.std.specs.Prelude.{Result as Outcome, Ok, Err}
use Rattle.transitions.specs.Steps.{TypeFits, Stepped, sizes_after, line_of}
use Rattle.transitions.specs.declared.Moved.{Moved}
use Rattle.transitions.specs.declared.MoveRefusal.{MoveRefusal}
use Rattle.execution.specs.Begins.{Lent, ran_over}
use Rattle.execution.specs.Runs.{Going, Ongoing, Turned}
use Rattle.execution.specs.declared.Point.{Point}
use Rattle.execution.proofs.LogLaws.{eight_bytes, logged_more, log_length, past_kept}

-- The log of a run, cut after its first move.
run_cut : (state : State) (m : Move) (ms : List Move) (done bytes : List ℕ) → bytes ≡ record_bytes (step state m)
    → (done ++ bytes) ++ run_log (state_after state (step state m)) ms ≡ done ++ run_log state (m ∷ ms)
unfolding run_log
run_cut state m ms done bytes e = rw (append_assoc done bytes (run_log (state_after state (step state m)) ms), e)

-- A type that a move brings has few digits.
unfoldable Brings : Move → Type 0
Brings (unfold_repl i) = Unit {0}
Brings (send_out i) = Unit {0}
Brings (receive_in i v) = Unit {0}
Brings (communicate i j) = Unit {0}
Brings (environment_name t) = t < 4294967296

brings : (s : List ℕ) (at : ℕ) → Every Brings (move_at s at)
unfolding Every Brings move_at move_from
brings s at = every_then Brings (byte_at s at) _ (λ code m e.
    every_cond Brings (eqb code 1) _ _ (every_then Brings (byte_at s m) _ (λ i k f. tt))
    (every_cond Brings (eqb code 2) _ _ (every_then Brings (byte_at s m) _ (λ i k f. tt))
    (every_cond Brings (eqb code 3) _ _ (every_then Brings (byte_at s m) _ (λ i k f. every_then Brings (two_bytes s k) _ (λ v n g. tt)))
    (every_cond Brings (eqb code 4) _ _ (every_then Brings (byte_at s m) _ (λ i k f. every_then Brings (byte_at s k) _ (λ j n g. tt)))
    (every_cond Brings (eqb code 5) _ _ (every_then Brings (type_at s m) _ (λ t k f. let h = small_type s m f in omega arith))
    tt)))))

fits_so : (m : Step) → Brings (move_of m) → TypeFits m
unfolding Brings TypeFits move_of
fits_so (step_case.Unfold i) h = h
fits_so (step_case.SendOut i) h = h
fits_so (step_case.ReceiveIn p) h = h
fits_so (step_case.Communicate p) h = h
fits_so (step_case.EnvironmentName t) h = h

pub move_fits : (s : List ℕ) (at : ℕ) (r : Outcome MovePlace Refusal) (f : MovePlace) → move_read r ≡ move_at s at → r ≡ Ok f → TypeFits f.step
move_fits s at r f e found = fits_so f.step (of_found Brings (move_at s at) (brings s at) (sym e ∙ ap move_read found))

module _ (forms script run : List ℕ) (count : ℕ) (p : Point) (log threads types : List ℕ) (known : List Bool) (cells : List ℕ)
    (g : Going forms script run count p log threads types known cells) where
  pub record_room : p.done < count → p.done * 8 + 8 ≤ length log
  record_room h = omega (arith, g.room)

  pub few_threads : p.sizes.threads ≤ 64
  few_threads = g.holds.few

  -- There is a next move while not all are made.
  next_there : p.done < count → More (1024 - p.done) script p.at g.rest g.end
  next_there h = go (ℕ_discrete p.at (length script))
    where
      go : Dec (p.at ≡ length script) → More (1024 - p.done) script p.at g.rest g.end
      go (yes f) = absurd (omega (arith, g.all, ap length (no_more (1024 - p.done) script p.at g.reads f)))
      go (no f) = more_moves (1024 - p.done) script p.at g.reads f

  module _ (h : p.done < count) (r : Outcome MovePlace Refusal) (e : move_read r ≡ move_at script p.at) where
    pub never_refused : (q : Refusal) → r ≡ Err q → Turned forms script run count p log log threads types known cells p
    never_refused q f = never (ap move_read (sym f) ∙ e ∙ (next_there h).next.first)

    module _ (f : MovePlace) (found : r ≡ Ok f) where
      record Reached : Type 0 where
        others : List Move
        all : g.rest ≡ move_of f.step ∷ others
        rest : moves_from (1024 - (p.done + 1)) script f.next ≡ got others g.end

      reached : Reached
      reached =
          let m = next_there h in
          let u : got (move_of f.step) f.next ≡ got m.move m.next.place = ap move_read (sym found) ∙ e ∙ m.next.first in
          let v : m.move ≡ move_of f.step = cc in
          let w : m.next.place ≡ f.next = cc in
          let k : 1024 - p.done - 1 ≡ 1024 - (p.done + 1) = omega arith in
          record {
            others = m.others;
            all = m.all ∙ ap (λ (x : Move). x ∷ m.others) v;
            rest = rw (w, k) at m.next.rest;
          }

      pub next_turned : (threads' types' : List ℕ) (known' : List Bool) (cells' : List ℕ) (outcome : Outcome Moved MoveRefusal) (moved : Moved) (log' : List ℕ)
          → count + 1029 ≤ length cells
          → Stepped forms p.sizes threads types known cells threads' types' known' cells' (λ state. step state (move_of f.step)) outcome
          → moved ≡ record { sizes = sizes_after p.sizes outcome; line = line_of outcome }
          → log' ≡ take (p.done * 8) log ++ (bytes_of moved.line ++ drop (p.done * 8 + 8) log)
          → Turned forms script run count p log log' threads' types' known' cells' (record { at = f.next; done = p.done + 1; sizes = moved.sizes })
      next_turned threads' types' known' cells' outcome moved log' enough steps is wrote =
          let n = reached in
          let a = steps g.state (p.done + 1) (omega arith) g.holds in
          let bytes = bytes_of moved.line in
          let eight = eight_bytes moved.line in
          let room = record_room h in
          let at : (p.done + 1) * 8 ≡ p.done * 8 + 8 = omega arith in
          let more = logged_more log bytes (p.done * 8) eight room log' wrote in
          let long = log_length log bytes (p.done * 8) eight room log' wrote in
          record {
            going = record {
              state = state_after g.state (step g.state (move_of f.step));
              rest = n.others;
              end = g.end;
              holds = rw is a.holds;
              reads = n.rest;
              whole = rw (at, more, run_cut g.state (move_of f.step) n.others (take (p.done * 8) log) bytes (rw is a.bytes), ← n.all) g.whole;
              all = omega (arith, g.all, ap length n.all);
              room = omega (arith, g.room, long);
            };
            done = refl;
            kept = past_kept log bytes (p.done * 8) eight room log' wrote (count * 8) (omega arith);
          }

-- The same for every run that goes on so.
module _ (forms script : List ℕ) (count : ℕ) (p : Point) (log threads types : List ℕ) (known : List Bool) (cells : List ℕ) (h : p.done < count)
    (r : Outcome MovePlace Refusal) (e : move_read r ≡ move_at script p.at) where
  pub none_refused : (q : Refusal) → r ≡ Err q → (run : List ℕ) → Going forms script run count p log threads types known cells
      → Turned forms script run count p log log threads types known cells p
  none_refused q f run g = never_refused forms script run count p log threads types known cells g h r e q f

  pub all_turned : (f : MovePlace) → r ≡ Ok f → (threads' types' : List ℕ) (known' : List Bool) (cells' : List ℕ) (outcome : Outcome Moved MoveRefusal) (moved : Moved) (log' : List ℕ)
      → count + 1029 ≤ length cells
      → Stepped forms p.sizes threads types known cells threads' types' known' cells' (λ state. step state (move_of f.step)) outcome
      → moved ≡ record { sizes = sizes_after p.sizes outcome; line = line_of outcome }
      → log' ≡ take (p.done * 8) log ++ (bytes_of moved.line ++ drop (p.done * 8 + 8) log)
      → (run : List ℕ) → Going forms script run count p log threads types known cells
      → Turned forms script run count p log log' threads' types' known' cells' (record { at = f.next; done = p.done + 1; sizes = moved.sizes })
  all_turned f found threads' types' known' cells' outcome moved log' enough steps is wrote run g =
      next_turned forms script run count p log threads types known cells g h r e f found threads' types' known' cells' outcome moved log' enough steps is wrote

pub ruleset turn_steps = (rules, none_refused, move_fits)

-- The loop: each run that went on at its beginning still goes on, and nothing is written past the records of all moves; the tables
-- keep their lengths.
pub record Running (forms script : List ℕ) (count : ℕ) (log₀ threads₀ types₀ : List ℕ) (known₀ : List Bool) (cells₀ : List ℕ) (p₀ : Point)
    (log threads made types : List ℕ) (known : List Bool) (cells : List ℕ) (p : Point) : Type 0 where
  pub ongoing : Ongoing forms script count p log threads types known cells
  pub tables : Lent threads made types known cells
  pub enough : count + 1029 ≤ length cells
  pub long : length log ≡ length log₀
  pub wide : length cells ≡ length cells₀
  pub past : drop (count * 8) log ≡ drop (count * 8) log₀
  pub every : (run : List ℕ) → Going forms script run count p₀ log₀ threads₀ types₀ known₀ cells₀ → Going forms script run count p log threads types known cells

module _ (forms script : List ℕ) (count : ℕ) (log₀ threads₀ types₀ : List ℕ) (known₀ : List Bool) (cells₀ : List ℕ) (p₀ : Point)
    (log threads made types : List ℕ) (known : List Bool) (cells : List ℕ) (p : Point) where
  abbrev Now : Type 0
  Now = Running forms script count log₀ threads₀ types₀ known₀ cells₀ p₀ log threads made types known cells p

  pub run_next : Now → (r : Point) (log' threads' made' types' : List ℕ) (known' : List Bool) (cells' : List ℕ)
      → ((run : List ℕ) → Going forms script run count p log threads types known cells → Turned forms script run count p log log' threads' types' known' cells' r)
      → length log' ≡ length log → length threads' ≡ length threads → length made' ≡ length made → length types' ≡ length types
      → length known' ≡ length known → length cells' ≡ length cells
      → Running forms script count log₀ threads₀ types₀ known₀ cells₀ p₀ log' threads' made' types' known' cells' r
  run_next a r log' threads' made' types' known' cells' t l th m ty k ce = record {
    ongoing = record { run = a.ongoing.run; going = (t a.ongoing.run a.ongoing.going).going };
    tables = record {
      thread_room = th ∙ a.tables.thread_room;
      made_room = m ∙ a.tables.made_room;
      type_room = ty ∙ a.tables.type_room;
      cell_room = omega (arith, ce, a.tables.cell_room);
      known_room = k ∙ a.tables.known_room;
    };
    enough = omega (arith, ce, a.enough);
    long = l ∙ a.long;
    wide = ce ∙ a.wide;
    past = (t a.ongoing.run a.ongoing.going).kept ∙ a.past;
    every = λ run g. (t run (a.every run g)).going;
  }

  -- After the last move.
  no_rest : (ms : List Move) → length ms ≡ 0 → ms ≡ []
  no_rest [] h = refl
  no_rest (m ∷ ms) h = absurd (omega (arith, h))

  pub run_last : Now → count ≤ p.done → (run : List ℕ) → Going forms script run count p₀ log₀ threads₀ types₀ known₀ cells₀ → log ≡ ran_over run log₀
  unfolding ran_over run_log
  run_last a h run begun =
      let g = a.every run begun in
      let e : g.rest ≡ [] = no_rest g.rest (omega (arith, g.all)) in
      let d : p.done ≡ count = omega (arith, g.all) in
      let w : take (count * 8) log ≡ run = rw (e, d, append-nil) at g.whole in
      let n : length run ≡ count * 8 = ap length (sym w) ∙ length-take-le (count * 8) log g.room in
      rw n (sym (take-append-drop (count * 8) log) ∙ ap (λ (l : List ℕ). l ++ drop (count * 8) log) w ∙ ap (λ (l : List ℕ). run ++ l) a.past)

-- Fewer moves are left.
pub run_falls : (forms script : List ℕ) (count : ℕ) (p r : Point) (log log' threads threads' types types' : List ℕ) (known known' : List Bool) (cells cells' : List ℕ)
    → Ongoing forms script count p log threads types known cells
    → ((run : List ℕ) → Going forms script run count p log threads types known cells → Turned forms script run count p log log' threads' types' known' cells' r)
    → p.done < count → count - r.done < count - p.done
run_falls forms script count p r log log' threads threads' types types' known known' cells cells' o t h =
    omega (arith, (t o.run o.going).done)

pub run_first : (forms script : List ℕ) (count : ℕ) (log threads made types : List ℕ) (known : List Bool) (cells : List ℕ) (p : Point)
    → Ongoing forms script count p log threads types known cells → Lent threads made types known cells → count + 1029 ≤ length cells
    → Running forms script count log threads types known cells p log threads made types known cells p
run_first forms script count log threads made types known cells p g t n = record { ongoing = g; tables = t; enough = n; long = refl; wide = refl; past = refl; every = λ run h. h }

pub ruleset run_steps = (rules, run_next, run_first, run_last)
