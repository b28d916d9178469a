-- What each return of the service has to show, over plain values: questions 1 to 18, 20, 21 and 22 in order, and the run.
use Prim.Native.Nat.{ℕ, zero, suc, ◌+◌, ◌*◌, ◌/◌, ◌<◌, ◌≤◌}
use mathlib.Core.Bool.{Bool, true, false, ◌&&◌}
use mathlib.Core.List.{List}
use mathlib.Core.Path.{◌≡◌, refl, sym, ap, ◌∙◌}
use native.Mathlib.Omega.{arith}
use borrow.Author.Rules.{rules}
use borrow.Author.Tests.{le-leb, lt-leb}
use lib.Dec.{leb}
use lib.ListN.{length, get_or, replicate, length-replicate}
use Rattle.reading.specs.Read.{got}
use Rattle.reading.specs.Syntax.{Sheet}
use Rattle.reading.specs.System.{read_sheet}
use Rattle.reading.proofs.TreeLaws.{sheet_parts}
use Rattle.service.specs.Questions.{passed, ask, after_reading, judged}
use Rattle.service.specs.Told.{fault_number, first_failed}
use Rattle.std.specs.Prelude.{Option, Some, None, Result as Answer, Ok, Err, IfOk}
use Rattle.reading.specs.declared.Question.{Question}
use Rattle.reading.specs.declared.Question.TheVariants as question
use Rattle.service.proofs.JudgeSteps.{sheet_reads}
use Rattle.service.proofs.FirstLaws.{Passed}
use Rattle.service.proofs.CheckSteps.{judged_fails, judged_passes}
use Rattle.running.specs.State.{State}
use Rattle.running.specs.Products.{start}
use Rattle.running.specs.Moves.{Move, has_room, run_log}
use Rattle.running.specs.Script.{read_script}
use Rattle.running.specs.Play.{opened_from, opened, logged, outcome_of, played}
use Rattle.script.specs.Told.{moves_in}
use Rattle.script.proofs.ScriptLaws.{script_moves}
use Rattle.script.proofs.CountSteps.{Counted, script_counted, script_refused}
use Rattle.products.specs.Held.{Holds}
use Rattle.products.specs.Starts.{Blank, Starts}
use Rattle.products.specs.declared.Sizes.{Sizes}
use Rattle.execution.specs.Told.{Played}
use Rattle.execution.specs.Begins.{Reads, begun, start_of, listed, moves_of, ran_over, scripted, played_script, played_from, Comes, Standing, Enough, Lent}
use Rattle.execution.specs.Runs.{Going, Ongoing}
use Rattle.execution.specs.declared.Point.{Point}

-- Question 21.
moves_are : (script : List ℕ) {ms : List Move} {e : ℕ} → read_script script ≡ got ms e → moves_of script ≡ ms
unfolding moves_of listed
moves_are script h = rw h

module _ (script log : List ℕ) (r : Answer ℕ Question) (h : r ≡ moves_in (read_script script)) where
  refused_so : (begin : State) (q : Question) → r ≡ Err q → Comes (played_script begin script log) log r
  unfolding played_script scripted logged outcome_of after_reading
  refused_so begin q k =
      let f = script_refused script h k in
      let is : r ≡ Err question.Script = k ∙ ap (λ (x : Question). Err x) f.0 in
      rw is (record { answer = rw f.1.1 refl; lent = rw f.1.1 refl })

  module _ (n : ℕ) (read : r ≡ Ok n) where
    counted : Counted script n
    counted = script_counted script h read

    -- Question 22.
    short_so : (begin : State) → length log / 8 < n → Comes (played_script begin script log) log (Err question.Log)
    unfolding played_script scripted logged outcome_of after_reading ask
    short_so begin k =
        let c = counted in
        let t : leb (8 * length c.moves) (length log) ≡ false = lt-leb (8 * length c.moves) (length log) (omega (arith, c.count)) in
        record { answer = rw (c.is, t) refl; lent = rw (c.is, t) refl }

    -- The run.
    written_so : (begin : State) (log' : List ℕ) → n ≤ length log / 8 → log' ≡ ran_over (run_log begin (moves_of script)) log
        → Comes (played_script begin script log) log' (Ok n)
    unfolding played_script scripted logged outcome_of after_reading ask ran_over
    written_so begin log' k w =
        let c = counted in
        let t : leb (8 * length c.moves) (length log) ≡ true = le-leb (8 * length c.moves) (length log) (omega (arith, c.count)) in
        record { answer = rw (c.is, t) (ap passed (sym c.count)); lent = rw (c.is, t) (rw (moves_are script c.is) at w) }

-- The same for every state that memory holds.
module _ (forms script log threads types : List ℕ) (known : List Bool) (cells : List ℕ) (z : Sizes) (r : Answer ℕ Question)
    (h : r ≡ moves_in (read_script script)) where
  abbrev PlayedSo : List ℕ → Answer ℕ Question → Type 0
  PlayedSo log' a = (state : State) → Holds forms z 1 threads types known cells state → Comes (played_script state script log) log' a

  abbrev first_point : Point
  first_point = record { at = 0; done = 0; sizes = z }

  pub script_fails : ((n : ℕ) → r ≡ Ok n → ⊥) → PlayedSo log r
  script_fails not state holds = go r refl
    where
      go : (x : Answer ℕ Question) → r ≡ x → Comes (played_script state script log) log r
      go (Ok n) e = absurd (not n e)
      go (Err q) e = refused_so script log r h state q e

  module _ (n : ℕ) (read : r ≡ Ok n) where
    pub log_short : length log / 8 < n → PlayedSo log (Err question.Log)
    log_short k state holds = short_so script log r h n read state k

    module _ (k : n ≤ length log / 8) where
      begins_so : (state : State) → Holds forms z 1 threads types known cells state
          → Going forms script (run_log state (moves_of script)) n first_point log threads types known cells
      begins_so state holds =
          let c = counted script log r h n read in
          let same = moves_are script c.is in
          let told = script_moves script c.is in
          record {
            state = state;
            rest = moves_of script;
            end = c.end;
            holds = holds;
            reads = rw same told;
            whole = refl;
            all = omega (arith, ap length same, c.count);
            room = omega arith;
          }

      pub run_begins : Standing forms z threads types known cells → Ongoing forms script n first_point log threads types known cells
      run_begins held = record { run = run_log held.state (moves_of script); going = begins_so held.state held.holds }

      pub log_written : (log' : List ℕ)
          → ((run : List ℕ) → Going forms script run n first_point log threads types known cells → log' ≡ ran_over run log)
          → PlayedSo log' (Ok n)
      log_written log' w state holds =
          written_so script log r h n read state log' k (w (run_log state (moves_of script)) (begins_so state holds))

-- The moves counted have their cells.
pub counted_enough : (r : Answer ℕ Question) (n : ℕ) (script : List ℕ) (cells : ℕ) → IfOk r (λ m. (m ≤ 1024) × (m ≤ length script)) → r ≡ Ok n
    → Enough script cells → n + 1029 ≤ cells
unfolding Enough
counted_enough r n script cells few is enough = let k : (n ≤ 1024) × (n ≤ length script) = rw is at few in omega (arith, k.0, k.1)

pub ruleset script_steps = (rules, script_fails, log_short, log_written, run_begins, counted_enough)

-- Question 20.
module _ (s script log : List ℕ) (reads : Reads s) (forms threads types : List ℕ) (known : List Bool) (cells : List ℕ) (z : Sizes)
    (starts : (sheet : Sheet) (end : ℕ) → length s ≤ 4096 → read_sheet s ≡ got sheet end → Starts forms sheet threads types known cells z) where
  here : Starts forms reads.tree threads types known cells z
  here = starts reads.tree reads.end reads.short reads.reads

  begins : start_of s ≡ start reads.tree
  unfolding start_of begun
  begins = rw reads.reads

  both : (a b : Bool) → b ≡ false → (a && b) ≡ false
  both true b h = h
  both false b h = refl

  no_room : has_room (start_of s) ≡ false → Comes (played_from (start_of s) script log) log (Err question.Start)
  unfolding played_from logged outcome_of ask
  no_room h = record { answer = rw h refl; lent = rw h refl }

  pub crowded : 64 < z.threads → Comes (played_from (start_of s) script log) log (Err question.Start)
  unfolding has_room
  crowded h = no_room (rw (begins, lt-leb (length (start reads.tree).threads) 64 (omega (arith, here.crowded))))

  pub overnamed : 1024 < z.names → Comes (played_from (start_of s) script log) log (Err question.Start)
  unfolding has_room
  overnamed h =
      let t = lt-leb (length (start reads.tree).types) 1024 (omega (arith, here.named)) in
      no_room (rw begins (both (leb (length (start reads.tree).threads) 64) (leb (length (start reads.tree).types) 1024) t))

  start_holds : z.threads ≤ 64 → z.names ≤ 1024 → Holds forms z 1 threads types known cells (start_of s)
  start_holds h k = rw begins (here.holds h k)

  pub start_stands : z.threads ≤ 64 → z.names ≤ 1024 → Standing forms z threads types known cells
  start_stands h k = record { state = start_of s; holds = start_holds h k }

  pub plays_on : z.threads ≤ 64 → z.names ≤ 1024 → (log' : List ℕ) (r : Answer ℕ Question)
      → ((state : State) → Holds forms z 1 threads types known cells state → Comes (played_script state script log) log' r)
      → Comes (played_from (start_of s) script log) log' r
  unfolding played_from played_script ask has_room
  plays_on h k log' r c =
      let t : has_room (start_of s) ≡ true =
      rw (
        begins,
        le-leb (length (start reads.tree).threads) 64 (omega (arith, here.crowded)),
        le-leb (length (start reads.tree).types) 1024 (omega (arith, here.named)),
      ) in
      rw t (c (start_of s) (start_holds h k))

pub tables_from : (s forms threads made types : List ℕ) (known : List Bool) (cells threads' made' types' : List ℕ) (known' : List Bool) (cells' : List ℕ)
    → Blank s forms threads types known cells → length made ≡ 128 → length threads' ≡ length threads → length made' ≡ length made
    → length types' ≡ length types → length known' ≡ length known → length cells' ≡ length cells → Lent threads' made' types' known' cells'
tables_from s forms threads made types known cells threads' made' types' known' cells' b m th ma ty k ce = record {
  thread_room = th ∙ b.thread_room;
  made_room = ma ∙ m;
  type_room = ty ∙ b.type_room;
  cell_room = omega (arith, ce, b.cell_few);
  known_room = k ∙ b.known_room;
}

pub still_enough : (script cells cells' : List ℕ) → Enough script (length cells) → length cells' ≡ length cells → Enough script (length cells')
still_enough script cells cells' h same = rw same h

pub ruleset start_steps = (rules, crowded, overnamed, start_stands, plays_on, tables_from, still_enough)

-- New tables.
all_false : (n i : ℕ) → get_or (replicate n false) i false ≡ false
all_false zero i = refl
all_false (suc n) zero = refl
all_false (suc n) (suc i) = all_false n i

pub new_tables : (s forms : List ℕ) (n : ℕ) → length s ≤ length forms → 1029 ≤ n → n ≤ 2304
    → Blank s forms (replicate 128 0) (replicate 1024 0) (replicate 1024 false) (replicate n 0)
new_tables s forms n h least most = record {
  form_room = h;
  thread_room = length-replicate {A = ℕ} 128 0;
  type_room = length-replicate {A = ℕ} 1024 0;
  known_room = length-replicate {A = Bool} 1024 false;
  cell_room = omega (arith, length-replicate {A = ℕ} n 0);
  cell_few = omega (arith, length-replicate {A = ℕ} n 0);
  unknown = all_false 1024;
}

pub few_enough : (script : List ℕ) → length script ≤ 240 → Enough script 1280
unfolding Enough
few_enough script h = omega arith

pub all_enough : (script : List ℕ) → Enough script 2304
unfolding Enough
all_enough script = omega arith

-- As many cells as were made.
pub made_enough : (script : List ℕ) (n : ℕ) → Enough script n → Enough script (length (replicate {A = ℕ} n 0))
made_enough script n h = rw (length-replicate {A = ℕ} n 0) h

-- Questions 1 to 18.
module _ (s c : List ℕ) (fault : Option Question) (first : fault_number fault ≡ first_failed (judged s c)) where
  pub refuses : (script log : List ℕ) (q : Question) → fault ≡ Some q → Played s c script log log (Err q)
  unfolding played opened opened_from logged outcome_of
  refuses script log q h = let e = judged_fails s c fault first q h in record { answer = rw e refl; lent = rw e refl }

  module _ (h : fault ≡ None) where
    accepted : Passed s c
    accepted = judged_passes s c fault first h

    read_so : read_sheet s ≡ got accepted.accepted.sheet accepted.end
    read_so = sheet_reads s c accepted.accepted.sheet accepted.end accepted.reads

    pub accepted_reads : Reads s
    accepted_reads = record {
      short = (sheet_parts s c accepted.reads).short;
      tree = accepted.accepted.sheet;
      end = accepted.end;
      reads = read_so;
    }

    starts_so : start_of s ≡ start accepted.accepted.sheet
    unfolding start_of begun
    starts_so = rw read_so

    pub plays : (script log log' : List ℕ) (r : Answer ℕ Question) → Comes (played_from (start_of s) script log) log' r → Played s c script log log' r
    unfolding played opened opened_from played_from scripted
    plays script log log' r d =
        let w = rw starts_so at d in
        record { answer = rw accepted.passes w.answer; lent = rw accepted.passes w.lent }

pub ruleset play_steps = (rules, refuses, accepted_reads, plays)
