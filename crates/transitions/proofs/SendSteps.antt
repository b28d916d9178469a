-- 02, return by return.
use Prim.Native.Nat.{ℕ, ◌+◌, ◌-◌, ◌%◌, ◌<◌, ◌≤◌}
use mathlib.Core.Path.{◌≡◌, refl, sym, ap, ◌∙◌}
use mathlib.Core.List.{List}
use mathlib.Core.Bool.{Bool, true, false, cond, not}
use mathlib.Core.Option.{some}
use native.Mathlib.Omega.{arith}
use native.Mathlib.Nat.{add-zero}
use borrow.Author.Rules.{rules}
use borrow.Author.Tests.{not-true, not-false}
use lib.Dec.{lit<}
use lib.ListN.{length, get_or, take, set, get_elem?}
use Rattle.reading.specs.Syntax.{Process}
use Rattle.std.specs.Prelude.{Option, Some, None, Result as Answer, Ok, Err}
use Rattle.decoding.specs.Tables.{process_in}
use Rattle.running.specs.State.{Thread, State}
use Rattle.running.specs.Products.{news, threads_of}
use Rattle.running.specs.Moves.{guard, given, as_sending, environment_knows, made, singles, after, now_known, has_room, taken, record_of, send_step}
use Rattle.memory.specs.Threads.{unpacked, replaced}
use Rattle.memory.specs.declared.Thread.{Thread as Place}
use Rattle.script.specs.declared.Record.{Record}
use Rattle.products.specs.declared.Sizes.{Sizes}
use Rattle.continuations.specs.declared.Action.{Action}
use Rattle.transitions.specs.declared.Moved.{Moved}
use Rattle.transitions.specs.declared.MoveRefusal.{MoveRefusal}
use Rattle.transitions.specs.declared.MoveRefusal.TheVariants.{NoThread, OtherPrefix, NotKnown, NoRoom}
use Rattle.continuations.specs.declared.Prefix.{Prefix}
use Rattle.continuations.specs.declared.Prefix.TheVariants as prefix
use Rattle.continuations.specs.Prefixes.{continuation_of, sending_of, PrefixFound}
use Rattle.continuations.specs.Places.{remaining_at, changed, put, Replaces, Replacing}
use Rattle.continuations.proofs.FormLaws.{no_send}
use Rattle.transitions.specs.Steps.{outcome_of, known_after, Stepped}
use Rattle.transitions.proofs.MoveLaws.{Acts, record_bytes_lem, later, answers_refused, answers_placed, no_thread, after_one, look, holds_known, known_is}
use Rattle.transitions.proofs.OutcomeSteps.{outcome_taken, outcome_full}
use Rattle.transitions.proofs.UnfoldSteps.{process_of_lem}

module _ (act : Action) (component : ℕ) (old : Bool) where
  pub line_old : old ≡ true → ◌≡◌ {A = Record} (record { number = 0; label = 3; channel = act.channel; name = act.object; actor = component; receiver = 255 })
      (record { number = 0; label = cond old 3 4; channel = act.channel; name = act.object; actor = component; receiver = 255 })
  line_old h = rw h refl

  pub line_new : old ≡ false → ◌≡◌ {A = Record} (record { number = 0; label = 4; channel = act.channel; name = act.object; actor = component; receiver = 255 })
      (record { number = 0; label = cond old 3 4; channel = act.channel; name = act.object; actor = component; receiver = 255 })
  line_new h = rw h refl

-- 35 does not ask what is known.
same_room : (n : ℕ) (state : State) → has_room state ≡ has_room (now_known n state)
unfolding has_room now_known
same_room n state = refl

label_small : (b : Bool) → cond b 3 4 < 256
label_small true = lit< tt
label_small false = lit< tt

module _ (forms : List ℕ) (t : Place) (act : Action) (i : ℕ) (cells : List ℕ) (top : ℕ) where
  abbrev continuation : Process
  continuation = process_in (t.nest - 1) forms (act.next % 8192)

  abbrev process : Place
  process = continuation_of t act.next

  module _ (state : State) (u : Thread) (here : get_elem? state.threads i ≡ some u)
      (send : as_sending u u.process ≡ sending_of forms t (Some (prefix.Sends act))) where
    -- 02 of this thread.
    sending : send_step state i
        ≡ guard 32 (environment_knows state act.channel)
        (taken (now_known act.object (after state (set (singles state.threads) i (made state 0 u u.names continuation)) (news continuation)))
        (record_of (cond (environment_knows state act.object) 3 4) act.channel act.object u.component.number 255))
    unfolding send_step given sending_of
    sending = rw (here, send) refl

    in_place : Acts forms cells top t u
        → after state (set (singles state.threads) i (made state 0 u u.names continuation)) (news continuation) ≡ put forms process i (i + 1) cells state u.component
    unfolding made put remaining_at
    in_place a =
        rw (add-zero (length state.types))
        (after_one state i u here (threads_of u.component u.names (length state.types) continuation) (news continuation)
        ∙ ap (λ ns. changed state (replaced state.threads i (i + 1) (threads_of u.component ns (length state.types) continuation)) (news continuation)) a.names)

module _ (forms : List ℕ) (i : ℕ) (z : Sizes) (threads types : List ℕ) (known : List Bool) (cells : List ℕ) (threads_room : length threads ≡ 128) where
  abbrev Told : List ℕ → List ℕ → List Bool → List ℕ → Answer Moved MoveRefusal → Type 0
  Told threads' types' known' cells' r = Stepped forms z threads types known cells threads' types' known' cells' (λ state. send_step state i) r

  pub send_no_thread : z.threads ≤ i → Told threads types known cells (Err NoThread)
  unfolding send_step given
  send_no_thread k state turns few h =
      answers_refused forms turns threads types known cells state NoThread z (send_step state i)
      (rw (no_thread forms z turns threads types known cells state threads_room h i k) refl) h

  module _ (t : Place) (st : Option Prefix) (k : i < z.threads) (e : t ≡ unpacked (get_or threads i 0)) (f : PrefixFound forms cells t st) where
    -- 31: its prefix is no send.
    pub send_other : ((d : Action) → st ≡ Some (prefix.Sends d) → ⊥) → Told threads types known cells (Err OtherPrefix)
    unfolding send_step given
    send_other not state turns few h =
        let l = look forms z turns threads types known cells state i t st threads_room h k e f in
        answers_refused forms turns threads types known cells state OtherPrefix z (send_step state i)
        (rw (l.here, l.prefixed.sends, no_send forms t st not) refl) h

    module _ (act : Action) (q : st ≡ Some (prefix.Sends act)) (b : Bool) (eb : b ≡ get_or (take z.names known) act.channel false) where
      -- 32: the environment does not know the channel.
      pub send_unknown : not b ≡ true → Told threads types known cells (Err NotKnown)
      unfolding guard
      send_unknown h state turns few holds =
          let l = look forms z turns threads types known cells state i t st threads_room holds k e f in
          answers_refused forms turns threads types known cells state NotKnown z (send_step state i)
          (rw (sending forms t act i cells z.cells state l.thread l.here (l.prefixed.sends ∙ ap (sending_of forms t) q), known_is act.channel b eb holds, not-true b h) refl) holds

      module _ (h : not b ≡ false) (old : Bool) (eo : old ≡ get_or (take z.names known) act.object false) (body : Place) (bd : body ≡ continuation_of t act.next)
          (placed : Option Sizes) (threads' types' cells' : List ℕ) (known_room : length known ≡ 1024)
          (replacing : Replacing forms body i (i + 1) z threads types cells threads' types' cells' placed) where
        abbrev line : Record
        line = record { number = 0; label = cond old 3 4; channel = act.channel; name = act.object; actor = t.component; receiver = 255 }

        -- What is known afterwards is told of the sizes afterwards; where there is no room, it stays.
        sent : (known' : List Bool) (r : Answer Moved MoveRefusal) → r ≡ outcome_of placed line
            → ((s : Sizes) → placed ≡ Some s → known' ≡ known_after s act.object known) → (placed ≡ None → known' ≡ known)
            → Told threads' types' known' cells' r
        unfolding guard known_after
        sent known' r o taken_known full_known state turns few holds =
            let l = look forms z turns threads types known cells state i t st threads_room holds k e f in
            let u = l.thread in
            let a : Acts forms cells z.cells t u = l.acts in
            let send = l.prefixed.sends ∙ ap (sending_of forms t) q in
            let rs : Replaces forms (continuation_of t act.next) i (i + 1) z turns threads threads' types types' known cells cells' state u.component placed
            = rw bd at (replacing state u.component turns known (omega (arith, few)) known_room (a.component ∙ ap (λ p. p.component) (sym bd)) (rw bd (process_of_lem act.next a)) holds) in
            let next : State = put forms (continuation_of t act.next) i (i + 1) cells state u.component in
            answers_placed forms turns threads' types' known' cells' state placed line (now_known act.object next)
            (record_of (cond old 3 4) act.channel act.object u.component.number 255) (send_step state i) z r
            (rw (sending forms t act i cells z.cells state u l.here send, known_is act.channel b eb holds, not-false b h, known_is act.object old eo holds, in_place forms t act i cells z.cells state u l.here send a) refl)
            o
            (record_bytes_lem (cond old 3 4) act.channel act.object t.component 255 (label_small old) a.small (lit< tt)
            ∙ ap (λ n. record_of (cond old 3 4) act.channel act.object n 255) (sym a.component))
            (rs.fits ∙ same_room act.object next)
            (λ s y. later forms turns threads' types' known' cells' (now_known act.object next) s
            (rw (taken_known s y) (holds_known forms s turns threads' types' known cells' next act.object known_room (rs.taken s y))))
            (λ y. later forms turns threads' types' known' cells' state z (rw (full_known y) (rs.kept y turns z.cells (omega arith) holds)))

        pub send_full : ((s : Sizes) → placed ≡ Some s → ⊥) → Told threads' types' known cells' (Err NoRoom)
        send_full not = sent known (Err NoRoom) (outcome_full placed line not) (λ s y. absurd (not s y)) (λ y. refl)

        pub send_taken : (s : Sizes) → placed ≡ Some s → (known' : List Bool) (rec : Record) → known' ≡ known_after s act.object known → rec ≡ line
            → Told threads' types' known' cells' (Ok (record { sizes = s; line = rec }))
        send_taken s y known' rec g j =
            sent known' (Ok (record { sizes = s; line = rec })) (rw j (outcome_taken placed s line y))
            (λ s' y'. let same : s ≡ s' = cc in rw (← same) g) (λ y'. let w : ◌≡◌ {A = ℕ} 0 1 = cc in absurd (omega arith))

pub ruleset line_steps = (rules, line_old, line_new)
