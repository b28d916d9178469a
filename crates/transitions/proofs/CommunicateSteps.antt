-- 04, return by return.
use Prim.Native.Nat.{ℕ, ◌-◌, ◌%◌, ◌<◌, ◌≤◌}
use mathlib.Core.Path.{◌≡◌, refl, sym, ap, ap₂, ◌∙◌}
use mathlib.Core.List.{List, [], ◌∷◌, ◌++◌}
use mathlib.Core.Option.{some}
use native.Mathlib.Omega.{arith}
use native.Mathlib.Nat.{add-zero}
use borrow.Author.Tests.{eq-eqb, ne_eqb}
use lib.Dec.{eqb, lit<}
use lib.ListN.{length, get_or, set, get_elem?}
use Rattle.reading.specs.Syntax.{Process, nil, par, new, input, output, repl}
use Rattle.std.specs.Prelude.{Option, Some, Result as Answer, Err}
use Rattle.decoding.specs.Tables.{process_in}
use Rattle.running.specs.State.{Thread, State}
use Rattle.running.specs.Products.{news}
use Rattle.running.specs.Moves.{Sending, Receiving, guard, given, as_sending, as_receiving, made, singles, after, taken, record_of, communicate_step}
use Rattle.memory.specs.Threads.{unpacked}
use Rattle.memory.specs.declared.Thread.{Thread as Place}
use Rattle.script.specs.declared.Communication.{Communication}
use Rattle.products.specs.declared.Sizes.{Sizes}
use Rattle.continuations.specs.declared.Action.{Action}
use Rattle.continuations.specs.declared.Exchange.{Exchange}
use Rattle.transitions.specs.declared.Moved.{Moved}
use Rattle.transitions.specs.declared.MoveRefusal.{MoveRefusal}
use Rattle.transitions.specs.declared.MoveRefusal.TheVariants.{NoThread, OtherPrefix, OtherChannel}
use Rattle.continuations.specs.declared.Prefix.{Prefix}
use Rattle.continuations.specs.declared.Prefix.TheVariants as prefix
use Rattle.continuations.specs.Prefixes.{continuation_of, sending_of, receiving_of, PrefixFound}
use Rattle.continuations.specs.Places.{remaining_at}
use Rattle.continuations.specs.Exchanges.{exchanged, Exchanging}
use Rattle.continuations.proofs.FormLaws.{no_send, no_receive}
use Rattle.transitions.specs.Steps.{outcome_of, SteppedAny}
use Rattle.transitions.proofs.MoveLaws.{Acts, record_bytes_lem, later, answers_refused, answers_placed, no_thread, thread_is, look}
use Rattle.transitions.proofs.UnfoldSteps.{process_of_lem}

-- No thread both sends and receives.
not_both : (t : Thread) (p : Process) (a : Sending) (b : Receiving) → as_sending t p ≡ some a → as_receiving t p ≡ some b → ⊥
unfolding as_sending as_receiving
not_both t nil a b h k = let z : ◌≡◌ {A = ℕ} 0 1 = cc in absurd (omega arith)
not_both t (par p q) a b h k = let z : ◌≡◌ {A = ℕ} 0 1 = cc in absurd (omega arith)
not_both t (new n p) a b h k = let z : ◌≡◌ {A = ℕ} 0 1 = cc in absurd (omega arith)
not_both t (input x n p) a b h k = let z : ◌≡◌ {A = ℕ} 0 1 = cc in absurd (omega arith)
not_both t (output x y p) a b h k = let z : ◌≡◌ {A = ℕ} 0 1 = cc in absurd (omega arith)
not_both t (repl p) a b h k = let z : ◌≡◌ {A = ℕ} 0 1 = cc in absurd (omega arith)

apart : (state : State) (i j : ℕ) (v w : Thread) (a : Sending) (b : Receiving) → get_elem? state.threads i ≡ some v → get_elem? state.threads j ≡ some w
    → as_sending v v.process ≡ some a → as_receiving w w.process ≡ some b → i ≡ j → ⊥
apart state i j v w a b hv hw ha hb e =
    let same : v ≡ w = let k : some v ≡ some w = sym hv ∙ ap (get_elem? state.threads) e ∙ hw in cc in
    not_both w w.process a b (rw same at ha) hb

-- 04 of two threads that stand at places.
module _ (forms : List ℕ) (m : Communication) (t u : Place) (give take : Action) where
  abbrev mine : Process
  mine = process_in (t.nest - 1) forms (give.next % 8192)

  abbrev theirs : Process
  theirs = process_in (u.nest - 1) forms (take.next % 8192)

  abbrev pair : Exchange
  pair = record { sender = m.sender; receiver = m.receiver; mine = continuation_of t give.next; theirs = continuation_of u take.next; sent = give.object }

  module _ (state : State) (v w : Thread) (hv : get_elem? state.threads m.sender ≡ some v) (hw : get_elem? state.threads m.receiver ≡ some w)
      (send : as_sending v v.process ≡ sending_of forms t (Some (prefix.Sends give))) (receive : as_receiving w w.process ≡ receiving_of forms u (Some (prefix.Receives take))) where
    communication : communicate_step state m.sender m.receiver
        ≡ guard 34 (eqb give.channel take.channel)
        (taken
        (after state
        (set (set (singles state.threads) m.sender (made state 0 v v.names mine)) m.receiver
        (made state (length (news mine)) w (w.names ++ (give.object ∷ [])) theirs))
        (news mine ++ news theirs))
        (record_of 1 give.channel give.object v.component.number w.component.number))
    unfolding communicate_step given sending_of receiving_of
    communication = rw (hv, hw, send, receive) refl

    met : (cells : List ℕ) (top : ℕ) → Acts forms cells top t v → Acts forms cells top u w
        → after state
        (set (set (singles state.threads) m.sender (made state 0 v v.names mine)) m.receiver
        (made state (length (news mine)) w (w.names ++ (give.object ∷ [])) theirs))
        (news mine ++ news theirs)
        ≡ exchanged forms pair cells state v.component w.component
    met cells top av aw = unfold made in unfold exchanged in unfold remaining_at in
        rw (← av.names, ← aw.names, add-zero (length state.types)) refl

module _ (forms : List ℕ) (m : Communication) (z : Sizes) (threads types cells : List ℕ) (threads_room : length threads ≡ 128) where
  abbrev Told : List ℕ → List ℕ → List ℕ → Answer Moved MoveRefusal → Type 0
  Told threads' types' cells' r = SteppedAny forms z threads types cells threads' types' cells' (λ state. communicate_step state m.sender m.receiver) r

  pub no_sender : z.threads ≤ m.sender → Told threads types cells (Err NoThread)
  unfolding communicate_step given
  no_sender k state turns known few kr h =
      answers_refused forms turns threads types known cells state NoThread z (communicate_step state m.sender m.receiver)
      (rw (no_thread forms z turns threads types known cells state threads_room h m.sender k) refl) h

  pub no_other : m.sender < z.threads → z.threads ≤ m.receiver → Told threads types cells (Err NoThread)
  unfolding communicate_step given
  no_other k l state turns known few kr h =
      let found = thread_is forms z turns threads types known cells state threads_room h m.sender k in
      answers_refused forms turns threads types known cells state NoThread z (communicate_step state m.sender m.receiver)
      (rw (found.here, no_thread forms z turns threads types known cells state threads_room h m.receiver l) refl) h

  module _ (k : m.sender < z.threads) (l : m.receiver < z.threads) (t u : Place)
      (et : t ≡ unpacked (get_or threads m.sender 0)) (eu : u ≡ unpacked (get_or threads m.receiver 0))
      (st : Option Prefix) (f : PrefixFound forms cells t st) where
    -- 31: the first one's prefix is no send.
    pub idle_sender : ((d : Action) → st ≡ Some (prefix.Sends d) → ⊥) → Told threads types cells (Err OtherPrefix)
    unfolding communicate_step given
    idle_sender not state turns known few kr h =
        let a = look forms z turns threads types known cells state m.sender t st threads_room h k et f in
        let b = thread_is forms z turns threads types known cells state threads_room h m.receiver l in
        answers_refused forms turns threads types known cells state OtherPrefix z (communicate_step state m.sender m.receiver)
        (rw (a.here, b.here, a.prefixed.sends, no_send forms t st not) refl) h

    module _ (give : Action) (q : st ≡ Some (prefix.Sends give)) (su : Option Prefix) (g : PrefixFound forms cells u su) where
      -- 31: the other's prefix is no receive.
      pub no_receiver : ((d : Action) → su ≡ Some (prefix.Receives d) → ⊥) → Told threads types cells (Err OtherPrefix)
      unfolding communicate_step given sending_of
      no_receiver not state turns known few kr h =
          let a = look forms z turns threads types known cells state m.sender t st threads_room h k et f in
          let b = look forms z turns threads types known cells state m.receiver u su threads_room h l eu g in
          answers_refused forms turns threads types known cells state OtherPrefix z (communicate_step state m.sender m.receiver)
          (rw (a.here, b.here, a.prefixed.sends ∙ ap (sending_of forms t) q, b.prefixed.receives, no_receive forms u su not) refl) h

      module _ (take : Action) (i : su ≡ Some (prefix.Receives take)) where
        -- 34: two channels.
        pub other_channel : (give.channel ≡ take.channel → ⊥) → Told threads types cells (Err OtherChannel)
        unfolding guard
        other_channel not state turns known few kr h =
            let a = look forms z turns threads types known cells state m.sender t st threads_room h k et f in
            let b = look forms z turns threads types known cells state m.receiver u su threads_room h l eu g in
            answers_refused forms turns threads types known cells state OtherChannel z (communicate_step state m.sender m.receiver)
            (rw (
              communication forms m t u give take state a.thread b.thread a.here b.here (a.prefixed.sends ∙ ap (sending_of forms t) q) (b.prefixed.receives ∙ ap (receiving_of forms u) i),
              ne_eqb give.channel take.channel not,
            ) refl) h

        pub communicated : (front back : Place) (placed : Option Sizes) (threads' types' cells' : List ℕ) (r : Answer Moved MoveRefusal)
            → give.channel ≡ take.channel → front ≡ continuation_of t give.next → back ≡ continuation_of u take.next
            → Exchanging forms (record { sender = m.sender; receiver = m.receiver; mine = front; theirs = back; sent = give.object }) z threads types cells threads' types' cells' placed
            → r ≡ outcome_of placed (record { number = 0; label = 1; channel = give.channel; name = give.object; actor = t.component; receiver = u.component })
            → Told threads' types' cells' r
        unfolding guard sending_of receiving_of
        communicated front back placed threads' types' cells' r ch em ex exchanging o state turns known few kr h =
            let a = look forms z turns threads types known cells state m.sender t st threads_room h k et f in
            let b = look forms z turns threads types known cells state m.receiver u su threads_room h l eu g in
            let v = a.thread in
            let w = b.thread in
            let av : Acts forms cells z.cells t v = a.acts in
            let aw : Acts forms cells z.cells u w = b.acts in
            let send = a.prefixed.sends ∙ ap (sending_of forms t) q in
            let receive = b.prefixed.receives ∙ ap (receiving_of forms u) i in
            let exchanging' : Exchanging forms (pair forms m t u give take) z threads types cells threads' types' cells' placed = rw (em, ex) at exchanging in
            let xs =
            exchanging' state v.component w.component turns known few kr av.component aw.component (process_of_lem give.next av) (process_of_lem take.next aw)
            (b.prefixed.binds take i) (a.prefixed.small give q)
            (apart state m.sender m.receiver v w _ _ a.here b.here send receive) h in
            answers_placed forms turns threads' types' known cells' state placed _ (exchanged forms (pair forms m t u give take) cells state v.component w.component)
            (record_of 1 give.channel give.object v.component.number w.component.number) (communicate_step state m.sender m.receiver) z r
            (rw (communication forms m t u give take state v w a.here b.here send receive, eq-eqb give.channel take.channel ch)
            (ap (λ n. taken n (record_of 1 give.channel give.object v.component.number w.component.number)) (met forms m t u give take state v w a.here b.here send receive cells z.cells av aw)))
            o
            (record_bytes_lem 1 give.channel give.object t.component u.component (lit< tt) av.small aw.small
            ∙ ap₂ (λ a b. record_of 1 give.channel give.object a b) (sym av.component) (sym aw.component))
            xs.fits
            xs.taken
            (λ y. later forms turns threads' types' known cells' state z (xs.kept y turns z.cells (omega arith) h))
