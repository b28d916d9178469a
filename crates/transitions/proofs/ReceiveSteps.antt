-- 03, return by return.
use Prim.Native.Nat.{ℕ, ◌+◌, ◌-◌, ◌%◌, ◌<◌, ◌≤◌}
use mathlib.Core.Path.{◌≡◌, refl, sym, ap, ◌∙◌}
use mathlib.Core.List.{List, [], ◌∷◌, ◌++◌}
use mathlib.Core.Bool.{Bool, true, false, cond, not, ◌&&◌}
use mathlib.Core.Option.{some}
use native.Mathlib.Omega.{arith}
use native.Mathlib.Nat.{add-zero, mod-lt}
use borrow.Author.Tests.{not-true, not-false, lt-ltb, ltb-true, ltb-false, eq-eqb, ne_eqb}
use lib.Dec.{ltb, eqb, lit<}
use lib.ListN.{length, get_or, take, set, get_elem?, get_or-eq_default}
use lib.Seq.{length-take-le}
use Rattle.reading.specs.Syntax.{Process}
use Rattle.std.specs.Prelude.{Option, Some, Result as Answer, Err}
use Rattle.decoding.specs.Tables.{process_in}
use Rattle.running.specs.State.{Thread, State}
use Rattle.running.specs.Products.{news, threads_of}
use Rattle.running.specs.Moves.{Result, guard, given, as_receiving, environment_knows, made, singles, after, taken, record_of, receive_step}
use Rattle.memory.specs.Threads.{unpacked, replaced}
use Rattle.memory.specs.Chains.{bound, chain}
use Rattle.memory.specs.declared.Thread.{Thread as Place}
use Rattle.memory.proofs.ChainLaws.{chain_bound, bound_kept, bound_length}
use Rattle.script.specs.declared.Receipt.{Receipt}
use Rattle.products.specs.declared.Sizes.{Sizes}
use Rattle.products.specs.Held.{Holds}
use Rattle.products.proofs.GrowLaws.{all_kept_lem}
use Rattle.continuations.specs.declared.Action.{Action}
use Rattle.transitions.specs.declared.Moved.{Moved}
use Rattle.transitions.specs.declared.MoveRefusal.{MoveRefusal}
use Rattle.transitions.specs.declared.MoveRefusal.TheVariants.{NoThread, OtherPrefix, NotKnown, OtherType}
use Rattle.continuations.specs.declared.Prefix.{Prefix}
use Rattle.continuations.specs.declared.Prefix.TheVariants as prefix
use Rattle.continuations.specs.Prefixes.{continuation_of, receiving_of, PrefixFound}
use Rattle.continuations.specs.Places.{Ranged, remaining_at, changed, put, Tables, Replaces, Replacing, under_cell, with_cell}
use Rattle.continuations.proofs.FormLaws.{no_receive}
use Rattle.transitions.specs.Steps.{outcome_of, Stepped}
use Rattle.transitions.proofs.MoveLaws.{Acts, record_bytes_lem, answers_refused, answers_placed, no_thread, after_one, look, known_is}

same_threads : (z : Sizes) → (with_cell z).threads ≡ z.threads
unfolding with_cell
same_threads z = go (ltb z.cells 2304)
  where
    go : (b : Bool) → (cond b (record { threads = z.threads; names = z.names; cells = z.cells + 1 }) z).threads ≡ z.threads
    go true = refl
    go false = refl

pub wider_inside : (w z : Sizes) (i : ℕ) → w ≡ with_cell z → i < z.threads → i + 1 ≤ w.threads
wider_inside w z i e h = omega (arith, ap (λ x. x.threads) e, same_threads z)

pub wider_tables : (w z : Sizes) (threads made types cells cells₁ : List ℕ) (cell env name : ℕ) → w ≡ with_cell z → cells₁ ≡ bound cells cell env name
    → Tables z threads made types cells → Tables w threads made types cells₁
wider_tables w z threads made types cells cells₁ cell env name e f t = record {
  few = omega (arith, ap (λ x. x.threads) e, same_threads z, t.few);
  thread_room = t.thread_room;
  made_room = t.made_room;
  type_room = t.type_room;
  cell_room = omega (arith, ap length f, bound_length cells cell env name, t.cell_room);
}

wider_so : (w z : Sizes) → w ≡ with_cell z → z.cells < 2304 → w ≡ record { threads = z.threads; names = z.names; cells = z.cells + 1 }
unfolding with_cell
wider_so w z e h = rw (e, lt-ltb z.cells 2304 h) refl

-- A cell more in use.
pub holds_cell : (forms : List ℕ) (z : Sizes) (turns : ℕ) (threads types : List ℕ) (known : List Bool) (cells : List ℕ) (state : State) (env name : ℕ)
    → length cells ≤ 2304 → turns + 1029 ≤ length cells
    → Holds forms z turns threads types known cells state → Holds forms (with_cell z) (turns + 1) threads types known (bound cells z.cells env name) state
unfolding with_cell
holds_cell forms z turns threads types known cells state env name room few h =
    rw (lt-ltb z.cells 2304 (omega (arith, h.slack, h.given))) (record {
      few = h.few;
      given = h.given;
      slack = omega (arith, h.slack);
      threads = all_kept_lem forms cells (bound cells z.cells env name) z.cells (z.cells + 1) (bound_kept cells z.cells z.cells env name (omega arith)) (omega arith) h.threads;
      types = h.types;
      known = h.known;
      quiet = h.quiet;
    })

-- The cells in use stay.
pub holds_bound : (forms : List ℕ) (z : Sizes) (turns : ℕ) (threads types : List ℕ) (known : List Bool) (cells : List ℕ) (state : State) (env name : ℕ)
    → Holds forms z turns threads types known cells state → Holds forms z (turns + 1) threads types known (bound cells z.cells env name) state
holds_bound forms z turns threads types known cells state env name h = record {
  few = h.few;
  given = h.given;
  slack = omega (arith, h.slack);
  threads = all_kept_lem forms cells (bound cells z.cells env name) z.cells z.cells (bound_kept cells z.cells z.cells env name (omega arith)) (omega arith) h.threads;
  types = h.types;
  known = h.known;
  quiet = h.quiet;
}

-- A receive from the environment whose channel and name are known and whose name has the bound type: what is left to ask is 35.
unfoldable pub received : List ℕ → Place → Action → Receipt → State → Thread → Result
received forms t act m state u =
    taken
    (after state
    (set (singles state.threads) m.thread
    (made state 0 u (u.names ++ (m.name ∷ [])) (process_in (t.nest - 1) forms (act.next % 8192))))
    (news (process_in (t.nest - 1) forms (act.next % 8192))))
    (record_of 2 act.channel m.name u.component.number 255)

-- A name known to the environment is one of those given.
known_given : (known : List Bool) (n v : ℕ) → get_or (take n known) v false ≡ true → n ≤ length known → v < n
known_given known n v h room = go (ltb v n) refl
  where
    go : (b : Bool) → ltb v n ≡ b → v < n
    go true e = ltb-true v n e
    go false e =
        let late : length (take n known) ≤ v = omega (arith, length-take-le n known room, ltb-false v n e) in
        let no_name : get_or (take n known) v false ≡ false = get_or-eq_default (take n known) false late in
        let z : ◌≡◌ {A = ℕ} 0 1 = cc in absurd (omega arith)

module _ (forms : List ℕ) (t : Place) (act : Action) (m : Receipt) where
  abbrev continuation : Process
  continuation = process_in (t.nest - 1) forms (act.next % 8192)

  -- 03 of this thread.
  receiving : (state : State) (u : Thread) → get_elem? state.threads m.thread ≡ some u
      → as_receiving u u.process ≡ receiving_of forms t (Some (prefix.Receives act))
      → receive_step state m.thread m.name
      ≡ guard 32 (environment_knows state act.channel && environment_knows state m.name) (guard 33 (eqb (get_or state.types m.name 0) act.object) (received forms t act m state u))
  unfolding receive_step given received receiving_of
  receiving state u here receive = rw (here, receive) refl

  abbrev process : ℕ → Place
  process cell = record { component = t.component; env = cell; names = t.names + 1; nest = t.nest - 1; at = act.next % 8192 }

  arrives : (state : State) (u : Thread) (cell : ℕ) → get_elem? state.threads m.thread ≡ some u → (cells₁ : List ℕ) → chain cells₁ (t.names + 1) cell ≡ u.names ++ (m.name ∷ [])
      → received forms t act m state u ≡ taken (put forms (process cell) m.thread (m.thread + 1) cells₁ state u.component) (record_of 2 act.channel m.name u.component.number 255)
  arrives state u cell here cells₁ names_are = unfold received in unfold made in unfold put in unfold remaining_at in
      rw (add-zero (length state.types))
      (ap (λ n. taken n (record_of 2 act.channel m.name u.component.number 255))
      (after_one state m.thread u here (threads_of u.component (u.names ++ (m.name ∷ [])) (length state.types) continuation) (news continuation)
      ∙ ap (λ ns. changed state (replaced state.threads m.thread (m.thread + 1) (threads_of u.component ns (length state.types) continuation)) (news continuation)) (sym names_are)))

module _ (forms : List ℕ) (m : Receipt) (z : Sizes) (threads types : List ℕ) (known : List Bool) (cells : List ℕ) (threads_room : length threads ≡ 128) where
  abbrev Told : List ℕ → List ℕ → List ℕ → Answer Moved MoveRefusal → Type 0
  Told threads' types' cells' r = Stepped forms z threads types known cells threads' types' known cells' (λ state. receive_step state m.thread m.name) r

  pub receive_no_thread : z.threads ≤ m.thread → Told threads types cells (Err NoThread)
  unfolding receive_step given
  receive_no_thread k state turns few h =
      answers_refused forms turns threads types known cells state NoThread z (receive_step state m.thread m.name)
      (rw (no_thread forms z turns threads types known cells state threads_room h m.thread k) refl) h

  module _ (t : Place) (st : Option Prefix) (k : m.thread < z.threads) (e : t ≡ unpacked (get_or threads m.thread 0)) (f : PrefixFound forms cells t st) where
    -- 31: its prefix is no receive.
    pub receive_other : ((d : Action) → st ≡ Some (prefix.Receives d) → ⊥) → Told threads types cells (Err OtherPrefix)
    unfolding receive_step given
    receive_other not state turns few h =
        let l = look forms z turns threads types known cells state m.thread t st threads_room h k e f in
        answers_refused forms turns threads types known cells state OtherPrefix z (receive_step state m.thread m.name)
        (rw (l.here, l.prefixed.receives, no_receive forms t st not) refl) h

    module _ (act : Action) (q : st ≡ Some (prefix.Receives act)) (b : Bool) (eb : b ≡ get_or (take z.names known) act.channel false) where
      -- 32: the environment does not know the channel, or the name.
      pub channel_unknown : not b ≡ true → Told threads types cells (Err NotKnown)
      unfolding guard
      channel_unknown h state turns few holds =
          let l = look forms z turns threads types known cells state m.thread t st threads_room holds k e f in
          answers_refused forms turns threads types known cells state NotKnown z (receive_step state m.thread m.name)
          (rw (receiving forms t act m state l.thread l.here (l.prefixed.receives ∙ ap (receiving_of forms t) q), known_is act.channel b eb holds, not-true b h) refl) holds

      module _ (h : not b ≡ false) (v : Bool) (ev : v ≡ get_or (take z.names known) m.name false) where
        pub name_unknown : not v ≡ true → Told threads types cells (Err NotKnown)
        unfolding guard
        name_unknown hv state turns few holds =
            let l = look forms z turns threads types known cells state m.thread t st threads_room holds k e f in
            answers_refused forms turns threads types known cells state NotKnown z (receive_step state m.thread m.name)
            (rw (
              receiving forms t act m state l.thread l.here (l.prefixed.receives ∙ ap (receiving_of forms t) q),
              known_is act.channel b eb holds,
              not-false b h,
              known_is m.name v ev holds,
              not-true v hv,
            ) refl) holds

        module _ (hv : not v ≡ false) (y : ℕ) (ey : y ≡ get_or (take z.names types) m.name 0) where
          type_is : (state : State) (turns : ℕ) → Holds forms z turns threads types known cells state → get_or state.types m.name 0 ≡ y
          type_is state turns holds = sym (ey ∙ ap (λ l. get_or l m.name 0) holds.types)

          -- 33: the name has another type.
          pub other_type : (y ≡ act.object → ⊥) → Told threads types cells (Err OtherType)
          unfolding guard
          other_type not state turns few holds =
              let l = look forms z turns threads types known cells state m.thread t st threads_room holds k e f in
              answers_refused forms turns threads types known cells state OtherType z (receive_step state m.thread m.name)
              (rw (
                receiving forms t act m state l.thread l.here (l.prefixed.receives ∙ ap (receiving_of forms t) q),
                known_is act.channel b eb holds,
                not-false b h,
                known_is m.name v ev holds,
                not-false v hv,
                type_is state turns holds,
                ne_eqb y act.object not,
              ) refl) holds

          pub receive_placed : (follows body : Place) (wider : Sizes) (cells₁ : List ℕ) (placed : Option Sizes) (threads' types' cells' : List ℕ) (r : Answer Moved MoveRefusal)
              → y ≡ act.object → length known ≡ 1024 → length cells ≤ 2304
              → follows ≡ continuation_of t act.next → body ≡ under_cell follows z.cells → cells₁ ≡ bound cells z.cells t.env m.name → wider ≡ with_cell z
              → Replacing forms body m.thread (m.thread + 1) wider threads types cells₁ threads' types' cells' placed
              → r ≡ outcome_of placed (record { number = 0; label = 2; channel = act.channel; name = m.name; actor = t.component; receiver = 255 })
              → Told threads' types' cells' r
          unfolding guard
          receive_placed follows body wider cells₁ placed threads' types' cells' r ty known_room cells_room ef ebo ec ew replacing o state turns few holds =
              let l = look forms z turns threads types known cells state m.thread t st threads_room holds k e f in
              let u = l.thread in
              let a : Acts forms cells z.cells t u = l.acts in
              let names : t.names + (t.nest - 1) < 128 = l.prefixed.binds act q in
              let given_name : m.name < z.names = known_given known z.names m.name (sym ev ∙ not-false v hv) (omega (arith, holds.given, known_room)) in
              let small : m.name < 65536 = omega (arith, holds.given, given_name) in
              let process_is : body ≡ process forms t act m z.cells = unfold under_cell in rw (ebo, ef, lt-ltb t.names 128 (omega arith)) refl in
              let wider_is : wider ≡ record { threads = z.threads; names = z.names; cells = z.cells + 1 }
              = wider_so wider z ew (omega (arith, holds.slack, holds.given, few, cells_room)) in
              let fits : Ranged (process forms t act m z.cells) wider.cells = rw wider_is (record { component = a.small; scope = omega arith; deep = omega (arith, a.deep); place = mod-lt act.next (lit< tt); env = omega arith }) in
              let held : Holds forms wider (turns + 1) threads types known cells₁ state = rw (ew, ec) (holds_cell forms z turns threads types known cells state t.env m.name cells_room few holds) in
              let still : Holds forms z (turns + 1) threads types known cells₁ state = rw ec (holds_bound forms z turns threads types known cells state t.env m.name holds) in
              let rs : Replaces forms (process forms t act m z.cells) m.thread (m.thread + 1) wider (turns + 1)
              threads threads' types types' known cells₁ cells' state u.component placed
              = rw process_is at (replacing state u.component (turns + 1) known (omega (arith, few, ap length ec, bound_length cells z.cells t.env m.name)) known_room (a.component ∙ ap (λ p. p.component) (sym process_is)) (rw process_is fits) held) in
              let names_are : chain cells₁ (t.names + 1) z.cells ≡ u.names ++ (m.name ∷ [])
              = rw ec (chain_bound cells t.names z.cells t.env m.name a.env (omega (arith, few, holds.slack, holds.given)) (omega (arith, few, cells_room, holds.slack, holds.given)) small)
              ∙ ap (λ ns. ns ++ (m.name ∷ [])) (sym a.names) in
              answers_placed forms turns threads' types' known cells' state placed _ (put forms (process forms t act m z.cells) m.thread (m.thread + 1) cells₁ state u.component)
              (record_of 2 act.channel m.name u.component.number 255) (receive_step state m.thread m.name) z r
              (rw (
                receiving forms t act m state u l.here (l.prefixed.receives ∙ ap (receiving_of forms t) q),
                known_is act.channel b eb holds,
                not-false b h,
                known_is m.name v ev holds,
                not-false v hv,
                type_is state turns holds,
                eq-eqb y act.object ty,
              ) (arrives forms t act m state u z.cells l.here cells₁ names_are))
              o
              (record_bytes_lem 2 act.channel m.name t.component 255 (lit< tt) a.small (lit< tt) ∙ ap (λ n. record_of 2 act.channel m.name n 255) (sym a.component))
              rs.fits
              rs.taken
              (λ y.
              let kept : Holds forms z (turns + 1) threads types known cells₁ state → Holds forms z (turns + 1) threads' types' known cells' state
              = rw wider_is at (rs.kept y (turns + 1) z.cells (omega (arith, ap (λ x. x.cells) wider_is))) in
              kept still)
