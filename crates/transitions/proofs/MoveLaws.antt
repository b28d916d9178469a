-- What every move's answer rests on: refusals, records, the thread at an index, and products in place as the definitions of moves have them.
use Prim.Native.Nat.{ℕ, zero, suc, ◌+◌, ◌<◌, ◌≤◌}
use mathlib.Core.Path.{◌≡◌, refl, sym, ap, ◌∙◌}
use mathlib.Core.List.{List, [], ◌∷◌, ◌++◌, append_assoc}
use mathlib.Core.Bool.{Bool, true, false, cond}
use mathlib.Core.Option.{some, none}
use native.Mathlib.Omega.{arith}
use native.Mathlib.Nat.{suc-add, mod-eq_of_lt}
use borrow.Author.Tests.{ltb-true, ltb-false}
use lib.Dec.{ltb}
use lib.ListN.{length, get_or, take, drop, set, get_elem?, replicate}
use lib.Seq.{get_or-take, length-take-le, take-set-lt, set_out, get_or-set_other}
use Rattle.std.specs.Prelude.{Option, Some, None, is_some, Result as Answer, Err}
use Rattle.decoding.specs.Tables.{process_in}
use Rattle.memory.specs.Chains.{chain}
use Rattle.inference.specs.Lists.{gather}
use Rattle.running.specs.State.{Thread, State}
use Rattle.running.specs.Moves.{Result, refuses, guard, singles, join, after, environment_knows, now_known, has_room, taken, word, record_of, state_after, record_bytes}
use Rattle.memory.specs.Threads.{unpacked, replaced}
use Rattle.memory.specs.declared.Thread.{Thread as Place}
use Rattle.memory.proofs.ThreadLaws.{component_small}
use Rattle.script.specs.Told.{bytes_of}
use Rattle.script.specs.declared.Record.{Record}
use Rattle.products.specs.declared.Sizes.{Sizes}
use Rattle.products.specs.Held.{Runs, Holds}
use Rattle.products.proofs.PairLaws.{pairs_at, pairs_length}
use Rattle.transitions.specs.declared.Moved.{Moved}
use Rattle.transitions.specs.declared.MoveRefusal.{MoveRefusal}
use Rattle.transitions.specs.declared.MoveRefusal.TheVariants.{NoThread, OtherPrefix, NotKnown, OtherType, OtherChannel, NoRoom}
use Rattle.continuations.specs.declared.Prefix.{Prefix}
use Rattle.continuations.specs.Prefixes.{HasPrefix, PrefixFound}
use Rattle.continuations.specs.Places.{changed}
use Rattle.transitions.specs.Steps.{number_of, refused_line, sizes_after, line_of, Answers, outcome_of}

-- The bytes of a record.
pub record_bytes_lem : (label channel name actor receiver : ℕ) → label < 256 → actor < 256 → receiver < 256
    → bytes_of (record { number = 0; label = label; channel = channel; name = name; actor = actor; receiver = receiver }) ≡ record_of label channel name actor receiver
unfolding bytes_of record_of
record_bytes_lem label channel name actor receiver l a r = rw (mod-eq_of_lt l, mod-eq_of_lt a, mod-eq_of_lt r) refl

refusal_bytes : (q : MoveRefusal) → bytes_of (refused_line (number_of q)) ≡ number_of q ∷ replicate 7 0
unfolding bytes_of refused_line word
refusal_bytes NoThread = refl
refusal_bytes OtherPrefix = refl
refusal_bytes NotKnown = refl
refusal_bytes OtherType = refl
refusal_bytes OtherChannel = refl
refusal_bytes NoRoom = refl

-- The thread that stands at a place with its run names.
pub record Acts (forms cells : List ℕ) (top : ℕ) (p : Place) (u : Thread) : Type 0 where
  pub env : p.env < top
  pub small : p.component < 256
  pub scope : p.names + p.nest ≤ 128
  pub deep : p.nest ≤ 64
  pub component : u.component.number ≡ p.component
  pub names : u.names ≡ chain cells p.names p.env
  pub process : u.process ≡ process_in p.nest forms p.at

module _ (forms : List ℕ) (turns : ℕ) (threads types : List ℕ) (known : List Bool) (cells : List ℕ) (state : State) where
  -- Time passes.
  pub later : (z : Sizes) → Holds forms z turns threads types known cells state → Holds forms z (turns + 1) threads types known cells state
  later z h = record {
    few = h.few;
    given = h.given;
    slack = omega (arith, h.slack);
    threads = h.threads;
    types = h.types;
    known = h.known;
    quiet = h.quiet;
  }

  -- A refused move.
  pub answers_refused : (q : MoveRefusal) (z : Sizes) (result : Result) → result ≡ refuses (number_of q) → Holds forms z turns threads types known cells state
      → Answers forms (turns + 1) threads types known cells state result z (Err q)
  unfolding state_after record_bytes sizes_after line_of
  answers_refused q z result e h = rw e (record { holds = later z h; bytes = refusal_bytes q })

  -- A move whose products were to be placed.
  pub answers_placed : (p : Option Sizes) (rec : Record) (next : State) (bytes : List ℕ) (result : Result) (z : Sizes) (r : Answer Moved MoveRefusal)
      → result ≡ taken next bytes → r ≡ outcome_of p rec
      → bytes_of rec ≡ bytes → is_some p ≡ has_room next
      → ((s : Sizes) → p ≡ Some s → Holds forms s (turns + 1) threads types known cells next)
      → (p ≡ None → Holds forms z (turns + 1) threads types known cells state)
      → Answers forms (turns + 1) threads types known cells state result z r
  unfolding taken guard outcome_of state_after record_bytes sizes_after line_of
  answers_placed p rec next bytes result z r e i b f fits full = go p refl
    where
      go : (x : Option Sizes) → p ≡ x → Answers forms (turns + 1) threads types known cells state result z r
      go (Some s) h = rw (e, i, ← f, h) (record { holds = fits s h; bytes = b })
      go None h = rw (e, i, ← f, h) (record { holds = full h; bytes = refusal_bytes NoRoom })

-- The thread at an index.
get_elem_none : {A : Type 0} (l : List A) (i : ℕ) → length l ≤ i → get_elem? l i ≡ none
get_elem_none [] i h = refl
get_elem_none (x ∷ l) zero h = absurd (omega arith)
get_elem_none (x ∷ l) (suc i) h = get_elem_none l i (omega arith)

pub record ThreadAt (forms cells : List ℕ) (top w : ℕ) (state : State) (i : ℕ) : Type 0 where
  pub thread : Thread
  pub here : get_elem? state.threads i ≡ some thread
  pub acts : Acts forms cells top (unpacked w) thread

module _ (forms : List ℕ) (z : Sizes) (turns : ℕ) (threads types : List ℕ) (known : List Bool) (cells : List ℕ) (state : State)
    (room : length threads ≡ 128) (h : Holds forms z turns threads types known cells state) (i : ℕ) where
  pub count : length state.threads ≡ z.threads
  count = sym (pairs_length h.threads) ∙ length-take-le z.threads threads (omega (arith, h.few))

  pub no_thread : z.threads ≤ i → get_elem? state.threads i ≡ none
  no_thread k = get_elem_none state.threads i (omega (arith, count))

  pub thread_is : i < z.threads → ThreadAt forms cells z.cells (get_or threads i 0) state i
  thread_is k =
      let found = pairs_at 0 i h.threads (omega (arith, length-take-le z.threads threads (omega (arith, h.few)))) in
      let w = get_or threads i 0 in
      let e : get_or (take z.threads threads) i 0 ≡ w = get_or-take z.threads threads i 0 k in
      let runs : Runs forms cells z.cells w found.item = rw e at found.holds in
      record {
        thread = found.item;
        here = found.here;
        acts = record {
          env = runs.env;
          small = component_small w;
          scope = runs.scope;
          deep = runs.deep;
          component = runs.component;
          names = runs.names;
          process = runs.process;
        };
      }

-- Products in a thread's place, as the definitions of moves have them.
pub join_singles : (ts : List Thread) → join (singles ts) ≡ ts
unfolding join singles gather
join_singles [] = refl
join_singles (t ∷ ts) = ap (λ l. t ∷ l) (join_singles ts)

pub join_set : (ts : List Thread) (i : ℕ) (new : List Thread) → i < length ts → join (set (singles ts) i new) ≡ replaced ts i (i + 1) new
unfolding join singles gather replaced
join_set [] i new h = absurd (omega arith)
join_set (t ∷ ts) zero new h = ap (λ l. new ++ l) (join_singles ts)
join_set (t ∷ ts) (suc i) new h = rw (suc-add i 1) (ap (λ l. t ∷ l) (join_set ts i new (omega arith)))

drop_here : {A : Type 0} (l : List A) (i : ℕ) (a : A) → get_elem? l i ≡ some a → drop i l ≡ a ∷ drop (i + 1) l
drop_here [] i a h = let z : ◌≡◌ {A = ℕ} 0 1 = cc in absurd (omega arith)
drop_here (x ∷ l) zero a h = let e : x ≡ a = cc in rw e refl
drop_here (x ∷ l) (suc i) a h = rw (suc-add i 1) (drop_here l i a h)

-- What goes before a thread that stays.
before_here : {A : Type 0} (l : List A) (i : ℕ) (a : A) (new : List A) → get_elem? l i ≡ some a → replaced l i (i + 1) (new ++ (a ∷ [])) ≡ replaced l i i new
unfolding replaced
before_here l i a new h =
    ap (λ k. take i l ++ k) (append_assoc new (a ∷ []) (drop (i + 1) l) ∙ ap (λ k. new ++ k) (sym (drop_here l i a h)))

inside : {A : Type 0} (l : List A) (i : ℕ) (a : A) → get_elem? l i ≡ some a → i < length l
inside [] i a h = let z : ◌≡◌ {A = ℕ} 0 1 = cc in absurd (omega arith)
inside (x ∷ l) zero a h = omega arith
inside (x ∷ l) (suc i) a h = omega (arith, inside l i a h)

-- A thread's place replaced by products, and products before it.
module _ (state : State) (i : ℕ) (u : Thread) (here : get_elem? state.threads i ≡ some u) (new : List Thread) (types : List ℕ) where
  pub after_one : after state (set (singles state.threads) i new) types ≡ changed state (replaced state.threads i (i + 1) new) types
  unfolding after changed
  after_one = rw (join_set state.threads i new (inside state.threads i u here)) refl

  pub after_before : after state (set (singles state.threads) i (new ++ (u ∷ []))) types ≡ changed state (replaced state.threads i i new) types
  unfolding after changed
  after_before =
      rw (join_set state.threads i (new ++ (u ∷ [])) (inside state.threads i u here), before_here state.threads i u new here) refl

-- The thread at an index, with its prefix.
pub record Looked (forms cells : List ℕ) (top : ℕ) (t : Place) (state : State) (i : ℕ) (st : Option Prefix) : Type 0 where
  pub thread : Thread
  pub here : get_elem? state.threads i ≡ some thread
  pub acts : Acts forms cells top t thread
  pub prefixed : HasPrefix forms t thread st

pub look : (forms : List ℕ) (z : Sizes) (turns : ℕ) (threads types : List ℕ) (known : List Bool) (cells : List ℕ) (state : State) (i : ℕ) (t : Place) (st : Option Prefix)
    → length threads ≡ 128 → Holds forms z turns threads types known cells state → i < z.threads → t ≡ unpacked (get_or threads i 0)
    → PrefixFound forms cells t st
    → Looked forms cells z.cells t state i st
look forms z turns threads types known cells state i t st room h k e f =
    let found = thread_is forms z turns threads types known cells state room h i k in
    let acts : Acts forms cells z.cells t found.thread = rw e found.acts in
    record { thread = found.thread; here = found.here; acts = acts; prefixed = f found.thread acts.names acts.process acts.scope }

-- A name becomes known to the environment.
pub holds_known : (forms : List ℕ) (z : Sizes) (turns : ℕ) (threads types : List ℕ) (known : List Bool) (cells : List ℕ) (state : State) (n : ℕ) → length known ≡ 1024
    → Holds forms z turns threads types known cells state
    → Holds forms z turns threads types (cond (ltb n z.names) (set known n true) known) cells (now_known n state)
unfolding now_known
holds_known forms z turns threads types known cells state n room h = go (ltb n z.names) refl
  where
    go : (b : Bool) → ltb n z.names ≡ b
        → Holds forms z turns threads types (cond b (set known n true) known) cells (record { threads = state.threads; types = state.types; known = set state.known n true })
    go true e =
        let lt : n < z.names = ltb-true n z.names e in
        record {
          few = h.few;
          given = h.given;
          slack = h.slack;
          threads = h.threads;
          types = h.types;
          known = take-set-lt z.names known n true lt ∙ ap (λ l. set l n true) h.known;
          quiet = λ i k. get_or-set_other known n i true false (λ x. absurd (omega arith)) ∙ h.quiet i k;
        }
    go false e =
        let le : z.names ≤ n = ltb-false n z.names e in
        let long : length state.known ≡ z.names = ap length (sym h.known) ∙ length-take-le z.names known (omega (arith, h.given)) in
        record {
          few = h.few;
          given = h.given;
          slack = h.slack;
          threads = h.threads;
          types = h.types;
          known = h.known ∙ sym (set_out state.known n true (omega (arith, long)));
          quiet = h.quiet;
        }

pub known_is : {forms : List ℕ} {z : Sizes} {turns : ℕ} {threads types : List ℕ} {known : List Bool} {cells : List ℕ} {state : State} (n : ℕ) (b : Bool)
    → b ≡ get_or (take z.names known) n false → Holds forms z turns threads types known cells state → environment_knows state n ≡ b
unfolding environment_knows
known_is n b e h = sym (e ∙ ap (λ l. get_or l n false) h.known)
