-- A state in memory when a process's products are put in the place of threads.
use Prim.Native.Nat.{ℕ, zero, suc, ◌+◌, ◌-◌, ◌≤◌}
use mathlib.Core.Path.{◌≡◌, refl, sym, ap, ap₂, ◌∙◌}
use mathlib.Core.List.{List, [], ◌∷◌, ◌++◌}
use mathlib.Core.Bool.{Bool, true, false, ◌&&◌}
use native.Mathlib.Omega.{arith}
use native.Mathlib.Nat.{zero-add, suc-add}
use borrow.Author.Tests.{leb-true, leb-false}
use lib.Dec.{leb}
use lib.ListN.{length, get_or, take, replicate, length-append}
use lib.Seq.{length-take-le}
use Rattle.std.specs.Prelude.{Option, Some, None, is_some}
use Rattle.decoding.specs.Tables.{process_in}
use Rattle.inference.specs.Acts.{Component}
use Rattle.running.specs.State.{Thread, State}
use Rattle.running.specs.Products.{news, threads_of}
use Rattle.running.specs.Moves.{has_room}
use Rattle.memory.specs.Threads.{replaced}
use Rattle.memory.specs.Chains.{chain}
use Rattle.memory.specs.declared.Thread.{Thread as Place}
use Rattle.memory.proofs.ThreadLaws.{replaced_length}
use Rattle.products.specs.declared.Sizes.{Sizes}
use Rattle.products.specs.Pairs.{Pairs, none}
use Rattle.products.specs.Held.{Runs, Holds}
use Rattle.products.specs.Makes.{Ready, Makes, crowd}
use Rattle.products.proofs.PairLaws.{pairs_append, pairs_take, pairs_drop, pairs_length}
use Rattle.products.proofs.GrowLaws.{shorter, all_kept_lem, crowd_counts}
use Rattle.continuations.specs.Places.{Ranged, remaining_at, changed, put, room_for, Puts, Keeps, Replaces}
use Rattle.continuations.proofs.RoomLaws.{few_threads, few_names}

pub pairs_replaced : {A B : Type 0} {R : A → B → Type 0} (at from : ℕ) {xs ys : List A} {bs ds : List B} → Pairs R xs bs → Pairs R ys ds
    → Pairs R (replaced xs at from ys) (replaced bs at from ds)
unfolding replaced
pairs_replaced at from p q = pairs_append (pairs_take at p) (pairs_append q (pairs_drop from p))

pub leb_cong : (a b m : ℕ) → (a ≤ m → b ≤ m) → (b ≤ m → a ≤ m) → leb a m ≡ leb b m
leb_cong a b m f g = go (leb a m) (leb b m) refl refl
  where
    go : (x y : Bool) → leb a m ≡ x → leb b m ≡ y → leb a m ≡ leb b m
    go true true d e = d ∙ sym e
    go false false d e = d ∙ sym e
    go true false d e = absurd (omega (arith, f (leb-true a m d), leb-false b m e))
    go false true d e = absurd (omega (arith, g (leb-true b m e), leb-false a m d))

all_false : (known : List Bool) (j : ℕ) → 0 + j ≤ length known → ((i : ℕ) → get_or known i false ≡ false) → take (0 + j) known ≡ [] ++ replicate j false
all_false known zero h q = refl
all_false [] (suc j) h q = absurd (omega arith)
all_false (x ∷ known) (suc j) h q =
    ap (λ k. take k (x ∷ known)) (zero-add (suc j))
    ∙ ap₂ (λ a l. a ∷ l) (q 0) (ap (λ k. take k known) (sym (zero-add j)) ∙ all_false known j (omega arith) (λ i. q (suc i)))

-- Names that are yet to come are not known to the environment.
pub quiet_take : (known : List Bool) (n j : ℕ) → n + j ≤ length known → ((i : ℕ) → n ≤ i → get_or known i false ≡ false)
    → take (n + j) known ≡ take n known ++ replicate j false
quiet_take known zero j h q = all_false known j h (λ i. q i (omega arith))
quiet_take [] (suc n) j h q = absurd (omega arith)
quiet_take (x ∷ known) (suc n) j h q =
    ap (λ k. take k (x ∷ known)) (suc-add n j) ∙ ap (λ l. x ∷ l) (quiet_take known n j (omega arith) (λ i k. q (suc i) (omega arith)))

-- The products of a process, put in the place of threads.
module _ (forms : List ℕ) (process : Place) (at from : ℕ) (z : Sizes) (turns : ℕ) (threads threads' made made' types types' cells cells' : List ℕ)
    (known : List Bool) (state : State) (c : Component) (products : Sizes) (r : Option Sizes) where
  abbrev before : Sizes
  before = record { threads = 0; names = z.names; cells = z.cells }

  abbrev mine : List Thread
  mine = threads_of c (chain cells process.names process.env) (length state.types) (remaining_at forms process)

  module _ (few : turns + 1028 ≤ length cells) (known_room : length known ≡ 1024) (number : c.number ≡ process.component) (fits : Ranged process z.cells)
      (made_room : length made ≡ 128) (types_room : length types ≡ 1024) (cells_room : length cells ≤ 2304)
      (ordered : at ≤ from) (inside : from ≤ z.threads) (threads_room : length threads ≡ 128)
      (holds : Holds forms z turns threads types known cells state) where
    pub process_ready : Ready process before made types cells
    process_ready = record {
      component = fits.component;
      scope = fits.scope;
      deep = fits.deep;
      place = fits.place;
      env = fits.env;
      few = omega arith;
      given = omega (arith, holds.given);
      slack = omega (arith, holds.slack);
      made_room = omega arith;
      types_room = types_room;
      cells_room = cells_room;
    }

    pub named : length state.types ≡ z.names
    named = ap length (sym holds.types) ∙ length-take-le z.names types (omega (arith, holds.given))

    pub counted : length state.threads ≡ z.threads
    counted = sym (pairs_length holds.threads) ∙ length-take-le z.threads threads (omega (arith, holds.few))

    module _ (m : Makes forms process (process_in process.nest forms process.at) before made made' types types' cells cells' products)
        (p : Puts z at from (products) made' threads threads' r) where
      all_threads : length (replaced state.threads at from mine) ≡ at + (z.threads - from) + crowd (remaining_at forms process)
      all_threads =
          omega (
            arith,
            replaced_length state.threads at from mine (omega (arith, counted)) (omega (arith, counted)),
            crowd_counts c (chain cells process.names process.env) (length state.types) (remaining_at forms process),
            counted,
          )

      all_names : length (state.types ++ news (remaining_at forms process)) ≡ z.names + length (news (remaining_at forms process))
      all_names = omega (arith, length-append state.types (news (remaining_at forms process)), named)

      room_same : is_some r ≡ has_room (put forms process at from cells state c)
      unfolding has_room put changed remaining_at room_for
      room_same =
          p.fits ∙ ap₂ (λ a b. a && b)
          (leb_cong (at + (z.threads - from) + products.threads) (length (replaced state.threads at from mine)) 64
          (λ h. omega (arith, m.grows.threads, all_threads)) (λ h. omega (arith, m.grows.threads, all_threads)))
          (leb_cong products.names (length (state.types ++ news (remaining_at forms process))) 1024
          (λ h. omega (arith, m.grows.names, all_names)) (λ h. omega (arith, m.grows.names, all_names)))

      abbrev fitted : Sizes
      fitted = record { threads = at + (z.threads - from) + products.threads; names = products.names; cells = products.cells }

      module _ (s : Sizes) (yes : r ≡ Some s) where
        few_made : at + (z.threads - from) + products.threads ≤ 64
        few_made = few_threads (at + (z.threads - from)) (products) (sym p.fits ∙ ap is_some yes)

        few_given : products.names ≤ 1024
        few_given = few_names (at + (z.threads - from)) (products) (sym p.fits ∙ ap is_some yes)

        new_names : products.names ≡ z.names + length (news (remaining_at forms process))
        unfolding remaining_at
        new_names = omega (arith, m.grows.names, few_given)

        holds_fitted : Holds forms s turns threads' types' known cells' (put forms process at from cells state c)
        unfolding put changed remaining_at
        holds_fitted = rw (p.sizes s yes) (record {
          few = few_made;
          given = few_given;
          slack = omega (arith, m.grows.slack, holds.slack);
          threads =
              let made_threads = m.products (omega (arith, few_made)) few_given c number [] none in
              let mine_are : Pairs (Runs forms cells' products.cells) (take products.threads made') mine = rw (← named) at made_threads in
              rw (p.placed s yes) (pairs_replaced at from (all_kept_lem forms cells cells' z.cells products.cells m.grows.kept m.grows.cells holds.threads) mine_are);
          types = m.given few_given ∙ ap (λ l. l ++ news (remaining_at forms process)) holds.types;
          known =
              ap (λ k. take k known) new_names
              ∙ quiet_take known z.names (length (news (remaining_at forms process))) (omega (arith, few_given, new_names)) holds.quiet
              ∙ ap (λ l. l ++ replicate (length (news (remaining_at forms process))) false) holds.known;
          quiet = λ i h. holds.quiet i (omega (arith, new_names));
        })

      holds_kept : r ≡ None → Keeps forms z threads threads' types types' known cells cells' state
      holds_kept full later top below held = record {
        few = held.few;
        given = held.given;
        slack = held.slack;
        threads =
            rw (p.kept full) (all_kept_lem forms cells cells' top top (shorter top z.cells cells' cells below m.grows.kept) (omega arith) held.threads);
        types = m.before ∙ held.types;
        known = held.known;
        quiet = held.quiet;
      }

      pub replaces : Replaces forms process at from z turns threads threads' types types' known cells cells' state c r
      replaces = record { fits = room_same; taken = holds_fitted; kept = holds_kept }
