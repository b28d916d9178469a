-- A state in memory when the products of a communication are put in the places of two threads.
use Prim.Native.Nat.{ℕ, zero, suc, ◌+◌, ◌-◌, ◌<◌, ◌≤◌, min}
use mathlib.Core.Path.{◌≡◌, refl, sym, ap, ap₂, ◌∙◌}
use mathlib.Core.List.{List, [], ◌∷◌, ◌++◌, append_assoc}
use mathlib.Core.Bool.{Bool, true, false, cond, ◌&&◌}
use native.Mathlib.Omega.{arith}
use native.Mathlib.Numerals.{add-one}
use borrow.Author.Tests.{ltb-true, ltb-false}
use lib.Dec.{ltb}
use lib.ListN.{length, take, drop, set, replicate, length-append, length-take}
use lib.Seq.{length-take-le, take-take, take_at, drop_at, take-add, set_comm}
use Rattle.std.specs.Prelude.{Option, Some, None, is_some}
use Rattle.decoding.specs.Tables.{process_in}
use Rattle.inference.specs.Lists.{gather}
use Rattle.inference.specs.Acts.{Component}
use Rattle.running.specs.State.{Thread, State}
use Rattle.running.specs.Products.{news, threads_of}
use Rattle.running.specs.Moves.{has_room, singles, join, after}
use Rattle.memory.specs.Threads.{replaced}
use Rattle.memory.specs.Chains.{bound, chain}
use Rattle.memory.specs.declared.Thread.{Thread as Place}
use Rattle.memory.proofs.ThreadLaws.{replaced_length}
use Rattle.memory.proofs.ChainLaws.{chain_kept, chain_bound, bound_kept, bound_length}
use Rattle.products.specs.declared.Sizes.{Sizes}
use Rattle.products.specs.Pairs.{Pairs, none}
use Rattle.products.specs.Held.{Runs, Holds}
use Rattle.products.specs.Makes.{Ready, Makes, crowd}
use Rattle.products.proofs.PairLaws.{pairs_take, pairs_drop, pairs_length}
use Rattle.products.proofs.GrowLaws.{shorter, all_kept_lem, crowd_counts}
use Rattle.continuations.specs.declared.Exchange.{Exchange}
use Rattle.continuations.specs.Places.{Ranged, remaining_at, room_for, Keeps}
use Rattle.continuations.specs.Exchanges.{exchanged, both_replaced, swapped, PutsBoth, Exchanges}
use Rattle.continuations.proofs.RoomLaws.{few_threads, few_names}
use Rattle.continuations.proofs.PlaceLaws.{pairs_replaced, leb_cong, quiet_take}

-- Threads as lists of one each, of which one or two are replaced.
join_singles : (ts : List Thread) → join (singles ts) ≡ ts
unfolding join singles gather
join_singles [] = refl
join_singles (t ∷ ts) = ap (λ l. t ∷ l) (join_singles ts)

join_one : (ts : List Thread) (i : ℕ) (p : List Thread) → i < length ts → join (set (singles ts) i p) ≡ take i ts ++ (p ++ drop (suc i) ts)
unfolding join singles gather
join_one [] i p h = absurd (omega arith)
join_one (t ∷ ts) zero p h = ap (λ l. p ++ l) (join_singles ts)
join_one (t ∷ ts) (suc i) p h = ap (λ l. t ∷ l) (join_one ts i p (omega arith))

join_two : (ts : List Thread) (i j : ℕ) (p q : List Thread) → i < j → j < length ts → join (set (set (singles ts) i p) j q)
    ≡ take i (take j ts ++ (q ++ drop (suc j) ts)) ++ (p ++ drop (suc i) (take j ts ++ (q ++ drop (suc j) ts)))
unfolding join singles gather
join_two [] i j p q h k = absurd (omega arith)
join_two (t ∷ ts) i zero p q h k = absurd (omega arith)
join_two (t ∷ ts) zero (suc j) p q h k = ap (λ l. p ++ l) (join_one ts j q (omega arith))
join_two (t ∷ ts) (suc i) (suc j) p q h k = ap (λ l. t ∷ l) (join_two ts i j p q (omega arith) (omega arith))

join_both : (ts : List Thread) (i j : ℕ) (p q : List Thread) → i < j → j < length ts → join (set (set (singles ts) i p) j q) ≡ both_replaced ts i j p q
unfolding both_replaced replaced
join_both ts i j p q h k = rw (add-one i, add-one j) (join_two ts i j p q h k)

pub join_swapped : (ts : List Thread) (i j : ℕ) (p q : List Thread) → i < length ts → j < length ts → (i ≡ j → ⊥)
    → join (set (set (singles ts) i p) j q) ≡ swapped ts i j p q
unfolding swapped
join_swapped ts i j p q h k ne = go (ltb i j) refl
  where
    go : (b : Bool) → ltb i j ≡ b → join (set (set (singles ts) i p) j q) ≡ cond b (both_replaced ts i j p q) (both_replaced ts j i q p)
    go true e = join_both ts i j p q (ltb-true i j e) k
    go false e =
        let least : j ≤ i = ltb-false i j e in
        let other : j < i = omega (arith, ne, least) in
        ap join (set_comm (singles ts) i j p q ne) ∙ join_both ts j i q p other h

both_length : {A : Type 0} (l : List A) (i j : ℕ) (p q : List A) → i < j → j < length l → length (both_replaced l i j p q) ≡ length l - 2 + (length p + length q)
unfolding both_replaced
both_length l i j p q h k =
    let one : length (replaced l j (j + 1) q) ≡ j + length q + (length l - (j + 1)) = replaced_length l j (j + 1) q (omega arith) (omega arith) in
    let two = replaced_length (replaced l j (j + 1) q) i (i + 1) p (omega (arith, one)) (omega (arith, one)) in
    omega (arith, one, two)

pub swapped_length : {A : Type 0} (l : List A) (i j : ℕ) (p q : List A) → i < length l → j < length l → (i ≡ j → ⊥)
    → length (swapped l i j p q) ≡ length l - 2 + (length p + length q)
unfolding swapped
swapped_length {A} l i j p q h k ne = go (ltb i j) refl
  where
    go : (b : Bool) → ltb i j ≡ b → length (cond b (both_replaced l i j p q) (both_replaced l j i q p)) ≡ length l - 2 + (length p + length q)
    go true e = both_length l i j p q (ltb-true i j e) k
    go false e =
        let least : j ≤ i = ltb-false i j e in
        let other : j < i = omega (arith, ne, least) in
        omega (arith, both_length l j i q p other h)

pub pairs_swapped : {A B : Type 0} {R : A → B → Type 0} (i j : ℕ) {xs ps qs : List A} {bs cs ds : List B}
    → Pairs R xs bs → Pairs R ps cs → Pairs R qs ds → Pairs R (swapped xs i j ps qs) (swapped bs i j cs ds)
unfolding swapped both_replaced
pairs_swapped {A} {B} {R} i j {xs} {ps} {qs} {bs} {cs} {ds} x p q = go (ltb i j)
  where
    go : (b : Bool) → Pairs R (cond b (both_replaced xs i j ps qs) (both_replaced xs j i qs ps)) (cond b (both_replaced bs i j cs ds) (both_replaced bs j i ds cs))
    go true = pairs_replaced i (i + 1) (pairs_replaced j (j + 1) x q) p
    go false = pairs_replaced j (j + 1) (pairs_replaced i (i + 1) x p) q

-- What was made by one walk after another, taken apart.
module _ {R : ℕ → Thread → Type 0} (m k : ℕ) (made : List ℕ) (ps qs : List Thread) (both : Pairs R (take (m + k) made) (ps ++ qs)) (same : length ps ≡ m) where
  pub pairs_first : Pairs R (take m made) ps
  pairs_first =
      let part = pairs_take m both in
      rw (take-take m (m + k) made (omega arith), take_at ps qs m same) at part

  pub pairs_second : Pairs R (take k (drop m made)) qs
  pairs_second =
      let enough : m ≤ length made = omega (arith, pairs_length both, length-take (m + k) made, length-append ps qs) in
      let long : length (take m made) ≡ m = length-take-le m made enough in
      let part = pairs_drop m both in
      rw (take-add m k made, drop_at (take m made) (take k (drop m made)) m long, drop_at ps qs m same) at part

-- The products of both continuations, put in the places of the two threads.
module _ (forms : List ℕ) (x : Exchange) (z : Sizes) (turns : ℕ) (threads threads' made made₁ made' types types₁ types' cells cells₁ cells' : List ℕ)
    (known : List Bool) (state : State) (c d : Component) (first second : Sizes) (r : Option Sizes) where
  abbrev before : Sizes
  before = record { threads = 0; names = z.names; cells = z.cells }

  abbrev cell : ℕ
  cell = first.cells

  abbrev begun : Sizes
  begun = record { threads = first.threads; names = first.names; cells = cell + 1 }

  abbrev place : Place
  place = record { component = x.theirs.component; env = cell; names = x.theirs.names + 1; nest = x.theirs.nest; at = x.theirs.at }

  abbrev widened : List ℕ
  widened = bound cells₁ cell x.theirs.env x.sent

  abbrev mine : List Thread
  mine = threads_of c (chain cells x.mine.names x.mine.env) (length state.types) (remaining_at forms x.mine)

  abbrev theirs : List Thread
  theirs =
      threads_of d (chain cells x.theirs.names x.theirs.env ++ (x.sent ∷ []))
      (length state.types + length (news (remaining_at forms x.mine))) (remaining_at forms x.theirs)

  module _ (few : turns + 1029 ≤ length cells) (known_room : length known ≡ 1024) (number_mine : c.number ≡ x.mine.component) (number_theirs : d.number ≡ x.theirs.component)
      (fits_mine : Ranged x.mine z.cells) (fits_theirs : Ranged x.theirs z.cells) (binds : x.theirs.names + x.theirs.nest < 128) (small : x.sent < 65536)
      (apart : x.sender ≡ x.receiver → ⊥) (sender : x.sender < z.threads) (receiver : x.receiver < z.threads)
      (threads_room : length threads ≡ 128) (made_room : length made ≡ 128) (types_room : length types ≡ 1024) (cells_room : length cells ≤ 2304)
      (same_made : length made₁ ≡ length made) (same_types : length types₁ ≡ length types) (same_cells : length cells₁ ≡ length cells)
      (holds : Holds forms z turns threads types known cells state) where
    ready_mine : Ready x.mine before made types cells
    ready_mine = record {
      component = fits_mine.component;
      scope = fits_mine.scope;
      deep = fits_mine.deep;
      place = fits_mine.place;
      env = fits_mine.env;
      few = omega arith;
      given = omega (arith, holds.given);
      slack = omega (arith, holds.slack);
      made_room = omega arith;
      types_room = types_room;
      cells_room = cells_room;
    }

    named : length state.types ≡ z.names
    named = ap length (sym holds.types) ∙ length-take-le z.names types (omega (arith, holds.given))

    counted : length state.threads ≡ z.threads
    counted = sym (pairs_length holds.threads) ∙ length-take-le z.threads threads (omega (arith, holds.few))

    -- After the sender's walk.
    module _ (m : Makes forms x.mine (process_in x.mine.nest forms x.mine.at) before made made₁ types types₁ cells cells₁ first) where
      cell_inside : cell + 4 ≤ length cells
      cell_inside = omega (arith, m.grows.slack, m.grows.names, holds.slack)

      cell_left : cell ≤ 2300
      cell_left = omega (arith, cell_inside, cells_room)

      widened_length : length widened ≡ length cells
      widened_length = bound_length cells₁ cell x.theirs.env x.sent ∙ same_cells

      ready_theirs : Ready place begun made₁ types₁ widened
      ready_theirs = record {
        component = fits_theirs.component;
        scope = omega arith;
        deep = fits_theirs.deep;
        place = fits_theirs.place;
        env = omega arith;
        few = omega (arith, m.grows.threads);
        given = omega (arith, m.grows.names);
        slack = omega (arith, m.grows.slack, holds.slack, widened_length);
        made_room = omega (arith, same_made);
        types_room = same_types ∙ types_room;
        cells_room = omega (arith, widened_length, cells_room);
      }

      cells_kept : take z.cells widened ≡ take z.cells cells
      cells_kept = bound_kept cells₁ z.cells cell x.theirs.env x.sent m.grows.cells ∙ m.grows.kept

      names_theirs : chain widened (x.theirs.names + 1) cell ≡ chain cells x.theirs.names x.theirs.env ++ (x.sent ∷ [])
      names_theirs =
          chain_bound cells₁ x.theirs.names cell x.theirs.env x.sent (omega (arith, fits_theirs.env, m.grows.cells))
          (omega (arith, cell_inside, same_cells)) (omega (arith, cell_left)) small
          ∙ ap (λ l. l ++ (x.sent ∷ []))
          (chain_kept cells₁ cells z.cells x.theirs.names x.theirs.env m.grows.kept fits_theirs.env)

      -- After the receiver's.
      module _ (n : Makes forms place (process_in place.nest forms place.at) begun made₁ made' types₁ types' widened cells' second) where
        mine_first : first.threads ≤ second.threads
        mine_first = omega (arith, m.grows.threads, n.grows.threads)

        all_cells_kept : take z.cells cells' ≡ take z.cells cells
        all_cells_kept = shorter z.cells (cell + 1) cells' widened (omega (arith, m.grows.cells)) n.grows.kept ∙ cells_kept

        module _ (p : PutsBoth z x (record { mine = first.threads; sizes = second }) made' threads threads' r) where
          crowd_mine : length mine ≡ crowd (remaining_at forms x.mine)
          crowd_mine = crowd_counts c (chain cells x.mine.names x.mine.env) (length state.types) (remaining_at forms x.mine)

          crowd_theirs : length theirs ≡ crowd (remaining_at forms x.theirs)
          crowd_theirs =
              crowd_counts d (chain cells x.theirs.names x.theirs.env ++ (x.sent ∷ []))
              (length state.types + length (news (remaining_at forms x.mine))) (remaining_at forms x.theirs)

          abbrev new : List ℕ
          new = news (remaining_at forms x.mine) ++ news (remaining_at forms x.theirs)

          joined : join (set (set (singles state.threads) x.sender mine) x.receiver theirs) ≡ swapped state.threads x.sender x.receiver mine theirs
          joined = join_swapped state.threads x.sender x.receiver mine theirs (omega (arith, counted)) (omega (arith, counted)) apart

          all_threads : length (join (set (set (singles state.threads) x.sender mine) x.receiver theirs))
              ≡ z.threads - 2 + (crowd (remaining_at forms x.mine) + crowd (remaining_at forms x.theirs))
          all_threads =
              omega (
                arith,
                ap length joined,
                swapped_length state.threads x.sender x.receiver mine theirs (omega (arith, counted)) (omega (arith, counted)) apart,
                crowd_mine,
                crowd_theirs,
                counted,
              )

          new_length : length new ≡ length (news (remaining_at forms x.mine)) + length (news (remaining_at forms x.theirs))
          new_length = length-append (news (remaining_at forms x.mine)) (news (remaining_at forms x.theirs))

          all_names : length (state.types ++ new) ≡ z.names + (length (news (remaining_at forms x.mine)) + length (news (remaining_at forms x.theirs)))
          all_names = omega (arith, length-append state.types new, new_length, named)

          threads_grown : second.threads ≡ min 65 (crowd (remaining_at forms x.mine) + crowd (remaining_at forms x.theirs))
          unfolding remaining_at
          threads_grown = omega (arith, m.grows.threads, n.grows.threads)

          names_grown : second.names ≡ min 1025 (z.names + (length (news (remaining_at forms x.mine)) + length (news (remaining_at forms x.theirs))))
          unfolding remaining_at
          names_grown = omega (arith, m.grows.names, n.grows.names)

          room_same : is_some r ≡ has_room (exchanged forms x cells state c d)
          unfolding has_room exchanged after room_for
          room_same =
              p.fits ∙ ap₂ (λ a b. a && b)
              (leb_cong (z.threads - 2 + second.threads) (length (join (set (set (singles state.threads) x.sender mine) x.receiver theirs))) 64
              (λ h. omega (arith, threads_grown, all_threads)) (λ h. omega (arith, threads_grown, all_threads)))
              (leb_cong second.names (length (state.types ++ new)) 1024
              (λ h. omega (arith, names_grown, all_names)) (λ h. omega (arith, names_grown, all_names)))

          abbrev fitted : Sizes
          fitted = record { threads = z.threads - 2 + second.threads; names = second.names; cells = second.cells }

          module _ (s : Sizes) (yes : r ≡ Some s) where
            few_made : z.threads - 2 + second.threads ≤ 64
            few_made = few_threads (z.threads - 2) (second) (sym p.fits ∙ ap is_some yes)

            few_given : second.names ≤ 1024
            few_given = few_names (z.threads - 2) (second) (sym p.fits ∙ ap is_some yes)

            few_first : first.threads ≤ 64
            few_first = omega (arith, few_made, mine_first)

            given_first : first.names ≤ 1024
            given_first = omega (arith, few_given, m.grows.names, n.grows.names)

            count_mine : length mine ≡ first.threads
            unfolding remaining_at
            count_mine = omega (arith, crowd_mine, m.grows.threads, few_first)

            names_mine : first.names ≡ length state.types + length (news (remaining_at forms x.mine))
            unfolding remaining_at
            names_mine = omega (arith, m.grows.names, given_first, named)

            new_names : second.names ≡ z.names + length new
            new_names = omega (arith, names_grown, new_length, few_given)

            made_mine : Pairs (Runs forms widened (cell + 1)) (take first.threads made₁) mine
            unfolding remaining_at
            made_mine =
                let made_threads = m.products few_first given_first c number_mine [] none in
                let mine_are : Pairs (Runs forms cells₁ cell) (take first.threads made₁) mine = rw (← named) at made_threads in
                all_kept_lem forms cells₁ widened cell (cell + 1) (bound_kept cells₁ cell cell x.theirs.env x.sent (omega arith)) (omega arith) mine_are

            made_both : Pairs (Runs forms cells' second.cells) (take (first.threads + (second.threads - first.threads)) made') (mine ++ theirs)
            unfolding remaining_at
            made_both =
                let all : first.threads + (second.threads - first.threads) ≡ second.threads = omega (arith, mine_first) in
                let both = n.products (omega (arith, few_made)) few_given d number_theirs mine made_mine in
                let both_are : Pairs (Runs forms cells' second.cells) (take second.threads made') (mine ++ theirs) = rw (names_theirs, names_mine) at both in
                rw all both_are

            threads_held : Pairs (Runs forms cells' second.cells) (take (z.threads - 2 + second.threads) threads')
                (swapped state.threads x.sender x.receiver mine theirs)
            threads_held =
                let stay = all_kept_lem forms cells cells' z.cells second.cells all_cells_kept (omega (arith, m.grows.cells, n.grows.cells)) holds.threads in
                rw (p.placed s yes) (pairs_swapped x.sender x.receiver stay
                (pairs_first first.threads (second.threads - first.threads) made' mine theirs made_both count_mine)
                (pairs_second first.threads (second.threads - first.threads) made' mine theirs made_both count_mine))

            types_held : take second.names types' ≡ state.types ++ new
            unfolding remaining_at
            types_held =
                n.given few_given
                ∙ ap (λ l. l ++ news (remaining_at forms x.theirs)) (m.given given_first ∙ ap (λ l. l ++ news (remaining_at forms x.mine)) holds.types)
                ∙ append_assoc state.types (news (remaining_at forms x.mine)) (news (remaining_at forms x.theirs))

            holds_fitted : Holds forms fitted (turns + 1) threads' types' known cells' (exchanged forms x cells state c d)
            unfolding exchanged after
            holds_fitted = record {
              few = few_made;
              given = few_given;
              slack = omega (arith, m.grows.slack, n.grows.slack, holds.slack);
              threads = rw joined threads_held;
              types = types_held;
              known =
                  ap (λ k. take k known) new_names
                  ∙ quiet_take known z.names (length new) (omega (arith, few_given, new_names)) holds.quiet
                  ∙ ap (λ l. l ++ replicate (length new) false) holds.known;
              quiet = λ i h. holds.quiet i (omega (arith, new_names));
            }

          holds_kept : r ≡ None → Keeps forms z threads threads' types types' known cells cells' state
          holds_kept full later top below held = record {
            few = held.few;
            given = held.given;
            slack = held.slack;
            threads = rw (p.kept full) (all_kept_lem forms cells cells' top top (shorter top z.cells cells' cells below all_cells_kept) (omega arith) held.threads);
            types = shorter z.names first.names types' types₁ (omega (arith, m.grows.names, holds.given)) n.before ∙ m.before ∙ held.types;
            known = held.known;
            quiet = held.quiet;
          }

          exchanges : Exchanges forms x z turns threads threads' types types' known cells cells' state c d r
          exchanges = record {
            fits = room_same;
            taken = λ s yes. rw (p.sizes s yes) (holds_fitted s yes);
            kept = holds_kept;
          }

    -- One walk after the other, and what they made put in its places.
    pub communicates : (Ready x.mine before made types cells
        → Makes forms x.mine (process_in x.mine.nest forms x.mine.at) before made made₁ types types₁ cells cells₁ first)
        → (cell ≤ 2300 → Ready place begun made₁ types₁ widened
        → Makes forms place (process_in place.nest forms place.at) begun made₁ made' types₁ types' widened cells' second)
        → (first.threads ≤ second.threads → PutsBoth z x (record { mine = first.threads; sizes = second }) made' threads threads' r)
        → Exchanges forms x z turns threads threads' types types' known cells cells' state c d r
    communicates walk_mine walk_theirs put =
        let m = walk_mine ready_mine in
        let n = walk_theirs (cell_left m) (ready_theirs m) in
        exchanges m n (put (mine_first m n))
