-- The functions that make the sums. Each lemma is one return, or one turn of a loop.
use Prim.Native.Nat.{ℕ, zero, suc, ◌+◌, ◌-◌, ◌*◌, ◌%◌, ◌≤◌, ◌<◌}
use mathlib.Core.Bool.{Bool, true, false, not, ◌||◌}
use mathlib.Core.List.{List, map}
use mathlib.Core.Path.{◌≡◌, refl, sym, ap, ◌∙◌}
use native.Mathlib.Omega.{arith}
use native.Mathlib.Decide.{ℕ_discrete}
use native.Mathlib.Numerals.{add-one}
use native.Mathlib.Nat.{mod-lt}
use mir.Syntax.{w64}
use mir.Val.{Fits}
use lib.Dec.{lit<, ltb}
use borrow.Author.Rules.{rules}
use borrow.Author.Tests.{lt-ltb, le-ltb, eq-eqb, ne_eqb, not-true, not-false}
use lib.ListN.{length, get_or, set, length-set}
use lib.Seq.{get_or-set_same, get_or-set_other}
use Rattle.reading.proofs.Tables.{unset, unread}
use Rattle.inference.specs.Lists.{rising}
use Rattle.inference.specs.Rows.{cell, is_set, group_count, group_at, row_groups, purpose_at}
use Rattle.sharing.specs.Sums.{key_of, row_key, first_with, class_from, class_of, added, sum_cell, add_at, add_places, add_kind, add_kinds, add_row, add_rows, any_shared, sum_at, needed_at}

-- The most that a key of so many groups can be, and one more.
unfoldable pub most : ℕ → ℕ
most zero = 1
most (suc n) = 65 * most n

most_seven : (n : ℕ) → n ≤ 7 → most n ≤ 4902227890625
unfolding most
most_seven zero h = omega arith
most_seven (suc zero) h = omega arith
most_seven (suc (suc zero)) h = omega arith
most_seven (suc (suc (suc zero))) h = omega arith
most_seven (suc (suc (suc (suc zero)))) h = omega arith
most_seven (suc (suc (suc (suc (suc zero))))) h = omega arith
most_seven (suc (suc (suc (suc (suc (suc zero)))))) h = omega arith
most_seven (suc (suc (suc (suc (suc (suc (suc zero))))))) h = omega arith
most_seven (suc (suc (suc (suc (suc (suc (suc (suc n)))))))) h = absurd (omega arith)

most_eight : (n : ℕ) → n ≤ 8 → most n ≤ 318644812890625
unfolding most
most_eight zero h = omega arith
most_eight (suc n) h = omega (arith, most_seven n (omega arith))

-- A key is made from the last group to the first.
pub record Keying (table : List ℕ) (component count place key : ℕ) : Type 0 where
  pub same : key ≡ key_of (map (group_at table component) (rising place (count - place)))
  pub small : key < most (count - place)
  pub within : place ≤ count
  pub few : count ≤ 8

pub key_first : (table : List ℕ) (component count : ℕ) → count ≤ 8 → Keying table component count count 0
unfolding key_of rising most
key_first table component count h =
    let z : count - count ≡ 0 = omega arith in
    record { same = rw z; small = rw z (omega arith); within = omega arith; few = h }

module _ (table : List ℕ) (component count place key : ℕ) (s : Keying table component count place key) where
  room : 0 < place → key < 4902227890625
  room h = omega (arith, s.small, most_seven (count - place) (omega (arith, s.few)))

  pub key_times : 0 < place → Fits w64 (key * 65)
  key_times h = omega (arith, room h)

  pub key_plus : (g : ℕ) → 0 < place → Fits w64 (key * 65 + (g % 64 + 1))
  key_plus g h = let digit : g % 64 < 64 = mod-lt g (lit< tt) in omega (arith, room h, digit)

  pub key_next : (v g : ℕ) → 0 < place → g ≡ group_at table component (place - 1) → v ≡ key * 65 + (g % 64 + 1) → Keying table component count (place - 1) v
  unfolding key_of rising most
  key_next v g h e f =
      let z : count - (place - 1) ≡ suc (count - place) = omega (arith, s.within) in
      let y : suc (place - 1) ≡ place = omega arith in
      let digit : g % 64 < 64 = mod-lt g (lit< tt) in
      record {
        same = rw (f, z, y, ← e, ← s.same);
        small = rw (f, z) (omega (arith, s.small, digit));
        within = omega (arith, s.within);
        few = s.few;
      }

  pub key_last : place ≤ 0 → count ≡ group_count table component → key ≡ key_of (row_groups table component)
  unfolding row_groups
  key_last h e =
      let z : place ≡ 0 = omega arith in
      let y : count - 0 ≡ count = omega arith in
      rw (← e, ← y, ← z) s.same

  pub key_few : place ≤ 0 → key < 318644812890625
  key_few h = omega (arith, s.small, most_eight (count - place) (omega (arith, s.few)))

pub ruleset key_steps = (rules, key_first, key_times, key_plus, key_next, key_last, key_few)

-- The purpose as one digit more.
pub class_fits : (key purpose : ℕ) → key < 318644812890625 → Fits w64 (key * 16 + purpose % 16)
class_fits key purpose h = let digit : purpose % 16 < 16 = mod-lt purpose (lit< tt) in omega arith

pub class_times : (key : ℕ) → key < 318644812890625 → Fits w64 (key * 16)
class_times key h = omega arith

pub row_key_is : (table : List ℕ) (component key purpose : ℕ) → key ≡ key_of (row_groups table component) → purpose ≡ purpose_at table component
    → key * 16 + purpose % 16 ≡ row_key table component
unfolding row_key
row_key_is table component key purpose e f = rw (e, f)

pub ruleset class_steps = (rules, class_fits, class_times, row_key_is)

-- Cells.
pub sum_place : (class kind place : ℕ) → class * 129 + (1 + (kind * 8 + place)) ≡ sum_cell class kind place
unfolding sum_cell
sum_place class kind place = refl

pub add_unlimited : (sum count : ℕ) → 65535 ≤ count → 4000000 ≡ added sum count
unfolding added
add_unlimited sum count h = rw (le-ltb count 65535 h)

pub add_finite : (sum count : ℕ) → count < 65535 → sum < 4000000 → sum + count ≡ added sum count
unfolding added
add_finite sum count h k = rw (lt-ltb count 65535 h, lt-ltb sum 4000000 k)

pub add_none : (sum count : ℕ) → count < 65535 → 4000000 ≤ sum → sum ≡ added sum count
unfolding added
add_none sum count h k = rw (lt-ltb count 65535 h, le-ltb sum 4000000 k)

pub joined_at_lem : (sums sums' : List ℕ) (at count old new : ℕ) → old ≡ get_or sums at 0 → new ≡ added old count → sums' ≡ set sums at (new % 4294967296) → sums' ≡ add_at sums at count
unfolding add_at
joined_at_lem sums sums' at count old new e f h = rw (← e, ← f) h

pub place_joined : (sums sums' : List ℕ) (class : ℕ) (table : List ℕ) (component kind place at own : ℕ) → at ≡ sum_cell class kind place → own ≡ cell table component kind place
    → sums' ≡ add_at sums at own → sums' ≡ add_at sums (sum_cell class kind place) (cell table component kind place)
place_joined sums sums' class table component kind place at own e f h = rw (← e, ← f) h

pub sum_told : (sums : List ℕ) (component kind place class at r : ℕ) → class ≡ get_or sums (component * 129) 0 → at ≡ sum_cell class kind place → r ≡ get_or sums at 0 → r ≡ sum_at sums component kind place
unfolding sum_at
sum_told sums component kind place class at r e f h = rw (← e, ← f) h

pub ruleset cell_steps = (rules, unset, unread, sum_place, add_unlimited, add_finite, add_none, joined_at_lem, place_joined, sum_told)

-- The places of a kind.
pub record Placing (first : List ℕ) (class : ℕ) (table : List ℕ) (component kind count : ℕ) (sums : List ℕ) (place : ℕ) : Type 0 where
  pub left : add_places sums class table component kind place (count - place) ≡ add_places first class table component kind 0 count
  pub same : length sums ≡ length first
  pub within : place ≤ count
  pub few : count ≤ 8

pub place_first : (sums : List ℕ) (class : ℕ) (table : List ℕ) (component kind count : ℕ) → count ≤ 8 → Placing sums class table component kind count sums 0
place_first sums class table component kind count h =
    let z : count - 0 ≡ count = omega arith in
    record { left = rw z; same = refl; within = omega arith; few = h }

module _ (first : List ℕ) (class : ℕ) (table : List ℕ) (component kind count : ℕ) (sums : List ℕ) (place : ℕ)
    (s : Placing first class table component kind count sums place) where
  pub place_next : (sums' : List ℕ) → place < count → sums' ≡ add_at sums (sum_cell class kind place) (cell table component kind place)
      → length sums' ≡ length sums → Placing first class table component kind count sums' (place + 1)
  unfolding add_places
  place_next sums' h g k =
      let z : count - place ≡ suc (count - suc place) = omega arith in
      record { left = rw (add-one, g) (rw z at s.left); same = k ∙ s.same; within = omega arith; few = s.few }

  pub place_last : (u : Bool) → u ≡ is_set (cell table component kind 11) → not u ≡ false → count ≡ group_count table component → count ≤ place
      → sums ≡ add_kind first class table component kind
  unfolding add_kind add_places
  place_last u e f g h =
      let z : count - place ≡ 0 = omega (arith, s.within) in
      rw (← e, not-false u f, ← g) (rw z at s.left)

pub place_none : (sums : List ℕ) (class : ℕ) (table : List ℕ) (component kind : ℕ) (u : Bool) → u ≡ is_set (cell table component kind 11) → not u ≡ true
    → sums ≡ add_kind sums class table component kind
unfolding add_kind
place_none sums class table component kind u e f = rw (← e, not-true u f)

pub ruleset place_steps = (rules, place_first, place_next, place_last, place_none)

-- The kinds of a component.
pub record Rowing (first : List ℕ) (class : ℕ) (table : List ℕ) (component : ℕ) (sums : List ℕ) (kind : ℕ) : Type 0 where
  pub left : add_kinds sums class table component kind (16 - kind) ≡ add_kinds first class table component 0 16
  pub same : length sums ≡ length first
  pub within : kind ≤ 16

module _ (first : List ℕ) (class : ℕ) (table : List ℕ) (component : ℕ) (sums : List ℕ) (kind : ℕ) (s : Rowing first class table component sums kind) where
  pub row_next : (sums' : List ℕ) → kind < 16 → sums' ≡ add_kind sums class table component kind → length sums' ≡ length sums
      → Rowing first class table component sums' (kind + 1)
  unfolding add_kinds
  row_next sums' h g k =
      let z : 16 - kind ≡ suc (16 - suc kind) = omega arith in
      record { left = rw (add-one, g) (rw z at s.left); same = k ∙ s.same; within = omega arith }

  pub row_last : (before : List ℕ) → first ≡ set before (component * 129) (class % 4294967296) → 16 ≤ kind → sums ≡ add_row before class table component
  unfolding add_row add_kinds
  row_last before e h =
      let z : 16 - kind ≡ 0 = omega (arith, s.within) in
      (rw z at s.left) ∙ ap (λ (l : List ℕ). add_kinds l class table component 0 16) e

pub ruleset row_steps = (rules, row_next, row_last)

-- The search for the first of a class.
pub record Seeking (keys : List ℕ) (component key m : ℕ) : Type 0 where
  pub same : first_with key keys 0 component ≡ first_with key keys m (component - m)
  pub within : m ≤ component
  pub there : component < length keys

pub seek_first : (keys : List ℕ) (component key : ℕ) → component < length keys → Seeking keys component key 0
seek_first keys component key h = record { same = let z : component - 0 ≡ component = omega arith in rw z; within = omega arith; there = h }

module _ (keys : List ℕ) (component key m : ℕ) (s : Seeking keys component key m) (is : key ≡ get_or keys component 0) where
  more : m < component → component - m ≡ suc (component - suc m)
  more h = omega arith

  pub seek_found : (v : ℕ) → m < component → v ≡ get_or keys m 0 → v ≡ key → m ≡ first_with (get_or keys component 0) keys 0 component
  unfolding first_with
  seek_found v h e f = rw (← is) (sym (rw (more h, ← e, eq-eqb v key f) at s.same))

  pub seek_last : component ≤ m → component ≡ first_with (get_or keys component 0) keys 0 component
  unfolding first_with
  seek_last h =
      let z : component - m ≡ 0 = omega arith in
      let y : m ≡ component = omega (arith, s.within) in
      rw (← is) (sym (rw (z, y) at s.same))

pub seek_next : (keys : List ℕ) (component key m : ℕ) → Seeking keys component key m → m < component → (get_or keys m 0 ≡ key → ⊥) → Seeking keys component key (m + 1)
unfolding first_with
seek_next keys component key m s h f =
    let more : component - m ≡ suc (component - suc m) = omega arith in
    record { same = rw add-one (rw (more, ne_eqb (get_or keys m 0) key f) at s.same); within = omega arith; there = s.there }

pub ruleset seek_steps = (rules, seek_first, seek_found, seek_next, seek_last)

-- The keys of the components before one.
pub record Known (table keys : List ℕ) (component : ℕ) : Type 0 where
  pub known : (j : ℕ) → j < component → get_or keys j 0 ≡ row_key table j
  pub full : length keys ≡ 32

none_known : (table keys : List ℕ) → length keys ≡ 32 → Known table keys 0
none_known table keys h = record { known = λ j l. absurd (omega arith); full = h }

-- the search among keys is the search among components
class_found : (table keys : List ℕ) (key at left : ℕ) → ((j : ℕ) → j < at + left → get_or keys j 0 ≡ row_key table j) → first_with key keys at left ≡ class_from key table at left
unfolding first_with class_from
class_found table keys key at zero h = refl
class_found table keys key at (suc left) h = rw (h at (omega arith), class_found table keys key (suc at) left (λ j l. h j (omega arith)))

-- with the component's own key
module _ (table keys : List ℕ) (component : ℕ) (s : Known table keys component) (small : component < 32) (key : ℕ) (is : key ≡ row_key table component) where
  known_more : Known table (set keys component key) (component + 1)
  known_more = record { known = λ j l. go j l (ℕ_discrete j component); full = length-set keys component key ∙ s.full }
    where
      go : (j : ℕ) → j < component + 1 → Dec (j ≡ component) → get_or (set keys component key) j 0 ≡ row_key table j
      go j l (yes e) = rw e (get_or-set_same keys component key 0 (omega (arith, s.full)) ∙ is ∙ unfold row_key in refl)
      go j l (no f) = get_or-set_other keys component j key 0 (λ q. f q) ∙ s.known j (omega (arith, f))

  class_is : (class : ℕ) → class ≡ first_with (get_or (set keys component key) component 0) (set keys component key) 0 component → class ≡ class_of table component
  unfolding class_of
  class_is class e =
      e ∙ ap (λ (k : ℕ). first_with k (set keys component key) 0 component) (known_more.known component (omega arith))
      ∙ class_found table (set keys component key) (row_key table component) 0 component (λ j l. known_more.known j (omega arith))

key_fits : (table keys : List ℕ) (component v : ℕ) → Known table keys component → component < 32 → component < length (set keys component v)
key_fits table keys component v s h = omega (arith, length-set keys component v, s.full)

-- The components of a table: their counts are joined.
pub record Summing (first table : List ℕ) (components : ℕ) (sums keys : List ℕ) (component : ℕ) : Type 0 where
  pub left : add_rows sums table component (components - component) ≡ add_rows first table 0 components
  pub same : length sums ≡ length first
  pub keyed : Known table keys component
  pub within : component ≤ components
  pub few : components ≤ 32

pub sum_first : (sums table : List ℕ) (components : ℕ) (keys : List ℕ) → components ≤ 32 → length keys ≡ 32 → Summing sums table components sums keys 0
sum_first sums table components keys h k = record {
  left = let z : components - 0 ≡ components = omega arith in rw z;
  same = refl;
  keyed = none_known table keys k;
  within = omega arith;
  few = h;
}

module _ (first table : List ℕ) (components : ℕ) (sums keys : List ℕ) (component : ℕ) (s : Summing first table components sums keys component) where
  pub sum_next : (key : ℕ) → key ≡ row_key table component → component < components → (class : ℕ) (sums' : List ℕ)
      → class ≡ first_with (get_or (set keys component key) component 0) (set keys component key) 0 component
      → sums' ≡ add_row sums class table component → length sums' ≡ length sums → Summing first table components sums' (set keys component key) (component + 1)
  unfolding add_rows
  sum_next key is h class sums' e f k =
      let z : components - component ≡ suc (components - suc component) = omega arith in
      let small : component < 32 = omega (arith, s.few) in
      record {
        left = rw (add-one, f, class_is table keys component s.keyed small key is class e) (rw z at s.left);
        same = k ∙ s.same;
        keyed = known_more table keys component s.keyed small key is;
        within = omega arith;
        few = s.few;
      }

  pub key_there : (v : ℕ) → component < components → component < length (set keys component v)
  key_there v h = key_fits table keys component v s.keyed (omega (arith, s.few))

  pub sum_last : components ≤ component → sums ≡ add_rows first table 0 components
  unfolding add_rows
  sum_last h = let z : components - component ≡ 0 = omega (arith, s.within) in rw z at s.left

pub ruleset sum_steps = (rules, sum_first, key_there, sum_next, sum_last)

-- The same components: each is compared with those before it, and none has shared so far.
pub record Comparing (table : List ℕ) (components : ℕ) (keys : List ℕ) (component : ℕ) : Type 0 where
  pub left : any_shared table component (components - component) ≡ any_shared table 0 components
  pub keyed : Known table keys component
  pub within : component ≤ components
  pub few : components ≤ 32

pub compare_first : (table : List ℕ) (components : ℕ) (keys : List ℕ) → components ≤ 32 → length keys ≡ 32 → Comparing table components keys 0
compare_first table components keys h k = record {
  left = let z : components - 0 ≡ components = omega arith in rw z;
  keyed = none_known table keys k;
  within = omega arith;
  few = h;
}

module _ (table : List ℕ) (components : ℕ) (keys : List ℕ) (component : ℕ) (s : Comparing table components keys component) where
  pub compare_there : (v : ℕ) → component < components → component < length (set keys component v)
  compare_there v h = key_fits table keys component v s.keyed (omega (arith, s.few))

  module _ (key : ℕ) (is : key ≡ row_key table component) (h : component < components) (class : ℕ)
      (e : class ≡ first_with (get_or (set keys component key) component 0) (set keys component key) 0 component) where
    turn : (ltb class component || any_shared table (suc component) (components - suc component)) ≡ any_shared table 0 components
    unfolding any_shared
    turn =
        let z : components - component ≡ suc (components - suc component) = omega arith in
        rw (class_is table keys component s.keyed (omega (arith, s.few)) key is class e) (rw z at s.left)

    pub compare_found : class < component → true ≡ any_shared table 0 components
    compare_found l = rw (lt-ltb class component l) at turn

    pub compare_next : component ≤ class → Comparing table components (set keys component key) (component + 1)
    compare_next l = record {
      left = rw add-one (rw (le-ltb class component l) at turn);
      keyed = known_more table keys component s.keyed (omega (arith, s.few)) key is;
      within = omega arith;
      few = s.few;
    }

  pub compare_last : components ≤ component → false ≡ any_shared table 0 components
  unfolding any_shared
  compare_last h = let z : components - component ≡ 0 = omega (arith, s.within) in rw z at s.left

pub ruleset compare_steps = (rules, compare_first, compare_there, compare_found, compare_next, compare_last)

-- What a class needs, with sums and without.
module _ (sums table : List ℕ) (component kind place : ℕ) where
  pub own_needed : (count r : ℕ) → length sums ≡ 0 → count ≡ cell table component kind place → r ≡ added 0 count → r ≡ needed_at sums table component kind place
  unfolding needed_at
  own_needed count r h e f = rw (eq-eqb (length sums) 0 h, ← e) f

  pub sum_needed : (r : ℕ) → (length sums ≡ 0 → ⊥) → r ≡ sum_at sums component kind place → r ≡ needed_at sums table component kind place
  unfolding needed_at
  sum_needed r h e = rw (ne_eqb (length sums) 0 h) e

pub ruleset needed_steps = (rules, own_needed, sum_needed)
