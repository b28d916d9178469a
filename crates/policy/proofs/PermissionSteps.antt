-- How a permission map with its list and its purposes is read, step by step, and that what is stored of it fits.
use Prim.Native.Nat.{ℕ, ◌+◌, ◌<◌, ◌≤◌}
use mathlib.Core.Bool.{Bool, true, false, cond}
use mathlib.Core.List.{List, []}
use mathlib.Core.Path.{◌≡◌, refl, sym, ap, ◌∙◌}
use native.Mathlib.Omega.{arith}
use lib.Dec.{ltb}
use lib.ListN.{length, get_or}
use mir.Syntax.{w8, w64}
use mir.Val.{Fits}
use Rattle.std.specs.Prelude.{Result, Ok, Err}
use Rattle.reading.proofs.Parts.{never, parts, below_found}
use Rattle.reading.proofs.Steps.{steps}
use Rattle.reading.specs.Read.{Read, got, refused, and_then, below}
use Rattle.reading.specs.Questions.{number_of}
use Rattle.reading.specs.Told.{number}
use Rattle.reading.specs.declared.Number.{Number}
use Rattle.reading.specs.declared.Refusal.{Refusal}
use Rattle.policy.proofs.ListLaws.{ByteIs, below_is, word_is, list_is, held}
use Rattle.policy.specs.Syntax.{Granted, has_bit}
use Rattle.policy.specs.Reading.{must, two_bytes, read_list, counted_list, read_purposes, maps_in, read_permissions_in, read_permissions}
use Rattle.policy.specs.Rows.{word_in, items_at, permissions_of}
use Rattle.policy.specs.Loads.{count_only, PermissionsFit}
use Rattle.policy.specs.declared.Permissions.{Permissions as Stored}

-- The list that a map announces, and its purposes.
abbrev list_for : ℕ → List ℕ → ℕ → Read (List Granted)
list_for map s at = cond (has_bit 16 map) (counted_list s at) (got [] at)

module _ (map : ℕ) (s : List ℕ) (at : ℕ) (b : Bool) where
  pub a_list : (y : Read ℕ) → b ≡ has_bit 16 map → b ≡ true → y ≡ count_only (counted_list s at) → y ≡ count_only (cond (has_bit 16 map) (counted_list s at) (got [] at))
  a_list y e h k = rw (← e, h) k

  pub no_list : b ≡ has_bit 16 map → b ≡ false → got 0 at ≡ count_only (cond (has_bit 16 map) (counted_list s at) (got [] at))
  unfolding count_only
  no_list e h = rw (← e, h)

  pub some_purposes : (y : Read ℕ) → b ≡ has_bit 32 map → b ≡ true → y ≡ two_bytes s at → y ≡ read_purposes map s at
  unfolding read_purposes
  some_purposes y e h k = rw (← e, h) k

  pub all_purposes : b ≡ has_bit 32 map → b ≡ false → got 65535 at ≡ read_purposes map s at
  unfolding read_purposes
  all_purposes e h = rw (← e, h)

pub ruleset announced_steps = (steps, a_list, no_list, some_purposes, all_purposes)

-- A list that was read, where only its length was kept; where none is announced, its length is 0.
record ListOf (map : ℕ) (s : List ℕ) (at v k : ℕ) : Type 0 where
  is : list_for map s at ≡ got (items_at v s (at + 1)) k
  few : v < 65

counted_of : (s : List ℕ) (at : ℕ) (ds : List Granted) (k : ℕ) → counted_list s at ≡ got ds k → (ds ≡ items_at (length ds) s (at + 1)) × (length ds < 65)
unfolding counted_list
counted_of s at ds k e =
    let h = parts (below 65 s at) (λ n m. must (ltb 0 n) at (read_list n s 0 m)) e in
    let i = held (ltb 0 h.value) at (read_list h.value s 0 h.place) h.rest in
    let l = list_is h.value s 0 h.place i.then in
    let b = below_is 65 s at h.first in
    let z : items_at h.value s h.place ≡ items_at (length ds) s (at + 1) = ap (λ (n : ℕ). items_at n s h.place) (sym l.count) ∙ ap (λ (n : ℕ). items_at (length ds) s n) b.next in
    (l.items ∙ z, omega (arith, l.count, below_found 65 s at h.first))

list_got : (map : ℕ) (s : List ℕ) (at : ℕ) {v k : ℕ} → got v k ≡ count_only (list_for map s at) → ListOf map s at v k
unfolding count_only items_at
list_got map s at {v} {k} h = by_bit (has_bit 16 map) refl h
  where
    counted : (x : Read (List Granted)) → counted_list s at ≡ x → has_bit 16 map ≡ true → got v k ≡ count_only x → ListOf map s at v k
    counted (got ds m) e t h =
        let z : length ds ≡ v = cc in
        let y : m ≡ k = cc in
        let l = counted_of s at ds m e in
        record { is = rw t (e ∙ rw (← z, ← y) (ap (λ (l : List Granted). got l m) l.0)); few = omega (arith, l.1) }
    counted (refused q p) e t h = never (sym h)

    by_bit : (b : Bool) → has_bit 16 map ≡ b → got v k ≡ count_only (cond b (counted_list s at) (got [] at)) → ListOf map s at v k
    by_bit true t h = counted (counted_list s at) refl t h
    by_bit false t h =
        let z : v ≡ 0 = cc in
        let y : k ≡ at = cc in
        record { is = rw (t, z, y); few = omega arith }

list_not : (x : Read (List Granted)) {q p : ℕ} → refused q p ≡ count_only x → x ≡ refused q p
unfolding count_only
list_not (got d m) h = never h
list_not (refused a b) {q} {p} h = let v : a ≡ q = cc in let w : b ≡ p = cc in rw (v, w)

-- The purposes that were read are sixteen bits.
purposes_low : (map : ℕ) (s : List ℕ) (at : ℕ) {v k : ℕ} → ((i : ℕ) → Fits w8 (get_or s i 0)) → read_purposes map s at ≡ got v k → v < 65536
unfolding read_purposes word_in
purposes_low map s at {v} {k} g e = by_bit (has_bit 32 map) e
  where
    two : two_bytes s at ≡ got v k → v < 65536
    two h = omega (arith, (word_is s at h).value, g at, g (at + 1))

    by_bit : (b : Bool) → cond b (two_bytes s at) (got 65535 at) ≡ got v k → v < 65536
    by_bit true h = two h
    by_bit false h = let z : 65535 ≡ v = cc in omega arith

-- Permissions: the map, the list and the purposes.
module _ (s : List ℕ) (at : ℕ) (r : Result Number Refusal) (e : number r ≡ below 64 s at) where
  pub map_refused : (w : Refusal) → r ≡ Err w → refused (number_of w.question) w.at ≡ read_permissions s at
  unfolding maps_in read_permissions_in and_then
  map_refused w f = let z = sym (rw f at e) in rw z

  module _ (m : Number) (f : r ≡ Ok m) where
    map_place : ByteIs s at m.value m.next
    map_place = below_is 64 s at {b = m.value} {k = m.next} (rw f at (sym e))

    map_low : m.value < 64
    map_low = below_found 64 s at {b = m.value} {k = m.next} (rw f at (sym e))

    map_read : read_permissions s at ≡ and_then (list_for m.value s m.next) (λ list k.
        and_then (read_purposes m.value s k) (λ purposes e. got (record { map = m.value; list = list; purposes = purposes }) e))
    unfolding maps_in read_permissions_in and_then
    map_read = let z = sym (rw f at e) in rw z

    pub list_place_lem : length s ≤ 4096 → Fits w64 (m.next + 1)
    list_place_lem q = record { fits = omega (arith, map_place.next, map_place.inside) }

    module _ (c : Result Number Refusal) (i : number c ≡ count_only (cond (has_bit 16 m.value) (counted_list s m.next) (got [] m.next))) where
      pub list_refused : (w : Refusal) → c ≡ Err w → refused (number_of w.question) w.at ≡ read_permissions s at
      unfolding and_then
      list_refused w j = rw (map_read, list_not (list_for m.value s m.next) {q = number_of w.question} {p = w.at} (rw j at i))

      module _ (n : Number) (j : c ≡ Ok n) where
        list_of : ListOf m.value s m.next n.value n.next
        list_of = list_got m.value s m.next {v = n.value} {k = n.next} (rw j at i)

        list_read : read_permissions s at ≡ and_then (read_purposes m.value s n.next) (λ purposes e.
            got (record { map = m.value; list = items_at n.value s (m.next + 1); purposes = purposes }) e)
        unfolding and_then
        list_read = rw (map_read, list_of.is)

        module _ (p : Result Number Refusal) (l : number p ≡ read_purposes m.value s n.next) where
          pub purposes_refused : (w : Refusal) → p ≡ Err w → refused (number_of w.question) w.at ≡ read_permissions s at
          unfolding and_then
          purposes_refused w o = let z = sym (rw o at l) in rw (list_read, z)

          module _ (v : Number) (o : p ≡ Ok v) (w : Stored) (a : w.map ≡ m.value) (b : w.list ≡ m.next + 1) (d : w.count ≡ n.value) (g : w.purposes ≡ v.value) where
            pub permissions_are : got (permissions_of s w) v.next ≡ read_permissions s at
            unfolding and_then permissions_of
            permissions_are = let z = sym (rw o at l) in rw (list_read, z, a, b, d, g)

            pub permissions_fit : ((x : ℕ) → Fits w8 (get_or s x 0)) → length s ≤ 4096 → PermissionsFit w
            permissions_fit t q = record {
              small_map = omega (arith, map_low);
              small_list = omega (arith, map_place.next, map_place.inside);
              small_count = omega (arith, list_of.few);
              small_purposes = omega (arith, purposes_low m.value s n.next {v = v.value} {k = v.next} t (rw o at (sym l)));
            }

pub ruleset permission_steps = (steps, map_refused, list_place_lem, list_refused, purposes_refused, permissions_are, permissions_fit)
