-- What a disclose list that was read holds: its items stand one after another from its place on.
use Prim.Native.Nat.{ℕ, zero, suc, ◌+◌, ◌*◌, ◌<◌}
use mathlib.Core.Bool.{Bool, true, false, cond}
use mathlib.Core.List.{List, [], ◌∷◌}
use mathlib.Core.Path.{◌≡◌, refl, sym, ap, ◌∙◌}
use native.Mathlib.Omega.{arith}
use borrow.Author.Tests.{ltb-true}
use lib.Dec.{ltb, leb}
use lib.ListN.{length, get_or}
use Rattle.reading.proofs.Parts.{never, parts, Passed, passed, byte_found, below_found}
use Rattle.reading.specs.Read.{Read, got, refused, and_then, byte_at, below}
use Rattle.policy.specs.Syntax.{Granted}
use Rattle.policy.specs.Reading.{must, two_bytes, is_count, item_at, read_list}
use Rattle.policy.specs.Rows.{word_in, items_at}

-- What must hold held.
pub held : {A : Type 0} (t : Bool) (at : ℕ) (x : Read A) {a : A} {k : ℕ} → must t at x ≡ got a k → Passed t x a k
unfolding must
held true at x e = record { test = refl; then = e }
held false at x e = never e

-- A byte, and one below a bound, by its place.
pub record ByteIs (s : List ℕ) (at b k : ℕ) : Type 0 where
  pub value : b ≡ get_or s at 0
  pub next : k ≡ at + 1
  pub inside : at < length s

pub byte_is : (s : List ℕ) (at : ℕ) {b k : ℕ} → byte_at s at ≡ got b k → ByteIs s at b k
byte_is s at {b} {k} e =
    let h = byte_found s at e in
    let v : get_or s at 0 ≡ b = cc in
    let n : at + 1 ≡ k = cc in
    record { value = sym v; next = sym n; inside = ltb-true at (length s) h.test }

pub below_is : (n : ℕ) (s : List ℕ) (at : ℕ) {b k : ℕ} → below n s at ≡ got b k → ByteIs s at b k
unfolding below
below_is n s at {b} {k} e =
    let h = parts (byte_at s at) (λ b next. cond (ltb b n) (got b next) (refused 4 at)) e in
    let g = passed (ltb h.value n) (got h.value h.place) 4 at h.rest in
    let i = byte_is s at h.first in
    let v : h.value ≡ b = cc in
    let w : h.place ≡ k = cc in
    record { value = sym v ∙ i.value; next = sym w ∙ i.next; inside = i.inside }

pub record WordIs (s : List ℕ) (at v k : ℕ) : Type 0 where
  pub value : v ≡ word_in s at
  pub next : k ≡ at + 2

two_bytes_lem : (s : List ℕ) (at a b m k : ℕ) → ByteIs s at a m → ByteIs s m b k → WordIs s at (a + 256 * b) k
unfolding word_in
two_bytes_lem s at a b m k h g = record { value = rw (h.value, g.value, h.next); next = rw (g.next, h.next) (omega arith) }

pub word_is : (s : List ℕ) (at : ℕ) {v k : ℕ} → two_bytes s at ≡ got v k → WordIs s at v k
unfolding two_bytes
word_is s at {v} {k} e =
    let h = parts (byte_at s at) (λ low m. and_then (byte_at s m) (λ high k. got (low + 256 * high) k)) e in
    let g = parts (byte_at s h.place) (λ high k. got (h.value + 256 * high) k) h.rest in
    let w = two_bytes_lem s at h.value g.value h.place g.place (byte_is s at h.first) (byte_is s h.place g.first) in
    let x : h.value + 256 * g.value ≡ v = cc in
    let y : g.place ≡ k = cc in
    record { value = sym x ∙ w.value; next = sym y ∙ w.next }

-- An item.
pub record ItemIs (s : List ℕ) (at : ℕ) (d : Granted) (k : ℕ) : Type 0 where
  pub item : d ≡ record { group = get_or s at 0; count = word_in s (at + 1) }
  pub next : k ≡ at + 3
  pub small : d.group < 64

group_and_count : (s : List ℕ) (at g m v k : ℕ) → ByteIs s at g m → WordIs s m v k → g < 64 → ItemIs s at (record { group = g; count = v }) k
group_and_count s at g m v k b w l = record { item = rw (w.value, b.next, b.value); next = rw (w.next, b.next) (omega arith); small = l }

pub item_is : (s : List ℕ) (lowest at : ℕ) {d : Granted} {k : ℕ} → item_at s lowest at ≡ got d k → ItemIs s at d k
unfolding item_at
item_is s lowest at {d} {k} e =
    let h = parts (below 64 s at) (λ g m. must (leb lowest g) at (and_then (two_bytes s m) (λ c k. must (is_count c) m (got (record { group = g; count = c }) k)))) e in
    let i = held (leb lowest h.value) at (and_then (two_bytes s h.place) (λ c k. must (is_count c) h.place (got (record { group = h.value; count = c }) k))) h.rest in
    let j = parts (two_bytes s h.place) (λ c k. must (is_count c) h.place (got (record { group = h.value; count = c }) k)) i.then in
    let l = held (is_count j.value) h.place (got (record { group = h.value; count = j.value }) j.place) j.rest in
    let w = group_and_count s at h.value h.place j.value j.place (below_is 64 s at h.first) (word_is s h.place j.first) (below_found 64 s at h.first) in
    let z : record { group = h.value; count = j.value } ≡ d = cc in
    let y : j.place ≡ k = cc in
    record { item = sym z ∙ w.item; next = sym y ∙ w.next; small = rw (ap (λ (x : Granted). x.group) z) at w.small }

-- A list of n items.
pub record ListIs (s : List ℕ) (at n : ℕ) (ds : List Granted) : Type 0 where
  pub items : ds ≡ items_at n s at
  pub count : length ds ≡ n

one_item : (s : List ℕ) (at n : ℕ) (d : Granted) (m : ℕ) (ds : List Granted) → ItemIs s at d m → ListIs s m n ds → ListIs s at (suc n) (d ∷ ds)
unfolding items_at
one_item s at n d m ds h r = record { items = rw (h.item, r.items, h.next); count = ap suc r.count }

pub list_is : (n : ℕ) (s : List ℕ) (lowest at : ℕ) {ds : List Granted} {k : ℕ} → read_list n s lowest at ≡ got ds k → ListIs s at n ds
unfolding read_list items_at
list_is zero s lowest at {ds} e = let z : [] ≡ ds = cc in record { items = sym z; count = ap length (sym z) }
list_is (suc n) s lowest at {ds} e =
    let h = parts (item_at s lowest at) (λ d m. and_then (read_list n s (d.group + 1) m) (λ rest k. got (d ∷ rest) k)) e in
    let i = parts (read_list n s (h.value.group + 1) h.place) (λ rest k. got (h.value ∷ rest) k) h.rest in
    let r = one_item s at n h.value h.place i.value (item_is s lowest at h.first) (list_is n s (h.value.group + 1) h.place i.first) in
    let z : h.value ∷ i.value ≡ ds = cc in
    record { items = sym z ∙ r.items; count = ap length (sym z) ∙ r.count }
