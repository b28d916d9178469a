-- Bytes stored one after another: parts stored in turn are the whole stored at once, and a loop that stores or counts a part in
-- each turn ends with all of them.
use Prim.Native.Nat.{ℕ, zero, suc, ◌+◌, ◌-◌, ◌*◌, ◌%◌, ◌≤◌, ◌<◌}
use mathlib.Core.List.{List, [], ◌∷◌, ◌++◌, append_assoc}
use mathlib.Core.Path.{◌≡◌, refl, ap, ◌∙◌}
use native.Mathlib.Nat.{mul-suc, mul-le-mul_left, mod-eq_of_lt}
use native.Mathlib.Numerals.{add-one}
use native.Mathlib.Omega.{arith}
use mir.Syntax.{w64}
use mir.Val.{Fits}
use lib.ListN.{length, drop, set, length-append, length-set}
use lib.Seq.{set-append_seam}
use Rattle.inference.specs.Lists.{gather, rising}
use Rattle.interface.specs.Writes.{store_bytes, Stored}

-- Storing.
pub store_more : (xs ys out : List ℕ) (at : ℕ) → store_bytes (store_bytes out at xs) (at + length xs) ys ≡ store_bytes out at (xs ++ ys)
unfolding store_bytes
store_more [] ys out at = let z : at + 0 ≡ at = omega arith in rw z
store_more (x ∷ xs) ys out at =
    let z : at + suc (length xs) ≡ at + 1 + length xs = omega arith in rw z (store_more xs ys (set out at (x % 256)) (at + 1))

pub store_length : (xs out : List ℕ) (at : ℕ) → length (store_bytes out at xs) ≡ length out
unfolding store_bytes
store_length [] out at = refl
store_length (x ∷ xs) out at = store_length xs (set out at (x % 256)) (at + 1) ∙ length-set out at (x % 256)

pub stored_none : (out : List ℕ) (at : ℕ) → Stored out out at [] at
unfolding store_bytes
stored_none out at = record { next = omega arith; left = refl }

module _ {o o' o'' : List ℕ} {at m r : ℕ} {xs ys : List ℕ} where
  pub stored_more : Stored o o' at xs m → Stored o' o'' m ys r → Stored o o'' at (xs ++ ys) r
  stored_more s t = record {
    next = omega (arith, s.next, t.next, length-append xs ys);
    left = t.left ∙ rw (s.left, s.next) (store_more xs ys o at);
  }

-- The numbers from i on below n.
pub rising_next : (i n : ℕ) → i < n → rising i (n - i) ≡ i ∷ rising (i + 1) (n - (i + 1))
unfolding rising
rising_next i n h = let z : n - i ≡ suc (n - (i + 1)) = omega arith in rw (z, add-one)

pub rising_done : (i n : ℕ) → n ≤ i → rising i (n - i) ≡ []
unfolding rising
rising_done i n h = let z : n - i ≡ 0 = omega arith in rw z

-- What the parts from i on make together.
unfoldable pub parts_from : {A : Type 0} → (ℕ → List A) → ℕ → ℕ → List A
parts_from f n i = gather f (rising i (n - i))

module _ {A : Type 0} (f : ℕ → List A) (n i : ℕ) where
  pub parts_next : i < n → parts_from f n i ≡ f i ++ parts_from f n (i + 1)
  unfolding parts_from gather
  parts_next h = rw (rising_next i n h)

  pub parts_done : n ≤ i → parts_from f n i ≡ []
  unfolding parts_from gather
  parts_done h = rw (rising_done i n h)

-- A turn of a loop over parts of at most b each.
grown : (b i m k : ℕ) → m ≤ b * i → k ≤ b → m + k ≤ b * (i + 1)
grown b i m k h l = rw (add-one, mul-suc) (omega arith)

-- Writing: what is left to store makes of the output now what all of it makes of the output at first.
pub record Writing (f : ℕ → List ℕ) (b n : ℕ) (first : List ℕ) (start : ℕ) (out : List ℕ) (next i : ℕ) : Type 0 where
  pub within : i ≤ n
  pub few : (j : ℕ) → length (f j) ≤ b
  pub near : next ≤ start + b * i
  pub same : length out ≡ length first
  pub whole : store_bytes out next (parts_from f n i) ≡ store_bytes first start (parts_from f n 0)
  pub place : next + length (parts_from f n i) ≡ start + length (parts_from f n 0)

pub write_first : (f : ℕ → List ℕ) (b n : ℕ) (out : List ℕ) (at : ℕ) → ((j : ℕ) → length (f j) ≤ b) → Writing f b n out at out at 0
write_first f b n out at k = record { within = omega arith; few = k; near = omega arith; same = refl; whole = refl; place = refl }

module _ {f : ℕ → List ℕ} {b n : ℕ} {first : List ℕ} {start : ℕ} {out : List ℕ} {next i : ℕ} where
  pub write_next : {out' : List ℕ} {r : ℕ} → Writing f b n first start out next i → i < n → Stored out out' next (f i) r
      → Writing f b n first start out' r (i + 1)
  write_next {out'} {r} w h s = record {
    within = omega arith;
    few = w.few;
    near = let g : next - start + length (f i) ≤ b * (i + 1) = grown b i (next - start) (length (f i)) (omega (arith, w.near)) (w.few i) in
        omega (arith, s.next);
    same = ap length s.left ∙ store_length (f i) out next ∙ w.same;
    whole = rw (s.left, s.next, store_more) (rw (parts_next f n i h) at w.whole);
    place = let g : next + length (f i ++ parts_from f n (i + 1)) ≡ start + length (parts_from f n 0) = rw (parts_next f n i h) at w.place in
        omega (arith, s.next, length-append (f i) (parts_from f n (i + 1)));
  }

  pub write_last : Writing f b n first start out next i → n ≤ i → Stored first out start (parts_from f n 0) next
  unfolding store_bytes
  write_last w h = record {
    next = let g : next + length {A = ℕ} [] ≡ start + length (parts_from f n 0) = rw (parts_done f n i h) at w.place in omega arith;
    left = rw (parts_done f n i h) at w.whole;
  }

-- Counting: what is counted and what is left are all.
pub record Counting {A : Type 0} (f : ℕ → List A) (b n len i : ℕ) : Type 0 where
  pub within : i ≤ n
  pub few : (j : ℕ) → length (f j) ≤ b
  pub near : len ≤ b * i
  pub whole : len + length (parts_from f n i) ≡ length (parts_from f n 0)

pub count_first : {A : Type 0} (f : ℕ → List A) (b n : ℕ) → ((j : ℕ) → length (f j) ≤ b) → Counting f b n 0 0
count_first f b n k = record { within = omega arith; few = k; near = omega arith; whole = omega arith }

module _ {A : Type 0} {f : ℕ → List A} {b n len i : ℕ} (w : Counting f b n len i) where
  pub count_next : (v : ℕ) → i < n → v ≡ length (f i) → Counting f b n (len + v) (i + 1)
  count_next v h e = record {
    within = omega arith;
    few = w.few;
    near = grown b i len v w.near (omega (arith, w.few i));
    whole = let g : len + length (f i ++ parts_from f n (i + 1)) ≡ length (parts_from f n 0) = rw (parts_next f n i h) at w.whole in
        omega (arith, length-append (f i) (parts_from f n (i + 1)));
  }

  pub count_last : n ≤ i → len ≡ length (parts_from f n 0)
  count_last h = let g : len + length {A = A} [] ≡ length (parts_from f n 0) = rw (parts_done f n i h) at w.whole in omega arith

  -- and the sum is in range
  pub count_fits : (v : ℕ) → i < n → v ≡ length (f i) → b * n < 4294967296 → Fits w64 (len + v)
  count_fits v h e k = record {
    fits = let g : len + v ≤ b * (i + 1) = (count_next v h e).near in
        let m : b * (i + 1) ≤ b * n = mul-le-mul_left b (omega arith) in omega arith;
  }

-- Numbers that are bytes.
pub data Bytes : List ℕ → Type 0 where
  no_byte : Bytes []
  a_byte : {x : ℕ} {xs : List ℕ} → x < 256 → Bytes xs → Bytes (x ∷ xs)

pub bytes_append : {xs ys : List ℕ} → Bytes xs → Bytes ys → Bytes (xs ++ ys)
bytes_append no_byte b = b
bytes_append (a_byte h a) b = a_byte h (bytes_append a b)

bytes_from : (f : ℕ → List ℕ) (n i : ℕ) → ((j : ℕ) → j < i + n → Bytes (f j)) → Bytes (gather f (rising i n))
unfolding gather rising
bytes_from f zero i h = no_byte
bytes_from f (suc n) i h = bytes_append (h i (omega arith)) (bytes_from f n (suc i) (λ j k. h j (omega arith)))

pub bytes_parts : (f : ℕ → List ℕ) (n : ℕ) → ((j : ℕ) → j < n → Bytes (f j)) → Bytes (parts_from f n 0)
unfolding parts_from
bytes_parts f n h = bytes_from f (n - 0) 0 (λ j k. h j (omega arith))

-- Bytes that have room stand in the output as they are, and what lies after them is as it was.
store_after : {bs : List ℕ} (p out : List ℕ) → Bytes bs → length bs ≤ length out
    → store_bytes (p ++ out) (length p) bs ≡ p ++ (bs ++ drop (length bs) out)
unfolding store_bytes
store_after p out no_byte h = refl
store_after p [] (a_byte k b) h = absurd (omega arith)
store_after {bs = x ∷ bs} p (y ∷ out) (a_byte k b) h =
    rw (set-append_seam p y out (x % 256), mod-eq_of_lt k, ← here, ← place, store_after (p ++ (x ∷ [])) out b (omega arith), append_assoc)
  where
    here : (p ++ (x ∷ [])) ++ out ≡ p ++ (x ∷ out)
    here = append_assoc p (x ∷ []) out

    place : length (p ++ (x ∷ [])) ≡ length p + 1
    place = length-append p (x ∷ [])

pub store_all : {bs : List ℕ} (out : List ℕ) → Bytes bs → length bs ≤ length out → store_bytes out 0 bs ≡ bs ++ drop (length bs) out
store_all out b h = store_after [] out b h
