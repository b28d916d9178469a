-- Rows of the table, items of a list and kinds of the trees, one by one: how a loop that goes over them with a number i unrolls its
-- definition.
use Prim.Native.Nat.{ℕ, zero, suc, ◌+◌, ◌-◌, ◌*◌, ◌<◌, ◌≤◌}
use mathlib.Core.List.{List, [], ◌∷◌}
use mathlib.Core.Path.{◌≡◌, refl}
use native.Mathlib.Numerals.{add-one}
use native.Mathlib.Omega.{arith}
use lib.ListN.{get_or, length, take, drop, length-take, drop_of_length-le}
use lib.Seq.{drop-cons, get_or-take}
use Rattle.inference.specs.Lists.{rising}
use Rattle.policy.specs.Rows.{node_at, word_in, items_at, flat_of, flats}

module _ (c nodes : List ℕ) (i to : ℕ) where
  pub flats_more : i < to → flats c nodes i (to - i) ≡ flat_of c (node_at nodes i) ∷ flats c nodes (i + 1) (to - (i + 1))
  unfolding flats rising
  flats_more h = let e : to - i ≡ suc (to - (i + 1)) = omega arith in rw (e, add-one)

  pub flats_none : to ≤ i → flats c nodes i (to - i) ≡ []
  unfolding flats rising
  flats_none h = let e : to - i ≡ 0 = omega arith in rw e

module _ (c : List ℕ) (n at i : ℕ) where
  pub items_more : i < n → items_at (n - i) c (at + 3 * i)
      ≡ record { group = get_or c (at + 3 * i) 0; count = word_in c (at + 3 * i + 1) } ∷ items_at (n - (i + 1)) c (at + 3 * (i + 1))
  unfolding items_at
  items_more h =
      let e : n - i ≡ suc (n - (i + 1)) = omega arith in
      let k : at + 3 * (i + 1) ≡ at + 3 * i + 3 = omega arith in
      rw (e, k)

  pub items_none : n ≤ i → items_at (n - i) c (at + 3 * i) ≡ []
  unfolding items_at
  items_none h = let e : n - i ≡ 0 = omega arith in rw e

pub items_all : (c : List ℕ) (n at : ℕ) → items_at (n - 0) c (at + 3 * 0) ≡ items_at n c at
items_all c n at = let e : n - 0 ≡ n = omega arith in let k : at + 3 * 0 ≡ at = omega arith in cc

pub items_count : (n : ℕ) (c : List ℕ) (at : ℕ) → length (items_at n c at) ≡ n
unfolding items_at
items_count zero c at = refl
items_count (suc n) c at = rw (items_count n c (at + 3))

-- The kinds from the i-th on: the i-th, and those after it.
pub kinds_more : (kinds : List ℕ) (len i : ℕ) → length kinds ≡ 16 → len ≤ 16 → i < len
    → drop i (take len kinds) ≡ get_or kinds i 0 ∷ drop (i + 1) (take len kinds)
kinds_more kinds len i l few h = rw (drop-cons (take len kinds) i 0 (omega (arith, length-take len kinds)), get_or-take, add-one)

pub kinds_none : (kinds : List ℕ) (len i : ℕ) → len ≤ i → drop i (take len kinds) ≡ []
kinds_none kinds len i h = drop_of_length-le (take len kinds) {i = i} (omega (arith, length-take len kinds))
