-- Laws of the text: how long its parts are at most, and that groups and items stored part by part are the whole.
use Prim.Native.Nat.{ℕ, zero, suc, ◌+◌, ◌-◌, ◌*◌, ◌/◌, ◌%◌, ◌≤◌}
use mathlib.Core.Bool.{Bool, true, false, cond}
use mathlib.Core.List.{List, [], ◌∷◌, ◌++◌}
use mathlib.Core.Path.{◌≡◌, refl}
use native.Mathlib.Omega.{arith}
use lib.Dec.{ltb, eqb}
use lib.ListN.{length, get_or, length-append}
use Rattle.inference.specs.Lists.{gather, rising}
use Rattle.interface.proofs.WriteLaws.{parts_from}
use Rattle.listing.specs.Text.{decimal_of, decimal, dots, count_text, item_text, text_of, items_text, item_at, items_at, bytes_at}

few_of : (b : Bool) (k : ℕ) (xs ys : List ℕ) → length xs ≤ k → length ys ≤ k → length (cond b xs ys) ≤ k
few_of true k xs ys h l = h
few_of false k xs ys h l = l

-- A number has at most as many digits as it is given.
digits_few : (d n : ℕ) → length (decimal_of d n) ≤ d
unfolding decimal_of
digits_few zero n = omega arith
digits_few (suc d) n =
    few_of (ltb n 10) (suc d) ((48 + n) ∷ []) (decimal_of d (n / 10) ++ ((48 + n % 10) ∷ [])) (omega arith)
    (omega (arith, length-append (decimal_of d (n / 10)) ((48 + n % 10) ∷ []), digits_few d (n / 10)))

decimal_few : (n : ℕ) → length (decimal n) ≤ 5
unfolding decimal
decimal_few n = digits_few 5 n

-- A group after a dot, and what they make together.
unfoldable pub dot_at : List ℕ → ℕ → ℕ → List ℕ
dot_at s from j = 46 ∷ decimal (get_or s (from + j) 0)

pub dot_few : (s : List ℕ) (from j : ℕ) → length (dot_at s from j) ≤ 6
unfolding dot_at
dot_few s from j = omega (arith, decimal_few (get_or s (from + j) 0))

dots_from : (s : List ℕ) (from n i : ℕ) → gather (dot_at s from) (rising i n) ≡ dots (bytes_at n s (from + i))
unfolding gather rising dots bytes_at dot_at
dots_from s from zero i = refl
dots_from s from (suc n) i =
    let z : from + i + 1 ≡ from + suc i = omega arith in rw (z, dots_from s from n (suc i))

pub dots_are : (s : List ℕ) (from n : ℕ) → parts_from (dot_at s from) n 0 ≡ dots (bytes_at n s from)
unfolding parts_from
dots_are s from n =
    let z : n - 0 ≡ n = omega arith in
    let w : from + 0 ≡ from = omega arith in
    rw (z, dots_from s from n 0, w)

-- An item of a list, and what they make together.
unfoldable pub item_part : List ℕ → ℕ → ℕ → List ℕ
item_part s from j = text_of (item_at s (from + 5 * j))

count_few : (n : ℕ) → length (count_text n) ≤ 5
unfolding count_text
count_few n = few_of (eqb n 65535) 5 (42 ∷ []) (decimal n) (omega arith) (decimal_few n)

item_few : (g n m : ℕ) → length (item_text g n m) ≤ 19
unfolding item_text
item_few g n m =
    omega (
      arith,
      length-append (decimal g) (58 ∷ (count_text n ++ (47 ∷ count_text m))),
      length-append (count_text n) (47 ∷ count_text m),
      decimal_few g,
      count_few n,
      count_few m,
    )

pub part_few : (s : List ℕ) (from j : ℕ) → length (item_part s from j) ≤ 19
unfolding item_part text_of
part_few s from j = item_few _ _ _

items_from : (s : List ℕ) (from n i : ℕ) → gather (item_part s from) (rising i n) ≡ items_text (items_at n s (from + 5 * i))
unfolding gather rising items_text items_at item_part
items_from s from zero i = refl
items_from s from (suc n) i =
    let z : from + 5 * i + 5 ≡ from + 5 * suc i = omega arith in rw (z, items_from s from n (suc i))

pub items_are : (s : List ℕ) (from n : ℕ) → parts_from (item_part s from) n 0 ≡ items_text (items_at n s from)
unfolding parts_from
items_are s from n =
    let z : n - 0 ≡ n = omega arith in
    let w : from + 5 * 0 ≡ from = omega arith in
    rw (z, items_from s from n 0, w)
