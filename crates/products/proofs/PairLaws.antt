-- Laws of lists that correspond item by item.
use Prim.Native.Nat.{ℕ, zero, suc, ◌<◌}
use mathlib.Core.Path.{◌≡◌, refl, ap}
use mathlib.Core.List.{List, ◌++◌}
use mathlib.Core.Option.{some}
use native.Mathlib.Omega.{arith}
use lib.ListN.{length, get_or, take, drop, get_elem?}
use Rattle.products.specs.Pairs.{Pairs, none, more}

module _ {A B : Type 0} {R : A → B → Type 0} where
  pub pairs_append : {xs cs : List A} {bs ds : List B} → Pairs R xs bs → Pairs R cs ds → Pairs R (xs ++ cs) (bs ++ ds)
  pairs_append none q = q
  pairs_append (more r p) q = more r (pairs_append p q)

  pub pairs_take : (n : ℕ) {xs : List A} {bs : List B} → Pairs R xs bs → Pairs R (take n xs) (take n bs)
  pairs_take zero p = none
  pairs_take (suc n) none = none
  pairs_take (suc n) (more r p) = more r (pairs_take n p)

  pub pairs_drop : (n : ℕ) {xs : List A} {bs : List B} → Pairs R xs bs → Pairs R (drop n xs) (drop n bs)
  pairs_drop zero p = p
  pairs_drop (suc n) none = none
  pairs_drop (suc n) (more r p) = pairs_drop n p

  pub pairs_length : {xs : List A} {bs : List B} → Pairs R xs bs → length xs ≡ length bs
  pairs_length none = refl
  pairs_length (more r p) = ap suc (pairs_length p)

  pub pairs_map : {Q : A → B → Type 0} → ((a : A) (b : B) → R a b → Q a b) → {xs : List A} {bs : List B} → Pairs R xs bs → Pairs Q xs bs
  pairs_map f none = none
  pairs_map f (more {a = a} {b = b} r p) = more (f a b r) (pairs_map f p)

-- What corresponds to an item.
pub record At {A B : Type 0} (R : A → B → Type 0) (a : A) (bs : List B) (i : ℕ) : Type 0 where
  pub item : B
  pub here : get_elem? bs i ≡ some item
  pub holds : R a item

pub pairs_at : {A B : Type 0} {R : A → B → Type 0} (d : A) (i : ℕ) {xs : List A} {bs : List B} → Pairs R xs bs → i < length xs → At R (get_or xs i d) bs i
pairs_at d i none h = absurd (omega arith)
pairs_at d zero (more {b = b} r p) h = record { item = b; here = refl; holds = r }
pairs_at d (suc i) (more r p) h =
    let there = pairs_at d i p (omega arith) in
    record { item = there.item; here = there.here; holds = there.holds }
