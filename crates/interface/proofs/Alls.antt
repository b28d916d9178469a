-- Lists all of whose members have a property: of two lists appended, and of what a test chooses among the images of rising numbers.
use Prim.Native.Nat.{ℕ, zero, suc, ◌+◌, ◌<◌}
use mathlib.Core.Bool.{Bool, true, false, cond}
use mathlib.Core.List.{List, [], ◌∷◌, ◌++◌, map}
use native.Mathlib.Omega.{arith}
use Rattle.inference.specs.Lists.{only, rising}

pub data All {A : Type 0} (P : A → Type 0) : List A → Type 0 where
  done : All P []
  also : {x : A} {xs : List A} → P x → All P xs → All P (x ∷ xs)

pub all_map : {A : Type 0} {P Q : A → Type 0} {xs : List A} → ((x : A) → P x → Q x) → All P xs → All Q xs
all_map f done = done
all_map f (also {x = x} p ps) = also (f x p) (all_map f ps)

pub all_append : {A : Type 0} {P : A → Type 0} {xs ys : List A} → All P xs → All P ys → All P (xs ++ ys)
all_append done qs = qs
all_append (also p ps) qs = also p (all_append ps qs)

pub all_chosen : {A : Type 0} {P : A → Type 0} (q : A → Bool) (f : ℕ → A) (start n : ℕ) → ((i : ℕ) → i < start + n → P (f i))
    → All P (only q (map f (rising start n)))
unfolding only rising
all_chosen q f start zero h = done
all_chosen {A} {P} q f start (suc n) h =
    go (q (f start)) (only q (map f (rising (suc start) n))) (all_chosen q f (suc start) n (λ i l. h i (omega arith)))
  where
    go : (b : Bool) (xs : List A) → All P xs → All P (cond b (f start ∷ xs) xs)
    go true xs ps = also (h start (omega arith)) ps
    go false xs ps = ps
