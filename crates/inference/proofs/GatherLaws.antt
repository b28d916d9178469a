-- Laws of `gather`: over two lists, and of two functions that say the same.
use mathlib.Core.List.{List, [], ◌∷◌, ◌++◌, append_assoc}
use mathlib.Core.Path.{◌≡◌, refl, sym}
use Rattle.inference.specs.Lists.{gather}

pub gather_append : {A B : Type 0} (f : A → List B) (xs ys : List A) → gather f (xs ++ ys) ≡ gather f xs ++ gather f ys
unfolding gather
gather_append f [] ys = refl
gather_append f (x ∷ xs) ys = rw (gather_append f xs ys) (sym (append_assoc (f x) (gather f xs) (gather f ys)))

pub gather_same : {A B : Type 0} (f g : A → List B) → ((x : A) → f x ≡ g x) → (xs : List A) → gather f xs ≡ gather g xs
unfolding gather
gather_same f g h [] = refl
gather_same f g h (x ∷ xs) = rw (h x, gather_same f g h xs)
