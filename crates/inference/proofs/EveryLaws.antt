-- Laws of `every`: over two lists, of two tests, of a test of no elements, of two tests that say the same, of a test that each element passes,
-- and of a test that follows from two others.
use mathlib.Core.Bool.{Bool, true, false, ◌&&◌, and_assoc}
use mathlib.Core.List.{List, [], ◌∷◌, ◌++◌}
use mathlib.Core.Path.{◌≡◌, refl, sym, ap, ◌∙◌}
use Rattle.inference.specs.Lists.{every}
use Rattle.reading.proofs.FormLaws.{both_true}

pub every_append : {A : Type 0} (p : A → Bool) (xs ys : List A) → every p (xs ++ ys) ≡ (every p xs && every p ys)
unfolding every
every_append p [] ys = refl
every_append p (x ∷ xs) ys = ap (λ (t : Bool). p x && t) (every_append p xs ys) ∙ sym (and_assoc (p x) (every p xs) (every p ys))

-- What holds of all elements of two lists holds of those of each, and the other way round.
pub every_parts : {A : Type 0} (p : A → Bool) (xs ys : List A) → every p (xs ++ ys) ≡ true → (every p xs ≡ true) × (every p ys ≡ true)
every_parts p xs ys e = both_true (every p xs) (every p ys) (sym (every_append p xs ys) ∙ e)

pub every_both : {A : Type 0} (p : A → Bool) (xs ys : List A) → every p xs ≡ true → every p ys ≡ true → every p (xs ++ ys) ≡ true
every_both p xs ys h k = every_append p xs ys ∙ rw (h, k)

pub every_pair : {A : Type 0} (p q : A → Bool) (xs : List A) → every (λ x. p x && q x) xs ≡ (every p xs && every q xs)
unfolding every
every_pair p q [] = refl
every_pair p q (x ∷ xs) = ap (λ (t : Bool). (p x && q x) && t) (every_pair p q xs) ∙ crossed (p x) (q x) (every p xs) (every q xs)
  where
    crossed : (a b c d : Bool) → ((a && b) && (c && d)) ≡ ((a && c) && (b && d))
    crossed true true c d = refl
    crossed true false true d = refl
    crossed true false false d = refl
    crossed false b c d = refl

pub every_none : {A B : Type 0} (p : A → B → Bool) (xs : List A) → every (λ x. every (p x) []) xs ≡ true
unfolding every
every_none p [] = refl
every_none p (x ∷ xs) = every_none p xs

pub every_same : {A : Type 0} (p q : A → Bool) (l : List A) → ((x : A) → p x ≡ q x) → every p l ≡ every q l
unfolding every
every_same p q [] h = refl
every_same p q (x ∷ l) h = rw (h x, every_same p q l h)

pub every_true : {A : Type 0} (p : A → Bool) → ((x : A) → p x ≡ true) → (xs : List A) → every p xs ≡ true
unfolding every
every_true p h [] = refl
every_true p h (x ∷ xs) = rw (h x) (every_true p h xs)

pub every_through : {A : Type 0} (p q r : A → Bool) → ((x : A) → p x ≡ true → q x ≡ true → r x ≡ true) → (xs : List A)
    → every p xs ≡ true → every q xs ≡ true → every r xs ≡ true
unfolding every
every_through p q r h [] e f = refl
every_through p q r h (x ∷ xs) e f =
    let k = both_true (p x) (every p xs) e in
    let l = both_true (q x) (every q xs) f in
    rw (h x k.0 l.0) (every_through p q r h xs k.1 l.1)
