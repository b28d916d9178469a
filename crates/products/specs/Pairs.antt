-- Two lists, item by item.
use Rattle.std.specs.Prelude.{List, [], ◌∷◌}

pub data Pairs {A B : Type 0} (R : A → B → Type 0) : List A → List B → Type 0 where
  none : Pairs R [] []
  more : {a : A} {b : B} {xs : List A} {bs : List B} → R a b → Pairs R xs bs → Pairs R (a ∷ xs) (b ∷ bs)
