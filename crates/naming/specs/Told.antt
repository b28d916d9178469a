-- What the code's answers tell: a reading of which only the place after it is answered, and the names that begin at places.
use Rattle.std.specs.Prelude.{Result, Ok, Err, ℕ, List, ◌∷◌, map, cond, eqb}
use Rattle.reading.specs.Read.{Read, got, refused}
use Rattle.reading.specs.Questions.{number_of}
use Rattle.reading.specs.declared.Refusal.{Refusal}
use Rattle.naming.specs.Names.{letters_at, Names}
use Rattle.naming.specs.Sentence.{name_of}

-- A value that was read and the place after it, or why it was not read.
abbrev pub ends : {A : Type 0} → Result ℕ Refusal → A → Read A
ends (Ok next) a = got a next
ends (Err r) a = refused (number_of r.question) r.at

-- The place after what was read, 0 where it was not.
abbrev pub after : Result ℕ Refusal → ℕ
after (Ok next) = next
after (Err r) = 0

-- The names that begin at some places.
unfoldable pub words_at : List ℕ → List ℕ → List (List ℕ)
words_at s places = map (letters_at 20 s) places

unfoldable pub names_at_places : List ℕ → List ℕ → List ℕ → Names
names_at_places s groups kinds = record { groups = words_at s groups; kinds = words_at s kinds }

-- The name of the i-th group of a path, with "/" before it but for the first.
unfoldable pub step_text : List (List ℕ) → ℕ → ℕ → List ℕ
step_text names i group = cond (eqb i 0) (name_of names group) (47 ∷ name_of names group)
