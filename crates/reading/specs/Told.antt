-- Which number and values of document 01 each case of an answer of the code is, and which path a `Path` is.
use Rattle.std.specs.Prelude.{ℕ, ◌+◌, List, take, cond, ltb, Option, None, Some, Result, Ok, Err}
use Rattle.reading.specs.Questions.{number_of}
use Rattle.reading.specs.Read.{Read, got, refused}
use Rattle.reading.specs.Syntax.{System, Sheet, components}
use Rattle.reading.specs.declared.Form.{Form}
use Rattle.reading.specs.declared.Number.{Number}
use Rattle.reading.specs.declared.Path.{Path}
use Rattle.reading.specs.declared.Place.{Place}
use Rattle.reading.specs.declared.Question.{Question}
use Rattle.reading.specs.declared.Refusal.{Refusal}

-- The number of the question that fails, if any does.
abbrev pub numbered : Option Question → Option ℕ
numbered None = None
numbered (Some q) = Some (number_of q)

-- A fault that is told by a number below the bound, and by the bound or more where there is none.
unfoldable pub failed_below : ℕ → ℕ → Option ℕ
failed_below bound fault = cond (ltb fault bound) (Some fault) None

-- An answer of the code as a reading: what was found, as `found` has it, or the number of the question that fails and the place.
abbrev pub told : {A B : Type 0} → (A → Read B) → Result A Refusal → Read B
told found (Ok a) = found a
told found (Err r) = refused (number_of r.question) r.at

-- a number, and the place after it
abbrev pub number : Result Number Refusal → Read ℕ
number = told (λ n. got n.value n.next)

-- a form, and the place after it
abbrev pub form : Result Place Refusal → Read Form
form = told (λ p. got p.form p.next)

-- a reading of which only the place after it is kept
abbrev pub ending : Result ℕ Refusal → Read (Unit {0})
ending = told (λ next. got tt next)

-- the same of any reading
unfoldable pub ended : {A : Type 0} → Read A → Read (Unit {0})
ended (got a next) = got tt next
ended (refused question at) = refused question at

-- a system of which only the number of components is kept, those before it included
unfoldable pub counted : ℕ → Read System → Read ℕ
counted before (got system next) = got (before + components system) next
counted before (refused question at) = refused question at

-- a sheet of which only the number of components is kept
unfoldable pub counted_in : Read Sheet → Read ℕ
counted_in (got sheet next) = got (components sheet.system) next
counted_in (refused question at) = refused question at

abbrev pub path_of : Path → List ℕ
path_of p = take p.len p.groups
