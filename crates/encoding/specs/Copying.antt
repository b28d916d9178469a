-- What the walk over a stored sheet does, on its bytes alone: form by form, and how a copy into another dialect goes. Where the bytes are
-- the stored form of a sheet, the copy is its stored form in the other dialect (`copy_is` of proofs/CopyLaws.antt).
use Rattle.std.specs.Prelude.{ℕ, zero, suc, ◌+◌, ◌-◌, min, ◌≡◌, List, [], ◌∷◌, ◌++◌, cond, length, get_or, take, drop, ltb, eqb}
use Rattle.reading.specs.declared.Dialect.{Dialect}
use Rattle.encoding.specs.Encoding.{purpose_bytes}

-- How many bytes a form has up to a component's purpose, by its code and the two bytes after it, of which one is the count of groups of
-- a type.
unfoldable pub form_len : ℕ → ℕ → ℕ → ℕ
form_len code first second =
    cond (eqb code 2) 2
    (cond (eqb code 3) (first + 3)
    (cond (eqb code 4) 2
    (cond (eqb code 5) (second + 4)
    (cond (eqb code 6) 3 1))))

-- The same at a place, and no more than there are.
unfoldable pub head_len : List ℕ → ℕ → ℕ
head_len s at = min (form_len (get_or s at 0) (get_or s (at + 1) 0) (get_or s (at + 2) 0)) (length s - at)

-- What a component's purpose adds, nothing at another form.
unfoldable pub if_component : ℕ → List ℕ → List ℕ
if_component code bytes = cond (eqb code 4) bytes []

-- The place of the next form.
unfoldable pub next_form : Dialect → List ℕ → ℕ → ℕ
next_form d s at = at + (head_len s at + length (if_component (get_or s at 0) (purpose_bytes d 0)))

-- A form's copy, a component with purpose 0.
unfoldable pub form_copy : Dialect → List ℕ → ℕ → List ℕ
form_copy to s at = take (head_len s at) (drop at s) ++ if_component (get_or s at 0) (purpose_bytes to 0)

-- The purpose that a form states.
unfoldable pub stated_at : List ℕ → ℕ → List ℕ
stated_at s at = if_component (get_or s at 0) (get_or s (at + head_len s at) 0 ∷ [])

-- What the forms from a place on give, one after another, at most n.
unfoldable pub forms_from : (ℕ → List ℕ) → ℕ → Dialect → List ℕ → ℕ → List ℕ
forms_from give zero d s at = []
forms_from give (suc n) d s at = cond (ltb at (length s)) (give at ++ forms_from give n d s (next_form d s at)) []

-- From a place to the sheet's end: a form has at least one byte.
unfoldable pub copy_from : Dialect → Dialect → List ℕ → ℕ → List ℕ
copy_from d to s at = forms_from (form_copy to s) (length s) d s at

-- The place after n types.
unfoldable pub types_end : ℕ → List ℕ → ℕ → ℕ
types_end zero s at = at
types_end (suc n) s at = types_end n s (at + (get_or s at 0 + 2))

-- Where the system of a sheet begins.
unfoldable pub system_start : List ℕ → ℕ
system_start s = types_end (get_or s 0 0) s 1

-- The copy of a sheet: the types of its free names as they are, then the forms of its system.
unfoldable pub copy_of : Dialect → Dialect → List ℕ → List ℕ
copy_of d to s = take (system_start s) s ++ copy_from d to s (system_start s)

-- The purposes that a sheet states.
unfoldable pub stated_in : Dialect → List ℕ → List ℕ
stated_in d s = forms_from (stated_at s) (length s) d s (system_start s)

-- Bytes put into lent memory from a place on, and the place after them.
pub record Put (out out' : List ℕ) (at : ℕ) (bytes : List ℕ) (r : ℕ) : Type 0 where
  pub next : r ≡ at + length bytes
  pub left : out' ≡ (take at out ++ bytes) ++ drop (at + length bytes) out
