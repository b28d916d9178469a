-- The stored form of a sheet in a dialect: document 01's "Types and sheets", and document 02's Q-6, from the syntax tree to the bytes.
-- The reader undoes it (`sheet_read` of proofs/ReadBack.antt), and it the reader (`sheet_stored` of proofs/Stored.antt).
use Rattle.std.specs.Prelude.{ℕ, zero, suc, ◌-◌, List, [], ◌∷◌, ◌++◌, Bool, cond, length, ltb, eqb}
use Rattle.reading.specs.Dialects.{purposes_in}
use Rattle.reading.specs.Types.{shape}
use Rattle.reading.specs.Syntax.{Process, nil, par, new, input, output, repl, System, nilₛ, parₛ, groupₛ, newₛ, compₛ, Sheet}
use Rattle.inference.specs.Lists.{every}
use Rattle.reading.specs.declared.Dialect.{Dialect}
use Rattle.reading.specs.declared.Shape.{Shape}
use Rattle.reading.specs.declared.Shape.TheVariants.{Plain, Channel}
use Rattle.reading.specs.declared.Form.{Form}
use Rattle.reading.specs.declared.Form.TheVariants.{Nil, Par, Group, New, Component, Input, Output, Replicate}

-- "the groups with the outermost first, the kind", at most n groups
unfoldable pub nested_from : (ℕ → List ℕ) → Shape → List ℕ
nested_from more (Plain t) = t ∷ []
nested_from more (Channel g t) = g ∷ more t

unfoldable pub nested : ℕ → ℕ → List ℕ
nested zero t = t ∷ []
nested (suc n) t = nested_from (λ u. nested n u) (shape t)

-- "Stored: the count of groups (0 to 4), the groups with the outermost first, the kind."
unfoldable pub type_bytes : ℕ → List ℕ
type_bytes t = (length (nested 4 t) - 1) ∷ nested 4 t

-- "A post is stored as 04, group, purpose (0 to 15), process"; in a dialect whose posts state no purpose, nothing.
unfoldable pub purpose_bytes : Dialect → ℕ → List ℕ
purpose_bytes d purpose = cond (ltb 0 (purposes_in d)) (purpose ∷ []) []

-- Each form: its code, then its fields.
unfoldable pub form_bytes : Dialect → Form → List ℕ
form_bytes d Nil = 0 ∷ []
form_bytes d Par = 1 ∷ []
form_bytes d (Group g) = 2 ∷ g ∷ []
form_bytes d (New t) = 3 ∷ type_bytes t
form_bytes d (Component own) = 4 ∷ own.group ∷ purpose_bytes d own.purpose
form_bytes d (Input a) = 5 ∷ a.channel ∷ type_bytes a.object
form_bytes d (Output a) = 6 ∷ a.channel ∷ a.object ∷ []
form_bytes d Replicate = 7 ∷ []

-- A form, then what follows it.
unfoldable pub process_bytes : Dialect → Process → List ℕ
process_bytes d nil = form_bytes d Nil
process_bytes d (par p q) = form_bytes d Par ++ (process_bytes d p ++ process_bytes d q)
process_bytes d (new t p) = form_bytes d (New t) ++ process_bytes d p
process_bytes d (input x t p) = form_bytes d (Input (record { channel = x; object = t })) ++ process_bytes d p
process_bytes d (output x y p) = form_bytes d (Output (record { channel = x; object = y })) ++ process_bytes d p
process_bytes d (repl p) = form_bytes d Replicate ++ process_bytes d p

unfoldable pub system_bytes : Dialect → System → List ℕ
system_bytes d nilₛ = form_bytes d Nil
system_bytes d (parₛ l r) = form_bytes d Par ++ (system_bytes d l ++ system_bytes d r)
system_bytes d (groupₛ g p) = form_bytes d (Group g) ++ system_bytes d p
system_bytes d (newₛ t p) = form_bytes d (New t) ++ system_bytes d p
system_bytes d (compₛ own p) = form_bytes d (Component own) ++ process_bytes d p

-- types, one after another
unfoldable pub types_bytes : List ℕ → List ℕ
types_bytes [] = []
types_bytes (t ∷ ts) = type_bytes t ++ types_bytes ts

-- "a count of free names (0 to 32), their types, then one system"
unfoldable pub sheet_bytes : Dialect → Sheet → List ℕ
sheet_bytes d sheet = length sheet.free ∷ (types_bytes sheet.free ++ system_bytes d sheet.system)

-- The purposes of a system's components, in sheet order.
unfoldable pub purposes : System → List ℕ
purposes nilₛ = []
purposes (parₛ l r) = purposes l ++ purposes r
purposes (groupₛ g p) = purposes p
purposes (newₛ t p) = purposes p
purposes (compₛ own p) = own.purpose ∷ []

-- Are they all 0, "ordinary work"?
unfoldable pub all_zero : List ℕ → Bool
all_zero ps = every (λ p. eqb p 0) ps
