-- "What stands at a place is a form, its fields and the place after it. Each other code byte is refused." In any dialect
-- (`..In`), and in the current one.
use Rattle.std.specs.Prelude.{ℕ, List, [], ◌∷◌, Bool, true, false, cond, ◌&&◌, ◌||◌, length, ltb, eqb}
use Rattle.reading.specs.Read.{Read, got, refused, and_then, byte_at, below}
use Rattle.reading.specs.Dialects.{current, groups_in, purposes_in}
use Rattle.reading.specs.Types.{type_at_in}
use Rattle.reading.specs.declared.Dialect.{Dialect}
use Rattle.reading.specs.declared.Form.{Form}
use Rattle.reading.specs.declared.Form.TheVariants.{Nil, Par, Group, New, Component, Input, Output, Replicate}

unfoldable pub member : ℕ → List ℕ → Bool
member g [] = false
member g (x ∷ xs) = eqb x g || member g xs

-- Question 5: "It fails at the code byte of the form that is too many."
unfoldable pub limited : {A : Type 0} → Bool → ℕ → Read A → Read A
limited true at r = r
limited false at r = refused 5 at

-- "new name, its type"
unfoldable pub new_form_in : Dialect → List ℕ → ℕ → Read Form
new_form_in d s at = and_then (type_at_in d s at) (λ t next. got (New t) next)

-- "receive: channel, type of the bound name"
unfoldable pub input_form_in : Dialect → List ℕ → ℕ → Read Form
input_form_in d s at =
    and_then (byte_at s at) (λ x next.
    and_then (type_at_in d s next) (λ t m. got (Input (record { channel = x; object = t })) m))

-- "send: channel, name sent"
unfoldable pub output_form : List ℕ → ℕ → Read Form
output_form s at =
    and_then (byte_at s at) (λ x next.
    and_then (byte_at s next) (λ y m. got (Output (record { channel = x; object = y })) m))

-- Question 6: "group new to its path?"
unfoldable pub fresh_group_in : Dialect → List ℕ → ℕ → List ℕ → Read ℕ
fresh_group_in d s at path = and_then (below (groups_in d) s at) (λ g next. cond (member g path) (refused 6 at) (got g next))

-- "group"
unfoldable pub group_form_in : Dialect → List ℕ → ℕ → List ℕ → Read Form
group_form_in d s at path = and_then (fresh_group_in d s at path) (λ g next. got (Group g) next)

-- "purpose (0 to 15) ..; purpose 0 is ordinary work, and one above 15 fails question 4." Where posts state none, it is 0.
unfoldable pub purpose_in : Dialect → List ℕ → ℕ → Read ℕ
purpose_in d s at = cond (ltb 0 (purposes_in d)) (below (purposes_in d) s at) (got 0 at)

-- "A post is stored as 04, group, purpose (0 to 15), process": what stands between its code and its process.
unfoldable pub component_form_in : Dialect → List ℕ → ℕ → List ℕ → Read Form
component_form_in d s at path =
    and_then (fresh_group_in d s at path) (λ g next.
    and_then (purpose_in d s next) (λ p m. got (Component (record { group = g; purpose = p })) m))

-- The forms of processes by their codes: is there room for one more form (`level`), for one that binds a name (`binder`)?
unfoldable pub process_form_in : Dialect → List ℕ → ℕ → ℕ → Bool → Bool → ℕ → Read Form
process_form_in d s at next level binder code =
    cond (eqb code 0) (limited level at (got Nil next))
    (cond (eqb code 1) (limited level at (got Par next))
    (cond (eqb code 3) (limited binder at (new_form_in d s next))
    (cond (eqb code 5) (limited binder at (input_form_in d s next))
    (cond (eqb code 6) (limited level at (output_form s next))
    (cond (eqb code 7) (limited level at (got Replicate next))
    (refused 4 at))))))

-- What stands at a place of a process, where `nest` more forms may be nested and `names` names are in scope: "at most 64
-- forms nested, 64 names in scope".
unfoldable pub process_at_in : Dialect → List ℕ → ℕ → ℕ → ℕ → Read Form
process_at_in d s at nest names =
    and_then (byte_at s at) (λ code next. process_form_in d s at next (ltb 0 nest) (ltb 0 nest && ltb names 64) code)

-- The forms of systems by their codes; `deeper`: is there room for one more group in the path, `another`: and for one more
-- component?
unfoldable pub system_form_in : Dialect → List ℕ → ℕ → ℕ → List ℕ → Bool → Bool → Bool → Bool → ℕ → Read Form
system_form_in d s at next path level binder deeper another code =
    cond (eqb code 0) (limited level at (got Nil next))
    (cond (eqb code 1) (limited level at (got Par next))
    (cond (eqb code 2) (limited deeper at (group_form_in d s next path))
    (cond (eqb code 3) (limited binder at (new_form_in d s next))
    (cond (eqb code 4) (limited another at (component_form_in d s next path))
    (refused 4 at)))))

-- What stands at a place of a system, with the path so far and the number of components so far: "8 groups in a path, 32 posts".
unfoldable pub system_at_in : Dialect → List ℕ → ℕ → ℕ → ℕ → List ℕ → ℕ → Read Form
system_at_in d s at nest names path components =
    and_then (byte_at s at) (λ code next.
    system_form_in d s at next path (ltb 0 nest) (ltb 0 nest && ltb names 64) (ltb 0 nest && ltb (length path) 8)
    ((ltb 0 nest && ltb (length path) 8) && ltb components 32) code)

-- The same in the current dialect.
abbrev pub process_at : List ℕ → ℕ → ℕ → ℕ → Read Form
process_at = process_at_in current

abbrev pub system_at : List ℕ → ℕ → ℕ → ℕ → List ℕ → ℕ → Read Form
system_at = system_at_in current
