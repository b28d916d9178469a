-- The components of a system with their paths and numbers, and the acts of a process under the types of the names in scope.
-- Questions 7 to 10, the needs and the counts all go over these acts.
use Rattle.std.specs.Prelude.{ℕ, zero, suc, ◌+◌, List, [], ◌∷◌, ◌++◌, map, Bool, true, false}
use Rattle.std.proofs.Math.Option.{Option, some, none}
use Rattle.reading.specs.Syntax.{Process, nil, par, new, input, output, repl, System, nilₛ, parₛ, groupₛ, newₛ, compₛ, Sheet, components}
use Rattle.reading.specs.declared.OwnFields.{OwnFields}
use Rattle.inference.specs.Lists.{gather}

-- A component (document 01: a post): "A post's path is the groups passed on the way to it, its own last. Posts are numbered
-- from 0 in sheet order." It has a purpose (document 02, Q-6).
pub record Component : Type 0 where
  pub number : ℕ
  pub path : List ℕ
  pub purpose : ℕ

-- The component with a number, the groups passed on the way to it, and its own fields.
unfoldable pub component_at : ℕ → List ℕ → OwnFields → Component
component_at number path own = record { number = number; path = path ++ (own.group ∷ []); purpose = own.purpose }

-- The type of the name at a level of a scope; none past its last level. A level may have none itself: in a run, that of a
-- name never given.
unfoldable pub type_of : List (Option ℕ) → ℕ → Option ℕ
type_of [] level = none
type_of (t ∷ scope) zero = t
type_of (t ∷ scope) (suc level) = type_of scope level

-- A component where it stands: with the types of the names in scope, by level, and its process.
pub record Located : Type 0 where
  pub component : Component
  pub scope : List (Option ℕ)
  pub process : Process

-- The components of a system, in sheet order; `number` is that of the first.
unfoldable pub locate : ℕ → List ℕ → List (Option ℕ) → System → List Located
locate number path scope nilₛ = []
locate number path scope (parₛ l r) = locate number path scope l ++ locate (number + components l) path scope r
locate number path scope (groupₛ g p) = locate number (path ++ (g ∷ [])) scope p
locate number path scope (newₛ t p) = locate number path (scope ++ (some t ∷ [])) p
locate number path scope (compₛ own p) = record { component = component_at number path own; scope = scope; process = p } ∷ []

unfoldable pub located : Sheet → List Located
located sheet = locate 0 [] (map some sheet.free) sheet.system

-- An act: whose it is, whether it stands under a repeat, whether it sends, the type of its channel, and the type of the name
-- that it sends or binds; no type where a name is not in scope.
pub record Act : Type 0 where
  pub component : Component
  pub repeated : Bool
  pub sends : Bool
  pub channel : Option ℕ
  pub object : Option ℕ

-- The acts of a process. A receive's bound name is in scope in its continuation alone.
unfoldable pub acts : Component → Bool → List (Option ℕ) → Process → List Act
acts c repeated scope nil = []
acts c repeated scope (par p q) = acts c repeated scope p ++ acts c repeated scope q
acts c repeated scope (new t p) = acts c repeated (scope ++ (some t ∷ [])) p
acts c repeated scope (input x t p) =
    record { component = c; repeated = repeated; sends = false; channel = type_of scope x; object = some t }
    ∷ acts c repeated (scope ++ (some t ∷ [])) p
acts c repeated scope (output x y p) =
    record { component = c; repeated = repeated; sends = true; channel = type_of scope x; object = type_of scope y }
    ∷ acts c repeated scope p
acts c repeated scope (repl p) = acts c true scope p

unfoldable pub acts_of : Located → List Act
acts_of l = acts l.component false l.scope l.process

-- The acts of a whole sheet.
unfoldable pub sheet_acts : Sheet → List Act
sheet_acts sheet = gather acts_of (located sheet)
