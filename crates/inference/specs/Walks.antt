-- What the walk over a sheet finds and writes, in terms of the acts of the tree that it walks.
use Rattle.std.specs.Prelude.{ℕ, ◌+◌, ◌≤◌, min, ◌≡◌, List, [], ◌∷◌, map, Bool, true, cond, ◌&&◌, ltb, length, take, Some}
use Rattle.std.proofs.Math.Option.{Option, some}
use Rattle.reading.specs.Read.{got}
use Rattle.reading.specs.Syntax.{Process, System, Sheet, components}
use Rattle.reading.specs.System.{free_types, header}
use Rattle.reading.specs.declared.Form.{Form}
use Rattle.reading.specs.declared.Form.TheVariants.{Nil, Par, Group, New, Component as Head, Input, Output, Replicate}
use Rattle.reading.specs.declared.Number.{Number}
use Rattle.reading.specs.Forms.{member}
use Rattle.reading.specs.Told.{numbered, failed_below, path_of}
use Rattle.reading.specs.Total.{Grown}
use Rattle.inference.specs.declared.Context.{Context}
use Rattle.inference.specs.declared.Walker.{Walker}
use Rattle.inference.specs.declared.Inference.{Inference}
use Rattle.inference.specs.Acts.{Act, Located, acts_of, locate, located}
use Rattle.inference.specs.Typing.{is_known, of_channel, is_type}
use Rattle.inference.specs.Needs.{need_of, need_on}
use Rattle.inference.specs.Told.{sooner}
use Rattle.inference.specs.Rows.{charge, with_component}

-- The first of questions 7 to 10 that an act fails, or 11: the tests of Typing.antt, one after another.
unfoldable pub fault : Option ℕ → Option ℕ → List ℕ → ℕ
fault channel object path =
    cond (is_known channel && is_known object)
    (cond (of_channel (λ g t. true) channel)
    (cond (of_channel (λ g t. is_type t object) channel)
    (cond (of_channel (λ g t. member g path) channel) 11 10) 9) 8) 7

unfoldable pub fault_of : Act → ℕ
fault_of a = fault a.channel a.object a.component.path

-- The first question that any of the acts fails, or 11.
unfoldable pub worst : List Act → ℕ
worst [] = 11
worst (a ∷ rest) = min (fault_of a) (worst rest)

-- The table after acts.
unfoldable pub charged : List ℕ → List Act → List ℕ
charged table [] = table
charged table (a ∷ rest) = charged (charge table a.component.number (need_of a) a.repeated) rest

-- The table after components: each one's own cells, then its acts.
unfoldable pub charged_all : List ℕ → List Located → List ℕ
charged_all table [] = table
charged_all table (l ∷ rest) =
    charged_all (charged (with_component table l.component) (acts_of l)) rest

-- The first question that any of the components' acts fails, or 11.
unfoldable pub worst_all : List Located → ℕ
worst_all [] = 11
worst_all (l ∷ rest) = min (worst (acts_of l)) (worst_all rest)

-- A question with this number was noted.
pub record Noted (question : ℕ) (w w' : Walker) : Type 0 where
  pub first : numbered w'.fault ≡ sooner (numbered w.fault) (Some question)
  pub counted : w'.table.now ≡ w.table.now
  pub kept : w'.scope ≡ w.scope
  pub number : w'.components ≡ w.components
  pub same : w'.sheet ≡ w.sheet
  pub lent : w'.table.ghost_name ≡ w.table.ghost_name

-- An act was typed, and what it needs was counted.
pub record Acted (sends : Bool) (channel object : Option ℕ) (context : Context) (w w' : Walker) : Type 0 where
  pub first : numbered w'.fault ≡ sooner (numbered w.fault) (failed_below 11 (fault channel object (path_of context.path)))
  pub counted : w'.table.now ≡ charge w.table.now context.component (need_on sends channel) context.repeated
  pub kept : w'.scope ≡ w.scope
  pub number : w'.components ≡ w.components
  pub same : w'.sheet ≡ w.sheet
  pub lent : w'.table.ghost_name ≡ w.table.ghost_name

-- A walk over a process: `walked` are its acts, `next` is the place after it. What is found and counted does not depend on the purpose
-- (`purpose_aside` of proofs/WalkLaws.antt), so the context has none, and 0 stands where the walk is told.
pub record Walked (t : Grown Process) (walked : List Act) (names : ℕ) (w w' : Walker) (next : ℕ) : Type 0 where
  pub place : next ≡ t.next
  pub first : numbered w'.fault ≡ sooner (numbered w.fault) (failed_below 11 (worst walked))
  pub counted : w'.table.now ≡ charged w.table.now walked
  pub kept : take names w'.scope ≡ take names w.scope
  pub number : w'.components ≡ w.components
  pub same : w'.sheet ≡ w.sheet
  pub lent : w'.table.ghost_name ≡ w.table.ghost_name

-- A walk over a system: `ls` are its components.
pub record WalkedSystem (t : Grown System) (ls : List Located) (names : ℕ) (w w' : Walker) (next : ℕ) : Type 0 where
  pub place : next ≡ t.next
  pub first : numbered w'.fault ≡ sooner (numbered w.fault) (failed_below 11 (worst_all ls))
  pub counted : w'.table.now ≡ charged_all w.table.now ls
  pub kept : take names w'.scope ≡ take names w.scope
  pub number : w'.components ≡ w.components + components t.tree
  pub same : w'.sheet ≡ w.sheet
  pub lent : w'.table.ghost_name ≡ w.table.ghost_name

-- The same, for the components of a tree under a path.
abbrev pub WalkedAt : List ℕ → Grown System → ℕ → Walker → Walker → ℕ → Type 0
WalkedAt path t names w w' next =
    WalkedSystem t (locate w.components path (map some (take names w.scope)) t.tree) names w w' next

-- Where a form of a system binds a name, opens a group or is a component, there is room for it.
unfoldable pub opens : ℕ → List ℕ → ℕ → Form → Bool
opens names path preceding Nil = true
opens names path preceding Par = true
opens names path preceding (Group g) = ltb (length path) 8 && ltb g 65536
opens names path preceding (New t) = ltb names 64
opens names path preceding (Head own) = (ltb (length path) 8 && ltb preceding 32) && ltb own.group 65536
opens names path preceding (Input a) = true
opens names path preceding (Output a) = true
opens names path preceding Replicate = true

-- What a whole sheet's walk finds and writes.
pub record InferredSheet (sheet : Sheet) (table table' : List ℕ) (r : Inference) : Type 0 where
  pub first : numbered r.fault ≡ failed_below 11 (worst_all (located sheet))
  pub number : r.components ≡ components sheet.system
  pub counted : table' ≡ charged_all table (located sheet)

-- Stored types that were bound from level 0 on, where they can be read.
pub record LoadedTypes (count : ℕ) (s : List ℕ) (at : ℕ) (scope : List ℕ) (r : Number) : Type 0 where
  pub loaded : (ts : List ℕ) (next : ℕ) → count ≤ 64 → free_types count s at ≡ got ts next
      → (r.value ≡ count) × (r.next ≡ next) × (take count scope ≡ ts)

-- The same of a sheet's free names.
pub record LoadedFree (s scope : List ℕ) (r : Number) : Type 0 where
  pub loaded : (free : List ℕ) (at : ℕ) → header s ≡ got free at
      → (r.value ≡ length free) × (r.next ≡ at) × (take (length free) scope ≡ free)
