-- A sheet read from its bytes: "a count of free names (0 to 32), their types, then one system". The first of questions 2 to
-- 6 that fails is given at the first byte that fails, since the bytes are read in order. In any dialect (`..In`), and in the
-- current one.
use Rattle.std.specs.Prelude.{ℕ, zero, suc, ◌+◌, List, [], ◌∷◌, ◌++◌, cond, ◌&&◌, length, leb, eqb}
use Rattle.reading.specs.Read.{Read, got, refused, and_then, below}
use Rattle.reading.specs.Dialects.{current}
use Rattle.reading.specs.Types.{type_at_in}
use Rattle.reading.specs.Syntax.{Process, nil, par, new, input, output, repl, System, nilₛ, parₛ, groupₛ, newₛ, compₛ, Sheet, components}
use Rattle.reading.specs.Forms.{process_at_in, system_at_in}
use Rattle.reading.specs.declared.Dialect.{Dialect}
use Rattle.reading.specs.declared.Form.{Form}
use Rattle.reading.specs.declared.OwnFields.{OwnFields}
use Rattle.reading.specs.declared.Form.TheVariants.{Nil, Par, Group, New, Component, Input, Output, Replicate}

-- The process that begins with a form; `read names at` reads what stands at a later place, one level deeper.
unfoldable pub process_from : (ℕ → ℕ → Read Process) → ℕ → ℕ → Form → ℕ → Read Process
process_from read at names Nil next = got nil next
process_from read at names Par next = and_then (read names next) (λ p m. and_then (read names m) (λ q k. got (par p q) k))
process_from read at names (New t) next = and_then (read (names + 1) next) (λ p k. got (new t p) k)
process_from read at names (Input a) next = and_then (read (names + 1) next) (λ p k. got (input a.channel a.object p) k)
process_from read at names (Output a) next = and_then (read names next) (λ p k. got (output a.channel a.object p) k)
process_from read at names Replicate next = and_then (read names next) (λ p k. got (repl p) k)
process_from read at names (Group g) next = refused 4 at
process_from read at names (Component own) next = refused 4 at

-- The process at a place, where `nest` more forms may be nested and `names` names are in scope.
unfoldable pub read_process_in : Dialect → ℕ → List ℕ → ℕ → ℕ → Read Process
read_process_in d zero s names at = and_then (process_at_in d s at 0 names) (λ form next. refused 5 at)
read_process_in d (suc n) s names at =
    and_then (process_at_in d s at (suc n) names) (λ form next. process_from (λ ns m. read_process_in d n s ns m) at names form next)

-- A component: its own fields, and its process as it is read.
unfoldable pub component : OwnFields → Read Process → Read System
component own process = and_then process (λ p k. got (compₛ own p) k)

-- The system that begins with a form. The right part of a parallel form counts on from the components of the left.
unfoldable pub system_from : (ℕ → List ℕ → ℕ → ℕ → Read System) → (ℕ → Read Process) → ℕ → ℕ → List ℕ → ℕ → Form → ℕ → Read System
system_from read process at names path preceding Nil next = got nilₛ next
system_from read process at names path preceding Par next =
    and_then (read names path preceding next) (λ l m. and_then (read names path (preceding + components l) m) (λ r k. got (parₛ l r) k))
system_from read process at names path preceding (Group g) next = and_then (read names (path ++ (g ∷ [])) preceding next) (λ p k. got (groupₛ g p) k)
system_from read process at names path preceding (New t) next = and_then (read (names + 1) path preceding next) (λ p k. got (newₛ t p) k)
system_from read process at names path preceding (Component own) next = component own (process next)
system_from read process at names path preceding (Input a) next = refused 4 at
system_from read process at names path preceding (Output a) next = refused 4 at
system_from read process at names path preceding Replicate next = refused 4 at

-- The system at a place, with the path so far and the number of components so far.
unfoldable pub read_system_in : Dialect → ℕ → List ℕ → ℕ → List ℕ → ℕ → ℕ → Read System
read_system_in d zero s names path preceding at = and_then (system_at_in d s at 0 names path preceding) (λ form next. refused 5 at)
read_system_in d (suc n) s names path preceding at =
    and_then (system_at_in d s at (suc n) names path preceding) (λ form next.
    system_from (λ ns p k m. read_system_in d n s ns p k m) (λ m. read_process_in d n s names m) at names path preceding form next)

-- `count` stored types, one after another.
unfoldable pub free_types_in : Dialect → ℕ → List ℕ → ℕ → Read (List ℕ)
free_types_in d zero s at = got [] at
free_types_in d (suc n) s at = and_then (type_at_in d s at) (λ t next. and_then (free_types_in d n s next) (λ ts m. got (t ∷ ts) m))

-- "a count of free names (0 to 32), their types"
unfoldable pub header_in : Dialect → List ℕ → Read (List ℕ)
header_in d s = and_then (below 33 s 0) (λ n next. free_types_in d n s next)

-- Question 3: "none left over?"
unfoldable pub to_its_end : {A : Type 0} → List ℕ → A → ℕ → Read A
to_its_end s a next = cond (eqb next (length s)) (got a next) (refused 3 next)

-- Questions 2 to 6.
unfoldable pub read_sheet_in : Dialect → List ℕ → Read Sheet
read_sheet_in d s =
    and_then (header_in d s) (λ free at.
    and_then (read_system_in d 64 s (length free) [] 0 at) (λ system next. to_its_end s (record { free = free; system = system }) next))

-- Questions 1 to 6: "sheet and charter at most 4,096 bytes each?", then the sheet.
unfoldable pub sheet_of_in : Dialect → List ℕ → List ℕ → Read Sheet
sheet_of_in d s charter = cond (leb (length s) 4096 && leb (length charter) 4096) (read_sheet_in d s) (refused 1 4096)

-- The same in the current dialect.
abbrev pub read_process : ℕ → List ℕ → ℕ → ℕ → Read Process
read_process = read_process_in current

abbrev pub read_system : ℕ → List ℕ → ℕ → List ℕ → ℕ → ℕ → Read System
read_system = read_system_in current

abbrev pub free_types : ℕ → List ℕ → ℕ → Read (List ℕ)
free_types = free_types_in current

abbrev pub header : List ℕ → Read (List ℕ)
header = header_in current

abbrev pub read_sheet : List ℕ → Read Sheet
read_sheet = read_sheet_in current

abbrev pub sheet_of : List ℕ → List ℕ → Read Sheet
sheet_of = sheet_of_in current
