-- How syntax trees stand in the bytes. A process or a system that is read begins with the form at its place and goes on after
-- it, one level deeper; a sheet is its free names' types and one system, to its end, within the limits.
use Prim.Native.Nat.{ℕ, zero, suc, ◌+◌, ◌-◌, ◌≤◌}
use mathlib.Core.Bool.{true, ◌&&◌}
use mathlib.Core.List.{List, [], ◌∷◌, ◌++◌}
use mathlib.Core.Path.{◌≡◌, refl, sym, ap, ◌∙◌}
use native.Mathlib.Numerals.{sub-one}
use native.Mathlib.Omega.{arith}
use borrow.Author.Tests.{leb-true, eqb-true}
use lib.Dec.{leb, eqb}
use lib.ListN.{length}
use Rattle.reading.proofs.FormLaws.{FitsSystem, process_room, process_level, system_room, system_level, both_true}
use Rattle.reading.proofs.Parts.{never, parts, passed, below_found, Every, of_found, every_then}
use Rattle.reading.specs.Read.{Read, got, refused, and_then, below}
use Rattle.reading.specs.Dialects.{current}
use Rattle.reading.specs.Types.{type_at_in}
use Rattle.reading.specs.Syntax.{Process, System, Sheet, components}
use Rattle.reading.specs.Forms.{process_at_in, system_at_in}
use Rattle.reading.specs.System.{process_from, read_process_in, component, system_from, read_system_in, free_types_in, header_in, to_its_end, read_sheet_in, sheet_of_in, sheet_of}
use Rattle.reading.specs.declared.Dialect.{Dialect}
use Rattle.reading.specs.declared.Form.{Form}
use Rattle.reading.specs.declared.Form.TheVariants.{Nil, Par, Group, New, Component, Input, Output, Replicate}

-- A process that is read begins with a form, and goes on one level deeper.
pub process_step : (d : Dialect) (nest : ℕ) (s : List ℕ) (names at : ℕ) {f : Form} {next : ℕ} → process_at_in d s at nest names ≡ got f next
    → read_process_in d nest s names at ≡ process_from (λ ns m. read_process_in d (nest - 1) s ns m) at names f next
unfolding read_process_in and_then
process_step d zero s names at {f} e = absurd (omega (arith, process_level 0 names f (process_room d s at 0 names e)))
process_step d (suc n) s names at e = rw (e, sub-one (suc n))

-- One that is not ends with the form's refusal.
pub process_stop : (d : Dialect) (nest : ℕ) (s : List ℕ) (names at : ℕ) {q p : ℕ} → process_at_in d s at nest names ≡ refused q p
    → read_process_in d nest s names at ≡ refused q p
unfolding read_process_in and_then
process_stop d zero s names at e = rw e
process_stop d (suc n) s names at e = rw e

-- The form with which a process that was read begins.
pub record ProcessBegins (d : Dialect) (nest : ℕ) (s : List ℕ) (names at : ℕ) (p : Process) (k : ℕ) : Type 0 where
  pub form : Form
  pub next : ℕ
  pub stands : process_at_in d s at nest names ≡ got form next
  pub after : process_from (λ ns m. read_process_in d (nest - 1) s ns m) at names form next ≡ got p k

pub process_begins : (d : Dialect) (nest : ℕ) (s : List ℕ) (names at : ℕ) {p : Process} {k : ℕ} → read_process_in d nest s names at ≡ got p k
    → ProcessBegins d nest s names at p k
process_begins d nest s names at {p} {k} e = go (process_at_in d s at nest names) refl
  where
    go : (x : Read Form) → process_at_in d s at nest names ≡ x → ProcessBegins d nest s names at p k
    go (got f n) h = record { form = f; next = n; stands = h; after = sym (process_step d nest s names at h) ∙ e }
    go (refused a b) h = never (sym (process_stop d nest s names at h) ∙ e)

-- A system that is read begins with a form, and goes on one level deeper.
pub system_step : (d : Dialect) (nest : ℕ) (s : List ℕ) (names : ℕ) (path : List ℕ) (preceding at : ℕ) {f : Form} {next : ℕ}
    → system_at_in d s at nest names path preceding ≡ got f next
    → read_system_in d nest s names path preceding at ≡ system_from (λ ns p k m. read_system_in d (nest - 1) s ns p k m) (λ m. read_process_in d (nest - 1) s names m) at names path preceding f next
unfolding read_system_in and_then
system_step d zero s names path preceding at {f} e = absurd (omega (arith, system_level 0 names (length path) preceding f (system_room d s at 0 names path preceding e)))
system_step d (suc n) s names path preceding at e = rw (e, sub-one (suc n))

-- One that is not ends with the form's refusal.
pub system_stop : (d : Dialect) (nest : ℕ) (s : List ℕ) (names : ℕ) (path : List ℕ) (preceding at : ℕ) {q p : ℕ}
    → system_at_in d s at nest names path preceding ≡ refused q p → read_system_in d nest s names path preceding at ≡ refused q p
unfolding read_system_in and_then
system_stop d zero s names path preceding at e = rw e
system_stop d (suc n) s names path preceding at e = rw e

-- The form with which a system that was read begins.
pub record SystemBegins (d : Dialect) (nest : ℕ) (s : List ℕ) (names : ℕ) (path : List ℕ) (preceding at : ℕ) (p : System) (k : ℕ) : Type 0 where
  pub form : Form
  pub next : ℕ
  pub stands : system_at_in d s at nest names path preceding ≡ got form next
  pub after : system_from (λ ns q i m. read_system_in d (nest - 1) s ns q i m) (λ m. read_process_in d (nest - 1) s names m) at names path preceding form next ≡ got p k

pub system_begins : (d : Dialect) (nest : ℕ) (s : List ℕ) (names : ℕ) (path : List ℕ) (preceding at : ℕ) {p : System} {k : ℕ}
    → read_system_in d nest s names path preceding at ≡ got p k → SystemBegins d nest s names path preceding at p k
system_begins d nest s names path preceding at {p} {k} e = go (system_at_in d s at nest names path preceding) refl
  where
    go : (x : Read Form) → system_at_in d s at nest names path preceding ≡ x → SystemBegins d nest s names path preceding at p k
    go (got f n) h = record { form = f; next = n; stands = h; after = sym (system_step d nest s names path preceding at h) ∙ e }
    go (refused a b) h = never (sym (system_stop d nest s names path preceding at h) ∙ e)

-- "32 posts": a system has at most as many components as there is room for.
module _ (read : ℕ → List ℕ → ℕ → ℕ → Read System)
    (l : (names : ℕ) (path : List ℕ) (preceding at : ℕ) → preceding ≤ 32 → Every (λ p. preceding + components p ≤ 32) (read names path preceding at))
    (process : ℕ → Read Process) (nest at names : ℕ) (path : List ℕ) (preceding : ℕ) (few : preceding ≤ 32) where
  few_from : (f : Form) (next : ℕ) → FitsSystem nest names (length path) preceding f
      → Every (λ p. preceding + components p ≤ 32) (system_from read process at names path preceding f next)
  unfolding Every system_from component components FitsSystem
  few_from Nil next h = omega arith
  few_from Par next h = every_then _ (read names path preceding next) _ (λ p m e.
      let i = of_found _ (read names path preceding next) (l names path preceding next few) e in
      every_then _ (read names path (preceding + components p) m) _ (λ q k f.
      let j = of_found _ (read names path (preceding + components p) m) (l names path (preceding + components p) m i) f in
      omega arith))
  few_from (Group g) next h = every_then _ (read names (path ++ (g ∷ [])) preceding next) _ (λ p k e.
      of_found _ (read names (path ++ (g ∷ [])) preceding next) (l names (path ++ (g ∷ [])) preceding next few) e)
  few_from (New t) next h = every_then _ (read (names + 1) path preceding next) _ (λ p k e.
      of_found _ (read (names + 1) path preceding next) (l (names + 1) path preceding next few) e)
  few_from (Component own) next h = every_then _ (process next) _ (λ p k e. omega arith)
  few_from (Input a) next h = absurd h
  few_from (Output a) next h = absurd h
  few_from Replicate next h = absurd h

few_components : (d : Dialect) (nest : ℕ) (s : List ℕ) (names : ℕ) (path : List ℕ) (preceding at : ℕ) → preceding ≤ 32
    → Every (λ p. preceding + components p ≤ 32) (read_system_in d nest s names path preceding at)
unfolding read_system_in Every
few_components d zero s names path preceding at h = every_then _ (system_at_in d s at 0 names path preceding) _ (λ f next e. tt)
few_components d (suc n) s names path preceding at h = every_then _ (system_at_in d s at (suc n) names path preceding) _ (λ f next e.
    few_from (λ ns p k m. read_system_in d n s ns p k m) (few_components d n s) (λ m. read_process_in d n s names m) (suc n) at names path preceding h f next
    (system_room d s at (suc n) names path preceding e))

pub components_few : (d : Dialect) (nest : ℕ) (s : List ℕ) (names : ℕ) (path : List ℕ) (preceding at : ℕ) {p : System} {k : ℕ} → preceding ≤ 32
    → read_system_in d nest s names path preceding at ≡ got p k → preceding + components p ≤ 32
components_few d nest s names path preceding at h e = of_found _ (read_system_in d nest s names path preceding at) (few_components d nest s names path preceding at h) e

-- As many types are read as were asked for.
pub free_count_lem : (d : Dialect) (n : ℕ) (s : List ℕ) (at : ℕ) {ts : List ℕ} {m : ℕ} → free_types_in d n s at ≡ got ts m → length ts ≡ n
unfolding free_types_in
free_count_lem d zero s at {ts} e = let z : [] ≡ ts = cc in ap length (sym z)
free_count_lem d (suc n) s at {ts} e =
    let h = parts (type_at_in d s at) (λ t next. and_then (free_types_in d n s next) (λ us m. got (t ∷ us) m)) e in
    let k = parts (free_types_in d n s h.place) (λ us m. got (h.value ∷ us) m) h.rest in
    let z : h.value ∷ k.value ≡ ts = cc in
    ap length (sym z) ∙ ap suc (free_count_lem d n s h.place k.first)

-- The parts of a sheet.
pub record SheetPartsIn (d : Dialect) (s charter : List ℕ) (a : Sheet) (k : ℕ) : Type 0 where
  pub start : ℕ
  pub types : header_in d s ≡ got a.free start
  pub body : read_system_in d 64 s (length a.free) [] 0 start ≡ got a.system k
  pub end : k ≡ length s
  pub few : length a.free ≤ 32
  pub short : length s ≤ 4096
  pub short_charter : length charter ≤ 4096

abbrev pub SheetParts : List ℕ → List ℕ → Sheet → ℕ → Type 0
SheetParts = SheetPartsIn current

header_few : (d : Dialect) (s : List ℕ) {free : List ℕ} {at : ℕ} → header_in d s ≡ got free at → length free ≤ 32
unfolding header_in
header_few d s e =
    let h = parts (below 33 s 0) (λ n next. free_types_in d n s next) e in
    omega (arith, below_found 33 s 0 h.first, free_count_lem d h.value s h.place h.rest)

sheet_made : (d : Dialect) (s charter free : List ℕ) (at : ℕ) (system : System) (next : ℕ) (a : Sheet) (k : ℕ) → header_in d s ≡ got free at
    → read_system_in d 64 s (length free) [] 0 at ≡ got system next → eqb next (length s) ≡ true
    → got (record { free = free; system = system }) next ≡ got a k
    → (leb (length s) 4096 && leb (length charter) 4096) ≡ true → SheetPartsIn d s charter a k
sheet_made d s charter free at system next a k h r w e t =
    let made : record { free = free; system = system } ≡ a = cc in
    let l = both_true (leb (length s) 4096) (leb (length charter) 4096) t in
    let n : next ≡ k = cc in
    let f : free ≡ a.free = ap (λ (x : Sheet). x.free) made in
    let y : system ≡ a.system = ap (λ (x : Sheet). x.system) made in
    record {
      start = at;
      types = rw f at h;
      body = rw (f, y, n) at r;
      end = rw n at (eqb-true next (length s) w);
      few = rw f at (header_few d s h);
      short = leb-true (length s) 4096 l.0;
      short_charter = leb-true (length charter) 4096 l.1;
    }

pub sheet_parts_in : (d : Dialect) (s charter : List ℕ) {a : Sheet} {k : ℕ} → sheet_of_in d s charter ≡ got a k → SheetPartsIn d s charter a k
unfolding sheet_of_in read_sheet_in to_its_end
sheet_parts_in d s charter {a} {k} e =
    let t = passed (leb (length s) 4096 && leb (length charter) 4096) (read_sheet_in d s) 1 4096 e in
    let h = parts (header_in d s) _ t.then in
    let b = parts (read_system_in d 64 s (length h.value) [] 0 h.place) _ h.rest in
    let w = passed (eqb b.place (length s)) (got (record { free = h.value; system = b.value }) b.place) 3 b.place b.rest in
    sheet_made d s charter h.value h.place b.value b.place a k h.first b.first w.test w.then t.test

pub sheet_parts : (s charter : List ℕ) {a : Sheet} {k : ℕ} → sheet_of s charter ≡ got a k → SheetParts s charter a k
sheet_parts s charter e = sheet_parts_in current s charter e
