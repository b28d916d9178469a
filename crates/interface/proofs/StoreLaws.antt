-- The components of a sheet that was read can be stored in the table: their numbers are consecutive, there are at most 32 of
-- them, their paths have at most eight groups below 64, none twice, their purposes are below 16, and they have fewer acts than the sheet
-- has bytes.
use Prim.Native.Nat.{ℕ, zero, suc, ◌+◌, ◌*◌, ◌<◌, ◌≤◌}
use mathlib.Core.Option.{Option, some}
use mathlib.Core.Path.{◌≡◌, refl, sym, ap, ap₂, ◌∙◌}
use mathlib.Core.List.{List, [], ◌∷◌, ◌++◌, map}
use mathlib.Core.Bool.{Bool, true, false, ◌||◌}
use native.Mathlib.Omega.{arith}
use lib.ListN.{length, get_or, replicate, length-append, length-replicate, get_or-replicate, get_or-append, get_or-eq_default}
use lib.Seq.{get_or-append_seam}
use lib.Dec.{eqb}
use Rattle.reading.specs.declared.Dialect.TheVariants.{Current as current}
use borrow.Author.Tests.{eqb-false, ne_eqb}
use Rattle.reading.specs.Read.{Read, got, refused, and_then}
use Rattle.reading.specs.Syntax.{Process, nil, par, new, input, output, repl, System, nilₛ, parₛ, groupₛ, newₛ, compₛ, Sheet, components}
use native.Mathlib.Decide.{ℕ_discrete, dec_lt}
use Rattle.reading.specs.Forms.{member, system_at, process_at}
use Rattle.reading.specs.System.{process_from, read_process_in, read_process, component, system_from, read_system_in, read_system}
use Rattle.reading.specs.declared.Form.{Form}
use Rattle.reading.specs.declared.Form.TheVariants.{Nil, Par, Group, New, Component, Input, Output, Replicate}
use Rattle.reading.proofs.Parts.{never, parts}
use Rattle.reading.proofs.FormLaws.{FitsSystem, NewTo, GroupNew, system_room, system_group}
use Rattle.reading.proofs.ReadLaws.{process_local, read_system_local}
use Rattle.reading.proofs.Local.{place_after_lem}
use Rattle.reading.proofs.TreeLaws.{components_few, SheetParts}
use Rattle.inference.specs.Lists.{gather, rising}
use Rattle.inference.specs.Acts.{Act, Component as Owner, component_at, Located, acts, acts_of, locate, located}
use Rattle.inference.specs.Interface.{interface}
use Rattle.inference.specs.Rows.{Orderly, table_entries, row_entries}
use Rattle.inference.specs.Walks.{charged_all, worst_all}
use Rattle.interface.proofs.CellLaws.{AllOf, of_none, of_more}
use Rattle.interface.proofs.TableLaws.{NoneTwice, twice_none, twice_more, FitsRow, Clear, AllStorable, store_none, store_more, table_from, table_orderly}

-- How many acts a process has.
unfoldable pub act_count : Process → ℕ
act_count nil = 0
act_count (par p q) = act_count p + act_count q
act_count (new t p) = act_count p
act_count (input x t p) = suc (act_count p)
act_count (output x y p) = suc (act_count p)
act_count (repl p) = act_count p

pub open_acts : (c : Owner) (r : Bool) (scope : List (Option ℕ)) (p : Process) → length (acts c r scope p) ≡ act_count p
unfolding acts act_count
open_acts c r scope nil = refl
open_acts c r scope (par p q) = length-append (acts c r scope p) (acts c r scope q) ∙ ap₂ ◌+◌ (open_acts c r scope p) (open_acts c r scope q)
open_acts c r scope (new t p) = open_acts c r (scope ++ (some t ∷ [])) p
open_acts c r scope (input x t p) = ap suc (open_acts c r (scope ++ (some t ∷ [])) p)
open_acts c r scope (output x y p) = ap suc (open_acts c r scope p)
open_acts c r scope (repl p) = open_acts c true scope p

-- Each act takes at least one byte.
module _ (read : ℕ → ℕ → Read Process) (l : (ns m : ℕ) (p : Process) (k : ℕ) → read ns m ≡ got p k → m + act_count p ≤ k)
    (at names : ℕ) where
  acts_from : (f : Form) (next : ℕ) → at < next → {p : Process} {k : ℕ} → process_from read at names f next ≡ got p k → at + act_count p ≤ k
  unfolding process_from act_count
  acts_from Nil next h {p} {k} e =
      let z : nil ≡ p = cc in
      let w : next ≡ k = cc in
      omega (arith, ap act_count z)
  acts_from Par next h {p} {k} e =
      let a = parts (read names next) (λ x m. and_then (read names m) (λ y j. got (par x y) j)) e in
      let b = parts (read names a.place) (λ y j. got (par a.value y) j) a.rest in
      let z : par a.value b.value ≡ p = cc in
      let w : b.place ≡ k = cc in
      omega (arith, ap act_count z, l names next a.value a.place a.first, l names a.place b.value b.place b.first)
  acts_from (New t) next h {p} {k} e =
      let a = parts (read (names + 1) next) (λ x j. got (new t x) j) e in
      let z : new t a.value ≡ p = cc in
      let w : a.place ≡ k = cc in
      omega (arith, ap act_count z, l (names + 1) next a.value a.place a.first)
  acts_from (Input i) next h {p} {k} e =
      let a = parts (read (names + 1) next) (λ x j. got (input i.channel i.object x) j) e in
      let z : input i.channel i.object a.value ≡ p = cc in
      let w : a.place ≡ k = cc in
      omega (arith, ap act_count z, l (names + 1) next a.value a.place a.first)
  acts_from (Output i) next h {p} {k} e =
      let a = parts (read names next) (λ x j. got (output i.channel i.object x) j) e in
      let z : output i.channel i.object a.value ≡ p = cc in
      let w : a.place ≡ k = cc in
      omega (arith, ap act_count z, l names next a.value a.place a.first)
  acts_from Replicate next h {p} {k} e =
      let a = parts (read names next) (λ x j. got (repl x) j) e in
      let z : repl a.value ≡ p = cc in
      let w : a.place ≡ k = cc in
      omega (arith, ap act_count z, l names next a.value a.place a.first)
  acts_from (Group g) next h e = never e
  acts_from (Component own) next h e = never e

pub acts_read : (nest : ℕ) (s : List ℕ) (names at : ℕ) {p : Process} {k : ℕ} → read_process nest s names at ≡ got p k → at + act_count p ≤ k
unfolding read_process_in
acts_read zero s names at e =
    let a = parts (process_at s at 0 names) (λ f next. refused 5 at) e in never a.rest
acts_read (suc n) s names at e =
    let a = parts (process_at s at (suc n) names) (λ f next. process_from (λ ns m. read_process n s ns m) at names f next) e in
    acts_from (λ ns m. read_process n s ns m) (λ ns m p k f. acts_read n s ns m f) at names a.value a.place
    (omega (arith, place_after_lem (at + 1) (λ b. process_at b at (suc n) names) (process_local current at (suc n) names) s a.first)) a.rest

-- The acts of a component are its own.
all_append : (n : ℕ) {xs ys : List Act} → AllOf n xs → AllOf n ys → AllOf n (xs ++ ys)
all_append n of_none h = h
all_append n (of_more e more) h = of_more e (all_append n more h)

own_acts : (c : Owner) (r : Bool) (scope : List (Option ℕ)) (p : Process) → AllOf c.number (acts c r scope p)
unfolding acts
own_acts c r scope nil = of_none
own_acts c r scope (par p q) = all_append c.number (own_acts c r scope p) (own_acts c r scope q)
own_acts c r scope (new t p) = own_acts c r (scope ++ (some t ∷ [])) p
own_acts c r scope (input x t p) = of_more refl (own_acts c r (scope ++ (some t ∷ [])) p)
own_acts c r scope (output x y p) = of_more refl (own_acts c r scope p)
own_acts c r scope (repl p) = own_acts c true scope p

-- A group that is new to a path, put after it, stands in it once.
member_append : (x g : ℕ) (path : List ℕ) → member x (path ++ (g ∷ [])) ≡ (member x path || eqb g x)
unfolding member
member_append x g [] = go (eqb g x)
  where
    go : (b : Bool) → (b || false) ≡ b
    go true = refl
    go false = refl
member_append x g (y ∷ path) = rw (member_append x g path) (go (eqb y x) (member x path) (eqb g x))
  where
    go : (a b c : Bool) → (a || (b || c)) ≡ ((a || b) || c)
    go true b c = refl
    go false b c = refl

neither : (a b : Bool) → (a || b) ≡ false → (a ≡ false) × (b ≡ false)
neither false b h = (refl, h)
neither true b h = let z : ◌≡◌ {A = ℕ} 0 1 = cc in absurd (omega arith)

once_more : (g : ℕ) {path : List ℕ} → NoneTwice path → member g path ≡ false → NoneTwice (path ++ (g ∷ []))
unfolding member
once_more g twice_none h = twice_more refl twice_none
once_more g (twice_more {g = x} {rest = rest} e more) h =
    let n : (eqb x g ≡ false) × (member g rest ≡ false) = neither (eqb x g) (member g rest) h in
    twice_more (member_append x g rest ∙ rw (e, ne_eqb g x (λ q. eqb-false x g n.0 (sym q))) refl) (once_more g more n.1)

-- A path with one more group fits a row.
fits_more : (path : List ℕ) (g : ℕ) → FitsRow path → length path < 8 → NewTo path g → FitsRow (path ++ (g ∷ []))
fits_more path g h short new_to = record {
  short = rw (length-append path (g ∷ [])) (omega arith);
  groups = λ i p. each i (rw (length-append path (g ∷ [])) at p);
  once = once_more g h.once new_to.fresh;
}
  where
    each : (i : ℕ) → i < length path + 1 → get_or (path ++ (g ∷ [])) i 0 < 64
    each i p = go (ℕ_discrete i (length path))
      where
        go : Dec (i ≡ length path) → get_or (path ++ (g ∷ [])) i 0 < 64
        go (yes e) = rw (e, get_or-append_seam path g [] 0) new_to.small
        go (no f) =
            let lt : i < length path = omega arith in
            rw (get_or-append path (g ∷ []) 0 i lt) (h.groups i lt)

-- Components stored one after another, then more.
store_append : (n : ℕ) {xs ys : List Located} (m : ℕ) → AllStorable n xs → m ≡ n + length xs → AllStorable m ys → AllStorable n (xs ++ ys)
store_append n {ys = ys} m store_none e h = let f : m ≡ n = omega arith in rw (← f) h
store_append n m (store_more ok more) e h = store_more ok (store_append (suc n) m more (omega arith) h)

pub located_count : (number : ℕ) (path : List ℕ) (scope : List (Option ℕ)) (s : System) → length (locate number path scope s) ≡ components s
unfolding locate components
located_count number path scope nilₛ = refl
located_count number path scope (parₛ l r) =
    length-append (locate number path scope l) (locate (number + components l) path scope r)
    ∙ ap₂ ◌+◌ (located_count number path scope l) (located_count (number + components l) path scope r)
located_count number path scope (groupₛ g p) = located_count number (path ++ (g ∷ [])) scope p
located_count number path scope (newₛ t p) = located_count number path (scope ++ (some t ∷ [])) p
located_count number path scope (compₛ own p) = refl

module _ (read : ℕ → List ℕ → ℕ → ℕ → Read System) (process : ℕ → Read Process)
    (later : (ns : ℕ) (path : List ℕ) (preceding m : ℕ) (p : System) (k : ℕ) → read ns path preceding m ≡ got p k → m ≤ k)
    (l : (ns : ℕ) (path : List ℕ) (preceding m : ℕ) (scope : List (Option ℕ)) (p : System) (k : ℕ) → read ns path preceding m ≡ got p k → FitsRow path → k ≤ 65000
    → AllStorable preceding (locate preceding path scope p))
    (a : (m : ℕ) (p : Process) (k : ℕ) → process m ≡ got p k → m + act_count p ≤ k)
    (at names : ℕ) (path : List ℕ) (preceding : ℕ) (scope : List (Option ℕ)) (fits : FitsRow path) where
  store_from : (f : Form) (next : ℕ) → FitsSystem 64 0 (length path) preceding f → GroupNew path f → {p : System} {k : ℕ}
      → system_from read process at names path preceding f next ≡ got p k → k ≤ 65000 → AllStorable preceding (locate preceding path scope p)
  unfolding system_from component FitsSystem GroupNew locate component_at acts_of
  store_from Nil next h g {p} e few = let z : nilₛ ≡ p = cc in rw (← z) store_none
  store_from Par next h g {p} {k} e few =
      let x = parts (read names path preceding next) (λ u m. and_then (read names path (preceding + components u) m) (λ v j. got (parₛ u v) j)) e in
      let y = parts (read names path (preceding + components x.value) x.place) (λ v j. got (parₛ x.value v) j) x.rest in
      let z : parₛ x.value y.value ≡ p = cc in
      let w : y.place ≡ k = cc in
      let mono = later names path (preceding + components x.value) x.place y.value y.place y.first in
      rw (← z) (store_append preceding (preceding + components x.value)
      (l names path preceding next scope x.value x.place x.first fits (omega arith))
      (ap (λ (n : ℕ). preceding + n) (sym (located_count preceding path scope x.value)))
      (l names path (preceding + components x.value) x.place scope y.value y.place y.first fits (omega arith)))
  store_from (Group b) next h g {p} {k} e few =
      let x = parts (read names (path ++ (b ∷ [])) preceding next) (λ u j. got (groupₛ b u) j) e in
      let z : groupₛ b x.value ≡ p = cc in
      let w : x.place ≡ k = cc in
      rw (← z) (l names (path ++ (b ∷ [])) preceding next scope x.value x.place x.first (fits_more path b fits h.1 g) (omega arith))
  store_from (New t) next h g {p} {k} e few =
      let x = parts (read (names + 1) path preceding next) (λ u j. got (newₛ t u) j) e in
      let z : newₛ t x.value ≡ p = cc in
      let w : x.place ≡ k = cc in
      rw (← z) (l (names + 1) path preceding next (scope ++ (some t ∷ [])) x.value x.place x.first fits (omega arith))
  store_from (Component own) next h g {p} {k} e few =
      let x = parts (process next) (λ u j. got (compₛ own u) j) e in
      let z : compₛ own x.value ≡ p = cc in
      let w : x.place ≡ k = cc in
      let c : Owner = component_at preceding path own in
      rw (← z) (store_more (record {
        number = refl;
        fits = fits_more path own.group fits h.1 g.0;
        purpose_low = g.1;
        own = own_acts c false scope x.value;
        few = omega (arith, open_acts c false scope x.value, a next x.value x.place x.first);
      })
      store_none)
  store_from (Input i) next h g e few = never e
  store_from (Output i) next h g e few = never e
  store_from Replicate next h g e few = never e

-- what FitsSystem says of the path and of the components does not depend on the nesting and the names
fits_any : (nest names long preceding : ℕ) (f : Form) → FitsSystem nest names long preceding f → FitsSystem 64 0 long preceding f
unfolding FitsSystem
fits_any nest names long preceding Nil h = omega arith
fits_any nest names long preceding Par h = omega arith
fits_any nest names long preceding (Group g) h = (omega arith, h.1)
fits_any nest names long preceding (New t) h = (omega arith, omega arith)
fits_any nest names long preceding (Component own) h = (omega arith, h.1, h.2)
fits_any nest names long preceding (Input a) h = h
fits_any nest names long preceding (Output a) h = h
fits_any nest names long preceding Replicate h = h

store_read : (nest : ℕ) (s : List ℕ) (names : ℕ) (path : List ℕ) (preceding at : ℕ) (scope : List (Option ℕ)) (p : System) (k : ℕ)
    → read_system nest s names path preceding at ≡ got p k → FitsRow path → k ≤ 65000 → AllStorable preceding (locate preceding path scope p)
unfolding read_system_in
store_read zero s names path preceding at scope p k e fits few =
    let a = parts (system_at s at 0 names path preceding) (λ f next. refused 5 at) e in never a.rest
store_read (suc n) s names path preceding at scope p k e fits few =
    let a = parts (system_at s at (suc n) names path preceding)
    (λ f next. system_from (λ ns q i m. read_system n s ns q i m) (λ m. read_process n s names m) at names path preceding f next) e in
    store_from (λ ns q i m. read_system n s ns q i m) (λ m. read_process n s names m)
    (λ ns q i m r j f. omega (arith, place_after_lem (m + 1) (λ b. read_system n b ns q i m) (read_system_local current n ns q i m) s f))
    (λ ns q i m sc r j f fi fe. store_read n s ns q i m sc r j f fi fe)
    (λ m r j f. acts_read n s names m f) at names path preceding scope fits a.value a.place
    (fits_any (suc n) names (length path) preceding a.value (system_room current s at (suc n) names path preceding a.first))
    (system_group current s at (suc n) names path preceding a.first) a.rest few

-- The components of a sheet that was read can be stored, and there are at most 32.
pub sheet_storable : (s charter : List ℕ) (sheet : Sheet) (k : ℕ) → SheetParts s charter sheet k → AllStorable 0 (located sheet)
unfolding located
sheet_storable s charter sheet k h =
    store_read 64 s (length sheet.free) [] 0 h.start (map some sheet.free) sheet.system k h.body
    (record { short = omega arith; groups = λ i p. absurd (omega arith); once = twice_none }) (omega (arith, h.end, h.short))

pub sheet_components : (s charter : List ℕ) (sheet : Sheet) (k : ℕ) → SheetParts s charter sheet k → components sheet.system ≤ 32
sheet_components s charter sheet k h =
    omega (arith, components_few current 64 s (length sheet.free) [] 0 h.start (omega arith) h.body)

-- The table that a sheet's walk leaves in clear memory, where the sheet passes questions 7 to 10.
module _ (s charter : List ℕ) (sheet : Sheet) (k : ℕ) (h : SheetParts s charter sheet k) (rows : ℕ) (room : components sheet.system ≤ rows)
    (table : List ℕ) (long : length table ≡ rows * 211) (clear : Clear 0 table) (typed : worst_all (located sheet) ≡ 11) where
  count : length (located sheet) ≡ components sheet.system
  unfolding located
  count = located_count 0 [] (map some sheet.free) sheet.system

  -- It holds the sheet's interface.
  pub sheet_table : table_entries (charged_all table (located sheet)) (components sheet.system) ≡ interface sheet
  unfolding table_entries interface
  sheet_table =
      ap (λ (n : ℕ). gather (row_entries (charged_all table (located sheet))) (rising 0 n)) (sym count)
      ∙ table_from (located sheet) 0 (sheet_storable s charter sheet k h) (omega (arith, count, room)) table long clear typed

  -- Its rows have their groups in order.
  pub sheet_orderly : (n : ℕ) → n < components sheet.system → Orderly (charged_all table (located sheet)) n
  sheet_orderly n p =
      table_orderly (located sheet) 0 (sheet_storable s charter sheet k h) (omega (arith, count, room)) table long clear typed n (omega arith)
      (omega (arith, count))

pub clear_zeros : (n : ℕ) → Clear 0 (replicate n 0)
unfolding Clear
clear_zeros n i p = go (dec_lt i n)
  where
    go : Dec (i < n) → ◌≡◌ {A = ℕ} (get_or (replicate n 0) i 0) 0
    go (yes lt) = get_or-replicate n i 0 0 lt
    go (no f) = get_or-eq_default (replicate n 0) 0 (rw (length-replicate {A = ℕ} n 0) (omega arith))
