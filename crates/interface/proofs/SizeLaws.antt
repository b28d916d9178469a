-- How long an interface can be: thirteen bytes for the entry of a component and a kind, and three for each group disclosed to. An
-- act discloses to one group at most and takes at least one byte of the sheet, so that 32 components and 4,096 bytes make at most
-- 18,944 bytes of interface.
use Prim.Native.Nat.{ℕ, zero, suc, ◌+◌, ◌*◌, ◌<◌, ◌≤◌}
use mathlib.Core.Option.{Option, some}
use mathlib.Core.Path.{◌≡◌, refl}
use mathlib.Core.List.{List, [], ◌∷◌, ◌++◌, map}
use mathlib.Core.Bool.{Bool, true, false, cond, not, ◌&&◌}
use native.Mathlib.Omega.{arith}
use native.Mathlib.Decide.{ℕ_discrete}
use lib.ListN.{length, length-append}
use lib.Dec.{eqb}
use borrow.Author.Tests.{eq-eqb, ne_eqb}
use Rattle.reading.specs.declared.Dialect.TheVariants.{Current as current}
use Rattle.reading.specs.Read.{Read, got, refused, and_then}
use Rattle.reading.specs.Syntax.{Process, System, nilₛ, parₛ, groupₛ, newₛ, compₛ, Sheet, components}
use Rattle.reading.specs.Forms.{system_at}
use Rattle.reading.specs.System.{component, system_from, read_process, read_system_in, read_system}
use Rattle.reading.specs.declared.Form.{Form}
use Rattle.reading.specs.declared.Form.TheVariants.{Nil, Par, Group, New, Component, Input, Output, Replicate}
use Rattle.reading.proofs.Parts.{never, parts}
use Rattle.reading.proofs.ReadLaws.{system_local}
use Rattle.reading.proofs.Local.{place_after_lem}
use Rattle.reading.proofs.TreeLaws.{SheetParts}
use Rattle.needs.specs.declared.Need.{Need}
use Rattle.needs.specs.declared.Need.TheVariants.{Nothing, Read as Reading, Write, Access, Disclose}
use Rattle.inference.specs.Lists.{only, gather, rising}
use Rattle.inference.specs.Counts.{Count, ◌⊕◌, repeatedly, is_zero}
use Rattle.inference.specs.Acts.{Act, Component as Owner, component_at, Located, acts_of, locate, located}
use Rattle.inference.specs.Needs.{need_of, disclosures, weigh, total, disclosed}
use Rattle.inference.specs.Interface.{Entry, disclosures_of, entry_of, holds_any, entries_of, interface, entry_bytes, interface_bytes}
use Rattle.inference.proofs.CountLaws.{nothing_join}
use Rattle.interface.proofs.Alls.{All, done, also}
use Rattle.interface.proofs.StoreLaws.{act_count, open_acts, acts_read, located_count, sheet_components}
use Rattle.interface.proofs.InterfaceLaws.{gather_few, chosen_few, entry_length, list_most}
use Rattle.interface.proofs.ByteLaws.{Small, interface_small}

-- The sum over the numbers from a start on.
sum : (ℕ → ℕ) → ℕ → ℕ → ℕ
sum w start zero = 0
sum w start (suc n) = w start + sum w (suc start) n

sum_most : (v w : ℕ → ℕ) → ((i : ℕ) → v i ≤ w i) → (start n : ℕ) → sum v start n ≤ sum w start n
unfolding sum
sum_most v w h start zero = omega arith
sum_most v w h start (suc n) = omega (arith, h start, sum_most v w h (suc start) n)

sum_plus : (v w : ℕ → ℕ) (start n : ℕ) → sum (λ i. v i + w i) start n ≡ sum v start n + sum w start n
unfolding sum
sum_plus v w start zero = refl
sum_plus v w start (suc n) = omega (arith, sum_plus v w (suc start) n)

sum_nothing : (start n : ℕ) → sum (λ i. 0) start n ≡ 0
unfolding sum
sum_nothing start zero = refl
sum_nothing start (suc n) = omega (arith, sum_nothing (suc start) n)

-- One number is counted once.
one : ℕ → ℕ → ℕ
one t i = cond (eqb t i) 1 0

sum_past : (t start n : ℕ) → t < start → sum (one t) start n ≡ 0
unfolding sum one
sum_past t start zero h = refl
sum_past t start (suc n) h = rw (ne_eqb t start (λ e. omega arith)) (omega (arith, sum_past t (suc start) n (omega arith)))

sum_one : (t start n : ℕ) → sum (one t) start n ≤ 1
unfolding sum
sum_one t start zero = omega arith
sum_one t start (suc n) = go (ℕ_discrete t start) (sum_one t (suc start) n)
  where
    go : Dec (t ≡ start) → sum (one t) (suc start) n ≤ 1 → one t start + sum (one t) (suc start) n ≤ 1
    go (yes e) h = omega (arith, here, sum_past t (suc start) n (omega arith))
      where
        here : one t start ≡ 1
        here = unfold one in rw (eq-eqb t start e) refl
    go (no f) h = omega (arith, off)
      where
        off : one t start ≡ 0
        off = unfold one in rw (ne_eqb t start f) refl

chosen_count : {A : Type 0} (q : A → Bool) (f : ℕ → A) (start n : ℕ)
    → length (only q (map f (rising start n))) ≡ sum (λ i. cond (q (f i)) 1 0) start n
unfolding sum only rising
chosen_count q f start zero = refl
chosen_count {A} q f start (suc n) = go (q (f start)) (only q (map f (rising (suc start) n))) (chosen_count q f (suc start) n)
  where
    go : (b : Bool) (l : List A) {m : ℕ} → length l ≡ m → length (cond b (f start ∷ l) l) ≡ cond b 1 0 + m
    go true l e = omega (arith, e)
    go false l e = omega (arith, e)

-- An act discloses data of one kind to one group at most.
groups : ℕ → Need → ℕ
groups k n = sum (λ g. disclosures k g n) 0 64

groups_of_kind : (t h k : ℕ) → groups k (Disclose t h) ≤ one t k
unfolding groups disclosures one
groups_of_kind t h k = go (eqb t k)
  where
    go : (b : Bool) → sum (λ g. cond (b && eqb h g) 1 0) 0 64 ≤ cond b 1 0
    go true = unfold one in sum_one h 0 64
    go false = omega (arith, sum_nothing 0 64)

no_groups : (n : Need) → ((k g : ℕ) → disclosures k g n ≡ 0) → sum (λ k. groups k n) 0 16 ≤ 1
unfolding groups
no_groups n e = omega (
  arith,
  sum_most (λ k. sum (λ g. disclosures k g n) 0 64) (λ k. 0)
      (λ k. omega (arith, sum_most (λ g. disclosures k g n) (λ g. 0) (λ g. omega (arith, e k g)) 0 64, sum_nothing 0 64)) 0 16,
  sum_nothing 0 16,
)

discloses_once : (n : Need) → sum (λ k. groups k n) 0 16 ≤ 1
discloses_once Nothing = no_groups Nothing (λ k g. unfold disclosures in refl)
discloses_once (Reading t) = no_groups (Reading t) (λ k g. unfold disclosures in refl)
discloses_once (Write t) = no_groups (Write t) (λ k g. unfold disclosures in refl)
discloses_once (Access t) = no_groups (Access t) (λ k g. unfold disclosures in refl)
discloses_once (Disclose t h) =
    omega (arith, sum_most (λ k. groups k (Disclose t h)) (one t) (groups_of_kind t h) 0 16, sum_one t 0 16)

-- So acts disclose to no more groups than they are many.
held : List Act → ℕ → ℕ → ℕ
held l k g = cond (not (is_zero (disclosed k g l))) 1 0

held_of : List Act → ℕ → ℕ
held_of l k = sum (held l k) 0 64

join_held : (d : ℕ) (r : Bool) (x : Count) → cond (not (is_zero (weigh r d ⊕ x))) 1 0 ≤ d + cond (not (is_zero x)) 1 0
unfolding weigh repeatedly
join_held zero true x = rw (nothing_join x) (omega arith)
join_held zero false x = rw (nothing_join x) (omega arith)
join_held (suc d) r x = go (not (is_zero (weigh r (suc d) ⊕ x)))
  where
    go : (b : Bool) → cond b 1 0 ≤ suc d + cond (not (is_zero x)) 1 0
    go true = omega arith
    go false = omega arith

held_more : (a : Act) (rest : List Act) (k g : ℕ) → held (a ∷ rest) k g ≤ disclosures k g (need_of a) + held rest k g
unfolding held disclosed total
held_more a rest k g = join_held (disclosures k g (need_of a)) a.repeated (total (λ b. disclosures k g (need_of b)) rest)

held_of_more : (a : Act) (rest : List Act) (k : ℕ) → held_of (a ∷ rest) k ≤ groups k (need_of a) + held_of rest k
unfolding held_of groups
held_of_more a rest k = omega (
  arith,
  sum_most (held (a ∷ rest) k) (λ g. disclosures k g (need_of a) + held rest k g) (held_more a rest k) 0 64,
  sum_plus (λ g. disclosures k g (need_of a)) (held rest k) 0 64,
)

held_few : (l : List Act) → sum (held_of l) 0 16 ≤ length l
held_few [] = omega (arith, sum_most (held_of []) (λ k. 0) none 0 16, sum_nothing 0 16)
  where
    none : (k : ℕ) → held_of [] k ≤ 0
    none k = unfold held_of in omega (
      arith,
      sum_most (held [] k) (λ g. 0) (λ g. unfold held disclosed total is_zero in omega arith) 0 64,
      sum_nothing 0 64,
    )
held_few (a ∷ rest) = omega (
  arith,
  sum_most (held_of (a ∷ rest)) (λ k. groups k (need_of a) + held_of rest k) (held_of_more a rest) 0 16,
  sum_plus (λ k. groups k (need_of a)) (held_of rest) 0 16,
  discloses_once (need_of a),
  held_few rest,
)

-- The groups that entries disclose to, together.
unfoldable pub items_in : List Entry → ℕ
items_in [] = 0
items_in (e ∷ es) = length e.disclose + items_in es

items_append : (xs ys : List Entry) → items_in (xs ++ ys) ≡ items_in xs + items_in ys
unfolding items_in
items_append [] ys = omega arith
items_append (e ∷ xs) ys = omega (arith, items_append xs ys)

items_chosen : (f : ℕ → Entry) (start n : ℕ) → items_in (only holds_any (map f (rising start n))) ≤ sum (λ k. length (f k).disclose) start n
unfolding sum only rising items_in
items_chosen f start zero = omega arith
items_chosen f start (suc n) = go (holds_any (f start)) (only holds_any (map f (rising (suc start) n))) (items_chosen f (suc start) n)
  where
    go : (b : Bool) (es : List Entry) {m : ℕ} → items_in es ≤ m → items_in (cond b (f start ∷ es) es) ≤ length (f start).disclose + m
    go true es h = omega arith
    go false es h = omega arith

entry_items : (c : Owner) (l : List Act) (k : ℕ) → length (entry_of c l k).disclose ≡ held_of l k
unfolding entry_of disclosures_of held_of held
entry_items c l k = chosen_count (λ d. not (is_zero d.count)) (λ g. record { group = g; count = disclosed k g l }) 0 64

component_items : (l : Located) → items_in (entries_of l) ≤ length (acts_of l)
unfolding entries_of
component_items l = omega (
  arith,
  items_chosen (entry_of l.component (acts_of l)) 0 16,
  sum_most (λ k. length (entry_of l.component (acts_of l) k).disclose) (held_of (acts_of l)) (λ k. omega (arith, entry_items l.component (acts_of l) k)) 0 16,
  held_few (acts_of l),
)

-- The acts of components together.
unfoldable pub acts_in : List Located → ℕ
acts_in [] = 0
acts_in (l ∷ rest) = length (acts_of l) + acts_in rest

acts_append : (xs ys : List Located) → acts_in (xs ++ ys) ≡ acts_in xs + acts_in ys
unfolding acts_in
acts_append [] ys = omega arith
acts_append (x ∷ xs) ys = omega (arith, acts_append xs ys)

all_items : (ls : List Located) → items_in (gather entries_of ls) ≤ acts_in ls
unfolding gather acts_in
all_items [] = unfold items_in in omega arith
all_items (l ∷ rest) = omega (arith, items_append (entries_of l) (gather entries_of rest), component_items l, all_items rest)

-- Entries by their number and their groups.
entries_size : {es : List Entry} → All Small es → length (interface_bytes es) ≤ 13 * length es + 3 * items_in es
unfolding interface_bytes gather items_in
entries_size done = omega arith
entries_size (also {x = e} {xs = es} s more) = omega (
  arith,
  length-append (entry_bytes e) (gather entry_bytes es),
  entry_length e,
  list_most e.disclose,
  s.path.short,
  entries_size more,
)

component_entries : (l : Located) → length (entries_of l) ≤ 16
unfolding entries_of
component_entries l = chosen_few holds_any (entry_of l.component (acts_of l)) 0 16

-- Each act takes at least one byte of the sheet.
module _ (read : ℕ → List ℕ → ℕ → ℕ → Read System) (process : ℕ → Read Process)
    (l : (ns : ℕ) (path : List ℕ) (preceding m : ℕ) (scope : List (Option ℕ)) (p : System) (k : ℕ) → read ns path preceding m ≡ got p k
    → m + acts_in (locate preceding path scope p) ≤ k)
    (a : (m : ℕ) (p : Process) (k : ℕ) → process m ≡ got p k → m + act_count p ≤ k)
    (at names : ℕ) (path : List ℕ) (preceding : ℕ) (scope : List (Option ℕ)) where
  located_from : (f : Form) (next : ℕ) → at < next → {p : System} {k : ℕ}
      → system_from read process at names path preceding f next ≡ got p k → at + acts_in (locate preceding path scope p) ≤ k
  unfolding system_from component locate acts_in acts_of
  located_from Nil next h {p} {k} e = let z : nilₛ ≡ p = cc in let w : next ≡ k = cc in rw (← z) (omega arith)
  located_from Par next h {p} {k} e =
      let x = parts (read names path preceding next) (λ u m. and_then (read names path (preceding + components u) m) (λ v j. got (parₛ u v) j)) e in
      let y = parts (read names path (preceding + components x.value) x.place) (λ v j. got (parₛ x.value v) j) x.rest in
      let z : parₛ x.value y.value ≡ p = cc in
      let w : y.place ≡ k = cc in
      rw (← z) (omega (
        arith,
        acts_append (locate preceding path scope x.value) (locate (preceding + components x.value) path scope y.value),
        l names path preceding next scope x.value x.place x.first,
        l names path (preceding + components x.value) x.place scope y.value y.place y.first,
      ))
  located_from (Group b) next h {p} {k} e =
      let x = parts (read names (path ++ (b ∷ [])) preceding next) (λ u j. got (groupₛ b u) j) e in
      let z : groupₛ b x.value ≡ p = cc in
      let w : x.place ≡ k = cc in
      rw (← z) (omega (arith, l names (path ++ (b ∷ [])) preceding next scope x.value x.place x.first))
  located_from (New t) next h {p} {k} e =
      let x = parts (read (names + 1) path preceding next) (λ u j. got (newₛ t u) j) e in
      let z : newₛ t x.value ≡ p = cc in
      let w : x.place ≡ k = cc in
      rw (← z) (omega (arith, l (names + 1) path preceding next (scope ++ (some t ∷ [])) x.value x.place x.first))
  located_from (Component own) next h {p} {k} e =
      let x = parts (process next) (λ u j. got (compₛ own u) j) e in
      let z : compₛ own x.value ≡ p = cc in
      let w : x.place ≡ k = cc in
      rw (← z) (omega (
        arith,
        open_acts (component_at preceding path own) false scope x.value,
        a next x.value x.place x.first,
      ))
  located_from (Input i) next h e = never e
  located_from (Output i) next h e = never e
  located_from Replicate next h e = never e

located_acts : (nest : ℕ) (s : List ℕ) (names : ℕ) (path : List ℕ) (preceding at : ℕ) (scope : List (Option ℕ)) (p : System) (k : ℕ)
    → read_system nest s names path preceding at ≡ got p k → at + acts_in (locate preceding path scope p) ≤ k
unfolding read_system_in
located_acts zero s names path preceding at scope p k e =
    let x = parts (system_at s at 0 names path preceding) (λ f next. refused 5 at) e in never x.rest
located_acts (suc n) s names path preceding at scope p k e =
    let x = parts (system_at s at (suc n) names path preceding)
    (λ f next. system_from (λ ns q i m. read_system n s ns q i m) (λ m. read_process n s names m) at names path preceding f next) e in
    located_from (λ ns q i m. read_system n s ns q i m) (λ m. read_process n s names m)
    (λ ns q i m sc r j f. located_acts n s ns q i m sc r j f) (λ m r j f. acts_read n s names m f) at names path preceding scope
    x.value x.place
    (omega (arith, place_after_lem (at + 1) (λ b. system_at b at (suc n) names path preceding) (system_local current at (suc n) names path preceding) s x.first))
    x.rest

-- So a sheet that was read has at most 4,096 acts, its entries disclose together to at most 4,096 groups, and its interface has at most
-- 18,944 bytes.
module _ (s charter : List ℕ) (sheet : Sheet) (k : ℕ) (h : SheetParts s charter sheet k) where
  pub acts_few : acts_in (located sheet) ≤ 4096
  unfolding located
  acts_few = omega (
    arith,
    located_acts 64 s (length sheet.free) [] 0 h.start (map some sheet.free) sheet.system k h.body,
    h.end,
    h.short,
  )

  pub items_few : items_in (interface sheet) ≤ 4096
  unfolding interface
  items_few = omega (arith, all_items (located sheet), acts_few)

  entries_few : length (interface sheet) ≤ 512
  unfolding interface located
  entries_few = omega (
    arith,
    gather_few entries_of 16 component_entries (located sheet),
    located_count 0 [] (map some sheet.free) sheet.system,
    sheet_components s charter sheet k h,
  )

  pub interface_short : length (interface_bytes (interface sheet)) ≤ 18944
  interface_short = omega (arith, entries_size (interface_small s charter sheet k h), entries_few, items_few)
