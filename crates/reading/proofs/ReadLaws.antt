-- The bytes read determine what is read: every reader of a sheet's parts is local (Local.antt), and reads at least one byte,
-- but for a list of no types. A sheet that reads, reads as one syntax tree. In every dialect.
use Prim.Native.Nat.{ℕ, zero, suc, ◌+◌, ◌<◌, ◌≤◌}
use mathlib.Core.Bool.{Bool, true, false, cond}
use mathlib.Core.List.{List, [], ◌∷◌, ◌++◌}
use mathlib.Core.Path.{◌≡◌, refl, sym, ap, ◌∙◌}
use native.Mathlib.Omega.{arith}
use borrow.Author.Tests.{ltb-true, ltb-false, eqb-false, lt-ltb, le-ltb, ne_eqb}
use lib.Dec.{ltb, eqb}
use lib.ListN.{length, take, get_or, length-take}
use lib.Seq.{get_or-take}
use Rattle.reading.proofs.FormLaws.{FitsProcess, FitsSystem, process_room, process_level, system_room, system_level}
use Rattle.reading.proofs.Local.{agree_before, ends, Local, same_bytes, same_refusal, from_earlier, got_local, refused_local, cond_local, limited_local, then_local}
use Rattle.reading.proofs.Parts.{never, parts, passed, byte_found}
use Rattle.reading.specs.Dialects.{current, groups_in, kinds_in, purposes_in}
use Rattle.reading.specs.Read.{Read, got, refused, and_then, byte_at, below}
use Rattle.reading.specs.Types.{channel, groups_then_kind_in, type_at_in}
use Rattle.reading.specs.Syntax.{Process, nil, par, new, input, output, repl, System, nilₛ, parₛ, groupₛ, newₛ, compₛ, Sheet, components}
use Rattle.reading.specs.Forms.{member, new_form_in, input_form_in, output_form, fresh_group_in, group_form_in, purpose_in, component_form_in, process_form_in, process_at_in, system_form_in, system_at_in}
use Rattle.reading.specs.System.{process_from, read_process_in, component, system_from, read_system_in, free_types_in, header_in, to_its_end, read_sheet_in, sheet_of_in, sheet_of}
use Rattle.reading.specs.declared.Dialect.{Dialect}
use Rattle.reading.specs.declared.Form.{Form}
use Rattle.reading.specs.declared.Form.TheVariants.{Nil, Par, Group, New, Component, Input, Output, Replicate}

-- A byte.
pub byte_place : (s : List ℕ) (at : ℕ) {b k : ℕ} → byte_at s at ≡ got b k → k ≡ at + 1
byte_place s at {b} {k} e = let h = (byte_found s at e).then in cc

byte_ends : (s : List ℕ) (at : ℕ) → ends (byte_at s at) ≡ at + 1
unfolding ends byte_at
byte_ends s at = go (ltb at (length s))
  where
    go : (t : Bool) → ends (cond t (got (get_or s at 0) (at + 1)) (refused 2 at)) ≡ at + 1
    go true = refl
    go false = refl

-- Two lists that agree up to a byte have it both or neither, and the same one.
byte_same : (s s' : List ℕ) (at : ℕ) → take (at + 1) s ≡ take (at + 1) s' → byte_at s' at ≡ byte_at s at
unfolding byte_at
byte_same s s' at h = go (ltb at (length s)) refl
  where
    long : length (take (at + 1) s) ≡ length (take (at + 1) s')
    long = ap length h

    go : (t : Bool) → ltb at (length s) ≡ t
        → cond (ltb at (length s')) (got (get_or s' at 0) (at + 1)) (refused 2 at) ≡ cond t (got (get_or s at 0) (at + 1)) (refused 2 at)
    go true e =
        let k : at < length s' = omega (arith, ltb-true at (length s) e, long, length-take (at + 1) s, length-take (at + 1) s') in
        let v : get_or s' at 0 ≡ get_or s at 0 = sym (get_or-take (at + 1) s' at 0 (omega arith)) ∙ ap (λ (l : List ℕ). get_or l at 0) (sym h) ∙ get_or-take (at + 1) s at 0 (omega arith) in
        rw (lt-ltb at (length s') k, v)
    go false e = rw (le-ltb at (length s') (omega (arith, ltb-false at (length s) e, long, length-take (at + 1) s, length-take (at + 1) s')))

pub byte_local : (at : ℕ) → Local (at + 1) (λ s. byte_at s at)
byte_local at = record { later = λ s. omega (arith, byte_ends s at); same = λ s s' h. byte_same s s' at (rw byte_ends at h) }

-- A byte below a bound, and so a type.
pub below_place : (n : ℕ) (s : List ℕ) (at : ℕ) {b k : ℕ} → below n s at ≡ got b k → k ≡ at + 1
unfolding below
below_place n s at {b} {k} e =
    let h = parts (byte_at s at) (λ b next. cond (ltb b n) (got b next) (refused 4 at)) e in
    let g = passed (ltb h.value n) (got h.value h.place) 4 at h.rest in
    let v : h.place ≡ k = cc in
    omega (arith, byte_place s at h.first)

pub below_local : (n at : ℕ) → Local (at + 1) (λ s. below n s at)
unfolding below
below_local n at = then_local _ _ (byte_local at) (λ s b next e.
    let h = byte_place s at e in
    cond_local (ltb b n) _ _ (got_local b next (omega arith)) (refused_local 4 at (omega arith)))

pub groups_local : (d : Dialect) (n at : ℕ) → Local (at + 1) (λ s. groups_then_kind_in d n s at)
unfolding groups_then_kind_in
groups_local d zero at = below_local (kinds_in d) at
groups_local d (suc n) at = then_local _ _ (below_local (groups_in d) at) (λ s g next e.
    then_local _ _ (from_earlier (omega arith) (groups_local d n next)) (λ s' t m f. got_local (channel g t) m (omega arith)))

pub type_local : (d : Dialect) (at : ℕ) → Local (at + 1) (λ s. type_at_in d s at)
unfolding type_at_in
type_local d at = then_local _ _ (below_local 5 at) (λ s n next e. from_earlier (omega arith) (groups_local d n next))

-- The fields of forms.
pub new_local : (d : Dialect) (at : ℕ) → Local (at + 1) (λ s. new_form_in d s at)
unfolding new_form_in
new_local d at = then_local _ _ (type_local d at) (λ s t next e. got_local (New t) next (omega arith))

pub input_local : (d : Dialect) (at : ℕ) → Local (at + 1) (λ s. input_form_in d s at)
unfolding input_form_in
input_local d at = then_local _ _ (byte_local at) (λ s x next e.
    then_local _ _ (from_earlier (omega arith) (type_local d next)) (λ s' t m f. got_local (Input (record { channel = x; object = t })) m (omega arith)))

pub output_local : (at : ℕ) → Local (at + 1) (λ s. output_form s at)
unfolding output_form
output_local at = then_local _ _ (byte_local at) (λ s x next e.
    then_local _ _ (from_earlier (omega arith) (byte_local next)) (λ s' y m f. got_local (Output (record { channel = x; object = y })) m (omega arith)))

pub fresh_local : (d : Dialect) (at : ℕ) (path : List ℕ) → Local (at + 1) (λ s. fresh_group_in d s at path)
unfolding fresh_group_in
fresh_local d at path = then_local _ _ (below_local (groups_in d) at) (λ s g next e.
    let h = below_place (groups_in d) s at e in
    cond_local (member g path) _ _ (refused_local 6 at (omega arith)) (got_local g next (omega arith)))

pub group_local : (d : Dialect) (at : ℕ) (path : List ℕ) → Local (at + 1) (λ s. group_form_in d s at path)
unfolding group_form_in
group_local d at path = then_local _ _ (fresh_local d at path) (λ s g next e. got_local (Group g) next (omega arith))

pub purpose_local : (d : Dialect) (at : ℕ) → Local at (λ s. purpose_in d s at)
unfolding purpose_in
purpose_local d at =
    cond_local (ltb 0 (purposes_in d)) _ _ (from_earlier (omega arith) (below_local (purposes_in d) at)) (got_local 0 at (omega arith))

pub component_local : (d : Dialect) (at : ℕ) (path : List ℕ) → Local (at + 1) (λ s. component_form_in d s at path)
unfolding component_form_in
component_local d at path = then_local _ _ (fresh_local d at path) (λ s g next e.
    then_local _ _ (purpose_local d next) (λ s' p m f. got_local (Component (record { group = g; purpose = p })) m (omega arith)))

-- Forms.
pub process_local : (d : Dialect) (at nest names : ℕ) → Local (at + 1) (λ s. process_at_in d s at nest names)
unfolding process_at_in process_form_in
process_local d at nest names = then_local _ _ (byte_local at) (λ s code next e.
    let h = byte_place s at e in
    let k : next ≤ at + 1 = omega arith in
    cond_local (eqb code 0) _ _ (limited_local _ at _ k (got_local Nil next (omega arith)))
    (cond_local (eqb code 1) _ _ (limited_local _ at _ k (got_local Par next (omega arith)))
    (cond_local (eqb code 3) _ _ (limited_local _ at _ k (from_earlier (omega arith) (new_local d next)))
    (cond_local (eqb code 5) _ _ (limited_local _ at _ k (from_earlier (omega arith) (input_local d next)))
    (cond_local (eqb code 6) _ _ (limited_local _ at _ k (from_earlier (omega arith) (output_local next)))
    (cond_local (eqb code 7) _ _ (limited_local _ at _ k (got_local Replicate next (omega arith))) (refused_local 4 at k)))))))

pub system_local : (d : Dialect) (at nest names : ℕ) (path : List ℕ) (preceding : ℕ)
    → Local (at + 1) (λ s. system_at_in d s at nest names path preceding)
unfolding system_at_in system_form_in
system_local d at nest names path preceding = then_local _ _ (byte_local at) (λ s code next e.
    let h = byte_place s at e in
    let k : next ≤ at + 1 = omega arith in
    cond_local (eqb code 0) _ _ (limited_local _ at _ k (got_local Nil next (omega arith)))
    (cond_local (eqb code 1) _ _ (limited_local _ at _ k (got_local Par next (omega arith)))
    (cond_local (eqb code 2) _ _ (limited_local _ at _ k (from_earlier (omega arith) (group_local d next path)))
    (cond_local (eqb code 3) _ _ (limited_local _ at _ k (from_earlier (omega arith) (new_local d next)))
    (cond_local (eqb code 4) _ _ (limited_local _ at _ k (from_earlier (omega arith) (component_local d next path))) (refused_local 4 at k))))))

-- Processes: the forms that a process has not are never found there.
map_local : {A B : Type 0} {from : ℕ} (X : List ℕ → Read A) (f : A → B) → Local from X
    → Local from (λ s. and_then (X s) (λ a k. got (f a) k))
map_local X f l = then_local _ _ l (λ s a k e. got_local (f a) k (omega arith))

module _ (read : List ℕ → ℕ → ℕ → Read Process) (l : (names at : ℕ) → Local at (λ s. read s names at)) (nest at names : ℕ) where
  process_from_local : (f : Form) (next : ℕ) → FitsProcess nest names f
      → Local next (λ s. process_from (λ ns m. read s ns m) at names f next)
  unfolding process_from FitsProcess
  process_from_local Nil next h = got_local nil next (omega arith)
  process_from_local Par next h = then_local _ _ (l names next) (λ s p m e. map_local _ (λ q. par p q) (l names m))
  process_from_local (Group g) next h = absurd h
  process_from_local (New t) next h = map_local _ (λ p. new t p) (l (names + 1) next)
  process_from_local (Component own) next h = absurd h
  process_from_local (Input a) next h = map_local _ (λ p. input a.channel a.object p) (l (names + 1) next)
  process_from_local (Output a) next h = map_local _ (λ p. output a.channel a.object p) (l names next)
  process_from_local Replicate next h = map_local _ (λ p. repl p) (l names next)

pub read_process_local : (d : Dialect) (nest names at : ℕ) → Local (at + 1) (λ s. read_process_in d nest s names at)
unfolding read_process_in
read_process_local d zero names at = then_local _ _ (process_local d at 0 names) (λ s f next e.
    absurd (omega (arith, process_level 0 names f (process_room d s at 0 names e))))
read_process_local d (suc n) names at = then_local _ _ (process_local d at (suc n) names) (λ s f next e.
    process_from_local (λ s. read_process_in d n s) (λ ns m. from_earlier (omega arith) (read_process_local d n ns m)) (suc n) at names f next
    (process_room d s at (suc n) names e))

-- Systems.
module _ (read : List ℕ → ℕ → List ℕ → ℕ → ℕ → Read System) (l : (names : ℕ) (path : List ℕ) (preceding at : ℕ) → Local at (λ s. read s names path preceding at))
    (process : List ℕ → ℕ → Read Process) (m : (at : ℕ) → Local at (λ s. process s at)) (nest at names : ℕ) (path : List ℕ) (preceding : ℕ) where
  system_from_local : (f : Form) (next : ℕ) → FitsSystem nest names (length path) preceding f
      → Local next (λ s. system_from (λ ns p k i. read s ns p k i) (λ i. process s i) at names path preceding f next)
  unfolding system_from component FitsSystem
  system_from_local Nil next h = got_local nilₛ next (omega arith)
  system_from_local Par next h = then_local _ _ (l names path preceding next) (λ s p k e. map_local _ (λ q. parₛ p q) (l names path (preceding + components p) k))
  system_from_local (Group g) next h = map_local _ (λ p. groupₛ g p) (l names (path ++ (g ∷ [])) preceding next)
  system_from_local (New t) next h = map_local _ (λ p. newₛ t p) (l (names + 1) path preceding next)
  system_from_local (Component own) next h = map_local _ (λ p. compₛ own p) (m next)
  system_from_local (Input a) next h = absurd h
  system_from_local (Output a) next h = absurd h
  system_from_local Replicate next h = absurd h

pub read_system_local : (d : Dialect) (nest names : ℕ) (path : List ℕ) (preceding at : ℕ)
    → Local (at + 1) (λ s. read_system_in d nest s names path preceding at)
unfolding read_system_in
read_system_local d zero names path preceding at = then_local _ _ (system_local d at 0 names path preceding) (λ s f next e.
    absurd (omega (arith, system_level 0 names (length path) preceding f (system_room d s at 0 names path preceding e))))
read_system_local d (suc n) names path preceding at = then_local _ _ (system_local d at (suc n) names path preceding) (λ s f next e.
    system_from_local (λ s. read_system_in d n s) (λ ns p k i. from_earlier (omega arith) (read_system_local d n ns p k i))
    (λ s i. read_process_in d n s names i) (λ i. from_earlier (omega arith) (read_process_local d n names i)) (suc n) at names path preceding f next
    (system_room d s at (suc n) names path preceding e))

-- The free names' types, and their count.
pub types_local : (d : Dialect) (n at : ℕ) → Local at (λ s. free_types_in d n s at)
unfolding free_types_in
types_local d zero at = got_local [] at (omega arith)
types_local d (suc n) at = then_local _ _ (from_earlier (omega arith) (type_local d at)) (λ s t next e. map_local _ (λ ts. t ∷ ts) (types_local d n next))

pub header_local : (d : Dialect) → Local 1 (λ s. header_in d s)
unfolding header_in
header_local d = then_local _ _ (below_local 33 0) (λ s n next e. types_local d n next)

-- A whole sheet: it is refused as each sheet is that has the same bytes up to the one at which it is refused.
abbrev with_types : List ℕ → System → ℕ → Read Sheet
with_types free system next = got (record { free = free; system = system }) next

abbrev body : Dialect → List ℕ → Read Sheet
body d s = and_then (header_in d s) (λ free at. and_then (read_system_in d 64 s (length free) [] 0 at) (with_types free))

body_local : (d : Dialect) → Local 1 (body d)
body_local d = then_local _ _ (header_local d) (λ s free at e.
    map_local _ (λ system. record { free = free; system = system })
    (from_earlier (omega arith) (read_system_local d 64 (length free) [] 0 at)))

then_then : {A B C : Type 0} (x : Read A) (f : A → ℕ → Read B) (g : B → ℕ → Read C) {h : A → ℕ → Read C}
    → ((a : A) (n : ℕ) → h a n ≡ and_then (f a n) g) → and_then x h ≡ and_then (and_then x f) g
unfolding and_then
then_then (got a n) f g h = h a n
then_then (refused q p) f g h = refl

sheet_body : (d : Dialect) (s : List ℕ) → read_sheet_in d s ≡ and_then (body d s) (to_its_end s)
unfolding read_sheet_in and_then
sheet_body d s = then_then (header_in d s) _ (to_its_end s) (λ free at.
    then_then (read_system_in d 64 s (length free) [] 0 at) (with_types free) (to_its_end s) (λ system next. refl))

-- Bytes are left over in one of two lists that agree up to the first of them if they are in the other.
left_over_lem : (s s' : List ℕ) (a : Sheet) (n : ℕ) {q p : ℕ} → to_its_end s a n ≡ refused q p → take (p + 1) s ≡ take (p + 1) s'
    → (take n s ≡ take n s') × (to_its_end s' a n ≡ refused q p)
unfolding to_its_end
left_over_lem s s' a n {q} {p} e h = go (eqb n (length s)) refl e
  where
    go : (t : Bool) → eqb n (length s) ≡ t → cond t (got a n) (refused 3 n) ≡ refused q p
        → (take n s ≡ take n s') × (to_its_end s' a n ≡ refused q p)
    go true b f = never (sym f)
    go false b f =
        let three : 3 ≡ q = cc in
        let place : n ≡ p = cc in
        let apart : n ≡ length s' → ⊥ = λ z.
        eqb-false n (length s) b (omega (arith, ap length h, length-take (p + 1) s, length-take (p + 1) s')) in
        (agree_before n (p + 1) s s' (omega arith) h, rw (ne_eqb n (length s') apart, three, place))

pub sheet_refusal : (d : Dialect) (s : List ℕ) {q p : ℕ} → read_sheet_in d s ≡ refused q p → (s' : List ℕ) → take (p + 1) s ≡ take (p + 1) s'
    → read_sheet_in d s' ≡ refused q p
unfolding and_then
sheet_refusal d s {q} {p} e s' h = sheet_body d s' ∙ go (body d s) refl (sym (sheet_body d s) ∙ e)
  where
    go : (x : Read Sheet) → body d s ≡ x → and_then x (to_its_end s) ≡ refused q p
        → and_then (body d s') (to_its_end s') ≡ refused q p
    go (got a n) b f = let o = left_over_lem s s' a n f h in rw (same_bytes 1 (body d) (body_local d) s b s' o.0) o.1
    go (refused u v) b f =
        let x : u ≡ q = cc in
        let y : v ≡ p = cc in
        rw (same_refusal 1 (body d) (body_local d) s b s' (rw y h), x, y)

-- A sheet that reads, reads as one syntax tree.
pub one_tree_in : (d : Dialect) (s charter : List ℕ) {a b : Sheet} {k m : ℕ} → sheet_of_in d s charter ≡ got a k → sheet_of_in d s charter ≡ got b m
    → a ≡ b
one_tree_in d s charter e f = cc

pub one_tree : (s charter : List ℕ) {a b : Sheet} {k m : ℕ} → sheet_of s charter ≡ got a k → sheet_of s charter ≡ got b m
    → a ≡ b
one_tree s charter e f = one_tree_in current s charter e f
