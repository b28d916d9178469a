-- What a form that was read tells: it stands within the sheet, its fields fit their digits; a process's form is the one of its code
-- byte; and a system's is read with any limits under which there is room.
use Prim.Native.Nat.{ℕ, ◌+◌, ◌<◌}
use mathlib.Core.Bool.{Bool, true, false, cond, ◌&&◌}
use mathlib.Core.List.{List, []}
use mathlib.Core.Path.{◌≡◌, refl, sym, ◌∙◌}
use native.Mathlib.Omega.{arith}
use borrow.Author.Tests.{ltb-true, ne_eqb}
use lib.Dec.{ltb, eqb}
use lib.ListN.{length, get_or}
use Rattle.reading.specs.declared.Dialect.TheVariants.{Current as current}
use Rattle.reading.specs.Dialects.{groups_in}
use Rattle.reading.specs.Read.{Read, got, refused, and_then, byte_at, below}
use Rattle.reading.specs.Types.{type_at}
use Rattle.reading.specs.Forms.{member, limited, new_form_in, input_form_in, output_form, fresh_group_in, group_form_in, purpose_in, component_form_in, process_form_in, process_at_in, process_at, system_form_in, system_at_in, system_at}
use Rattle.reading.specs.declared.Form.{Form}
use Rattle.reading.specs.declared.Form.TheVariants.{Nil, Par, New, Input, Output, Replicate}
use Rattle.reading.proofs.Parts.{Every, of_found, every_then, every_cond, every_limited, parts, never, byte_found, below_found}
use Rattle.reading.proofs.ReadLaws.{byte_place, process_local, system_local}
use Rattle.reading.proofs.Local.{place_after_lem}
use Rattle.reading.proofs.TypeLaws.{type_fits, groups_64}
use Rattle.reading.proofs.FormLaws.{purpose_small}
use Rattle.decoding.proofs.WordLaws.{FormFits}

-- A byte that was read is the byte at its place.
byte_value : (s : List ℕ) (at : ℕ) {b k : ℕ} → byte_at s at ≡ got b k → (b ≡ get_or s at 0) × (at < length s)
byte_value s at {b} {k} e =
    let h = byte_found s at e in
    let v : get_or s at 0 ≡ b = let w = h.then in cc in
    (sym v, ltb-true at (length s) h.test)

byte_then : (s : List ℕ) (at next : ℕ) (f : ℕ → ℕ → Read Form) {g : Form} {k : ℕ} → next ≡ at + 1 → and_then (byte_at s at) f ≡ got g k
    → f (get_or s at 0) next ≡ got g k
byte_then s at next f z e =
    let h = parts (byte_at s at) f e in
    rw ((byte_value s at h.first).0, byte_place s at h.first ∙ sym z) at h.rest

-- A group that was read as new to a path.
fresh_value : (b : Bool) (at g n : ℕ) {h m : ℕ} → cond b (refused 6 at) (got g n) ≡ got h m → g ≡ h
fresh_value true at g n e = never e
fresh_value false at g n e = cc

-- Where there was room, there is room without limits.
arm : (t level : Bool) (at : ℕ) {f : Form} {k : ℕ} (x y rest rest' : Read Form) → (x ≡ got f k → y ≡ got f k) → (rest ≡ got f k → rest' ≡ got f k)
    → cond t (limited level at x) rest ≡ got f k → cond t (limited true at y) rest' ≡ got f k
unfolding limited
arm true true at x y rest rest' g h e = g e
arm true false at x y rest rest' g h e = never e
arm false level at x y rest rest' g h e = h e

process_roomy : (s : List ℕ) (at next : ℕ) (level binder : Bool) (code : ℕ) {f : Form} {k : ℕ} → process_form_in current s at next level binder code ≡ got f k
    → process_form_in current s at next true true code ≡ got f k
unfolding process_form_in
process_roomy s at next level binder code e =
    arm (eqb code 0) level at _ _ _ _ (λ h. h) (arm (eqb code 1) level at _ _ _ _ (λ h. h) (arm (eqb code 3) binder at _ _ _ _ (λ h. h)
    (arm (eqb code 5) binder at _ _ _ _ (λ h. h) (arm (eqb code 6) level at _ _ _ _ (λ h. h) (arm (eqb code 7) level at _ _ _ _ (λ h. h) (λ h. h)))))) e

-- A type that was read has few digits.
pub small_type : (s : List ℕ) (at : ℕ) {t k : ℕ} → type_at s at ≡ got t k → t < 536870912
small_type s at e = let h = type_fits current s at e in omega arith

module _ (s : List ℕ) (at : ℕ) where
  -- A form of a process that was read: it stands within the sheet, what follows stands after it, and its code byte tells which it is.
  module _ (nest names : ℕ) {f : Form} {k : ℕ} (e : process_at s at nest names ≡ got f k) where
    pub process_here : at < length s
    unfolding process_at_in
    process_here = (byte_value s at (parts (byte_at s at) _ e).first).1

    pub process_after : at < k
    process_after = omega (arith, place_after_lem (at + 1) (λ b. process_at b at nest names) (process_local current at nest names) s e)

    coded : process_form_in current s at (at + 1) true true (get_or s at 0) ≡ got f k
    unfolding process_at_in
    coded = process_roomy s at (at + 1) (ltb 0 nest) (ltb 0 nest && ltb names 64) (get_or s at 0) (byte_then s at (at + 1) _ refl e)

    pub nil_stands : get_or s at 0 ≡ 0 → got Nil (at + 1) ≡ got f k
    unfolding process_form_in limited
    nil_stands c = rw c at coded

    pub par_stands : get_or s at 0 ≡ 1 → got Par (at + 1) ≡ got f k
    unfolding process_form_in limited
    par_stands c = rw c at coded

    pub new_stands : get_or s at 0 ≡ 3 → and_then (type_at s (at + 1)) (λ t m. got (New t) m) ≡ got f k
    unfolding process_form_in limited new_form_in
    new_stands c = rw c at coded

    pub input_stands : get_or s at 0 ≡ 5
        → and_then (type_at s (at + 2)) (λ t m. got (Input (record { channel = get_or s (at + 1) 0; object = t })) m) ≡ got f k
    unfolding process_form_in limited input_form_in
    input_stands c = byte_then s (at + 1) (at + 2) _ (omega arith) (rw c at coded)

    pub output_stands : get_or s at 0 ≡ 6
        → got (Output (record { channel = get_or s (at + 1) 0; object = get_or s (at + 2) 0 })) (at + 3) ≡ got f k
    unfolding process_form_in limited output_form
    output_stands c = byte_then s (at + 2) (at + 3) _ (omega arith) (byte_then s (at + 1) (at + 2) _ (omega arith) (rw c at coded))

    pub repl_stands : get_or s at 0 ≡ 7 → got Replicate (at + 1) ≡ got f k
    unfolding process_form_in limited
    repl_stands c = rw c at coded

    pub none_stands : {P : Type 0} → (get_or s at 0 ≡ 0 → ⊥) → (get_or s at 0 ≡ 1 → ⊥) → (get_or s at 0 ≡ 3 → ⊥) → (get_or s at 0 ≡ 5 → ⊥)
        → (get_or s at 0 ≡ 6 → ⊥) → (get_or s at 0 ≡ 7 → ⊥) → P
    unfolding process_form_in
    none_stands a b c d g h = never (rw (
      ne_eqb (get_or s at 0) 0 a,
      ne_eqb (get_or s at 0) 1 b,
      ne_eqb (get_or s at 0) 3 c,
      ne_eqb (get_or s at 0) 5 d,
      ne_eqb (get_or s at 0) 6 g,
      ne_eqb (get_or s at 0) 7 h,
    ) at coded)

  module _ (nest names : ℕ) (path : List ℕ) (preceding : ℕ) where
    small_group : (next : ℕ) {g m : ℕ} → fresh_group_in current s next path ≡ got g m → g < 536870912
    unfolding fresh_group_in
    small_group next {g} e =
        let h = parts (below (groups_in current) s next) (λ g n. cond (member g path) (refused 6 next) (got g n)) e in
        let v : h.value ≡ g = fresh_value (member h.value path) next h.value h.place h.rest in
        omega (arith, groups_64 current, below_found (groups_in current) s next h.first)

    system_every : Every FormFits (system_at s at nest names path preceding)
    unfolding Every FormFits system_at_in system_form_in new_form_in group_form_in component_form_in
    system_every = every_then FormFits (byte_at s at) _ (λ code next e.
        every_cond FormFits (eqb code 0) _ _ (every_limited FormFits _ at _ (λ _. tt))
        (every_cond FormFits (eqb code 1) _ _ (every_limited FormFits _ at _ (λ _. tt))
        (every_cond FormFits (eqb code 2) _ _ (every_limited FormFits _ at _ (λ _. every_then FormFits (fresh_group_in current s next path) _ (λ g m f. small_group next f)))
        (every_cond FormFits (eqb code 3) _ _ (every_limited FormFits _ at _ (λ _. every_then FormFits (type_at s next) _ (λ t m f. small_type s next f)))
        (every_cond FormFits (eqb code 4) _ _ (every_limited FormFits _ at _ (λ _. every_then FormFits (fresh_group_in current s next path) _ (λ g m f.
        every_then FormFits (purpose_in current s m) _ (λ p n i. (omega (arith, purpose_small current s m i), small_group next f)))))
        tt)))))

    pub system_fits : {f : Form} {next : ℕ} → system_at s at nest names path preceding ≡ got f next → FormFits f
    system_fits e = of_found FormFits (system_at s at nest names path preceding) system_every e

    pub system_here : {f : Form} {next : ℕ} → system_at s at nest names path preceding ≡ got f next → at < length s
    unfolding system_at_in
    system_here e = (byte_value s at (parts (byte_at s at) _ e).first).1

    pub system_after : {f : Form} {next : ℕ} → system_at s at nest names path preceding ≡ got f next → at < next
    system_after e =
        omega (arith, place_after_lem (at + 1) (λ b. system_at b at nest names path preceding) (system_local current at nest names path preceding) s e)

fresh_any : (s : List ℕ) (at : ℕ) (path : List ℕ) (c : ℕ → ℕ → Read Form) {f : Form} {k : ℕ} → and_then (fresh_group_in current s at path) c ≡ got f k
    → and_then (fresh_group_in current s at []) c ≡ got f k
unfolding fresh_group_in and_then member
fresh_any s at path c {f} {k} e =
    let h = parts (fresh_group_in current s at path) c e in
    let b = parts (below (groups_in current) s at) (λ g n. cond (member g path) (refused 6 at) (got g n)) h.first in
    rw b.first (go (member b.value path) b.rest h.rest)
  where
    go : {g n g' n' : ℕ} (t : Bool) → cond t (refused 6 at) (got g n) ≡ got g' n' → c g' n' ≡ got f k → c g n ≡ got f k
    go true p q = never p
    go false p q = cc

system_roomy : (s : List ℕ) (at next : ℕ) (path : List ℕ) (level binder deeper another : Bool) (code : ℕ) {f : Form} {k : ℕ}
    → system_form_in current s at next path level binder deeper another code ≡ got f k
    → system_form_in current s at next [] true true true true code ≡ got f k
unfolding system_form_in group_form_in component_form_in
system_roomy s at next path level binder deeper another code e =
    arm (eqb code 0) level at _ _ _ _ (λ h. h) (arm (eqb code 1) level at _ _ _ _ (λ h. h)
    (arm (eqb code 2) deeper at _ _ _ _ (fresh_any s next path _) (arm (eqb code 3) binder at _ _ _ _ (λ h. h)
    (arm (eqb code 4) another at _ _ _ _ (fresh_any s next path _) (λ h. h))))) e

pub system_any : (s : List ℕ) (at nest names : ℕ) (path : List ℕ) (preceding : ℕ) {f : Form} {k : ℕ} → system_at s at nest names path preceding ≡ got f k
    → system_at s at 1 0 [] 0 ≡ got f k
unfolding system_at_in and_then
system_any s at nest names path preceding e =
    let h = parts (byte_at s at) _ e in
    rw h.first (system_roomy s at h.place path (ltb 0 nest) (ltb 0 nest && ltb names 64) (ltb 0 nest && ltb (length path) 8)
    ((ltb 0 nest && ltb (length path) 8) && ltb preceding 32) h.value h.rest)
