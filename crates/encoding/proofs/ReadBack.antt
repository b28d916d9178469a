-- Where the stored form of a sheet stands, it is read: a tree that was read in one dialect, its purposes 0, is read again in any dialect
-- from its bytes in that one.
use Prim.Native.Nat.{ℕ, zero, suc, ◌+◌, ◌<◌}
use mathlib.Core.Bool.{true}
use mathlib.Core.List.{List, [], ◌∷◌, ◌++◌, append_assoc, append-nil}
use mathlib.Core.Path.{◌≡◌, refl, sym, ap, ◌∙◌}
use native.Mathlib.Omega.{arith}
use borrow.Author.Tests.{lt-ltb, eq-eqb, eqb-true}
use lib.Dec.{eqb}
use lib.ListN.{length, drop, length-append}
use Rattle.reading.specs.Dialects.{groups_in, purposes_in}
use Rattle.reading.specs.Read.{Read, got, and_then, byte_at, below}
use Rattle.reading.specs.Types.{type_at_in}
use Rattle.reading.specs.Syntax.{Process, nil, par, new, input, output, repl, System, nilₛ, parₛ, groupₛ, newₛ, compₛ, Sheet, components}
use Rattle.reading.specs.Forms.{limited, new_form_in, input_form_in, output_form, fresh_group_in, group_form_in, purpose_in, component_form_in, process_form_in, process_at_in, system_form_in, system_at_in}
use Rattle.reading.specs.System.{process_from, read_process_in, component, system_from, read_system_in, free_types_in, header_in, to_its_end, read_sheet_in}
use Rattle.reading.specs.declared.Dialect.{Dialect}
use Rattle.reading.specs.declared.Dialect.TheVariants.{Old as old, Current as current}
use Rattle.reading.specs.declared.Form.{Form}
use Rattle.reading.specs.declared.OwnFields.{OwnFields}
use Rattle.reading.specs.declared.Form.TheVariants.{Nil, Par, Group, New, Component, Input, Output, Replicate}
use Rattle.reading.proofs.FormLaws.{FitsProcess, FitsSystem, NewTo, GroupNew, process_room, system_room, system_group, both_true}
use Rattle.reading.proofs.Parts.{parts, below_found, Every, of_found, every_then, every_cond, every_limited}
use Rattle.reading.proofs.TreeLaws.{free_count_lem, SheetPartsIn}
use Rattle.inference.specs.Lists.{every}
use Rattle.inference.proofs.EveryLaws.{every_parts}
use Rattle.encoding.specs.Encoding.{type_bytes, purpose_bytes, form_bytes, process_bytes, system_bytes, types_bytes, sheet_bytes, purposes, all_zero}
use Rattle.encoding.proofs.Ahead.{byte_there, below_there, after_there}
use Rattle.encoding.proofs.Types.{Storable, groups_all, type_storable, type_there}

-- Bytes stand at a place.
pub record Stands (s : List ℕ) (at : ℕ) (bytes : List ℕ) : Type 0 where
  pub after : List ℕ
  pub ahead : drop at s ≡ bytes ++ after

-- The first of two stretches, and the second.
module _ {s : List ℕ} {at : ℕ} (a b : List ℕ) (h : Stands s at (a ++ b)) where
  first_of : drop at s ≡ a ++ (b ++ h.after)
  first_of = h.ahead ∙ append_assoc a b h.after

  pub stands_first : Stands s at a
  stands_first = record { after = b ++ h.after; ahead = first_of }

  pub stands_then : Stands s (at + length a) b
  stands_then = record { after = h.after; ahead = after_there s at a first_of }

-- What reading tells of a form's types: they can be stored.
unfoldable pub Typed : Form → Type 0
Typed Nil = Unit
Typed Par = Unit
Typed (Group g) = Unit
Typed (New t) = Storable t
Typed (Component own) = Unit
Typed (Input a) = Storable a.object
Typed (Output a) = Unit
Typed Replicate = Unit

module _ (d : Dialect) (s : List ℕ) (at nest names : ℕ) where
  process_typed : Every Typed (process_at_in d s at nest names)
  unfolding Every Typed process_at_in process_form_in new_form_in input_form_in output_form
  process_typed = every_then Typed (byte_at s at) _ (λ code next _.
      every_cond Typed (eqb code 0) _ _ (every_limited Typed _ at _ (λ _. tt))
      (every_cond Typed (eqb code 1) _ _ (every_limited Typed _ at _ (λ _. tt))
      (every_cond Typed (eqb code 3) _ _ (every_limited Typed _ at _ (λ _. every_then Typed (type_at_in d s next) _ (λ t m e. type_storable d s next e)))
      (every_cond Typed (eqb code 5) _ _ (every_limited Typed _ at _ (λ _. every_then Typed (byte_at s next) _ (λ x m _. every_then Typed (type_at_in d s m) _ (λ t k e. type_storable d s m e))))
      (every_cond Typed (eqb code 6) _ _ (every_limited Typed _ at _ (λ _. every_then Typed (byte_at s next) _ (λ x m _. every_then Typed (byte_at s m) _ (λ t k _. tt))))
      (every_cond Typed (eqb code 7) _ _ (every_limited Typed _ at _ (λ _. tt)) tt))))))

  system_typed : (path : List ℕ) (preceding : ℕ) → Every Typed (system_at_in d s at nest names path preceding)
  unfolding Every Typed system_at_in system_form_in new_form_in group_form_in component_form_in
  system_typed path preceding = every_then Typed (byte_at s at) _ (λ code next _.
      every_cond Typed (eqb code 0) _ _ (every_limited Typed _ at _ (λ _. tt))
      (every_cond Typed (eqb code 1) _ _ (every_limited Typed _ at _ (λ _. tt))
      (every_cond Typed (eqb code 2) _ _ (every_limited Typed _ at _ (λ _. every_then Typed (fresh_group_in d s next path) _ (λ g m _. tt)))
      (every_cond Typed (eqb code 3) _ _ (every_limited Typed _ at _ (λ _. every_then Typed (type_at_in d s next) _ (λ t m e. type_storable d s next e)))
      (every_cond Typed (eqb code 4) _ _ (every_limited Typed _ at _ (λ _. every_then Typed (fresh_group_in d s next path) _ (λ g m _. every_then Typed (purpose_in d s m) _ (λ p k _. tt)))) tt)))))

-- All that it tells of a system's form beside the room for it.
unfoldable Sound : List ℕ → Form → Type 0
Sound path f = Typed f × GroupNew path f

system_sound : (d : Dialect) (s : List ℕ) (at nest names : ℕ) (path : List ℕ) (preceding : ℕ) {f : Form} {next : ℕ}
    → system_at_in d s at nest names path preceding ≡ got f next → Sound path f
unfolding Sound
system_sound d s at nest names path preceding e =
    (of_found Typed (system_at_in d s at nest names path preceding) (system_typed d s at nest names path preceding) e, system_group d s at nest names path preceding e)

-- The purpose of a component, 0 of another form; and a form whose purpose is 0.
unfoldable pub purpose_of : Form → ℕ
purpose_of Nil = 0
purpose_of Par = 0
purpose_of (Group g) = 0
purpose_of (New t) = 0
purpose_of (Component own) = own.purpose
purpose_of (Input a) = 0
purpose_of (Output a) = 0
purpose_of Replicate = 0

unfoldable pub Ordinary : Form → Type 0
Ordinary f = purpose_of f ≡ 0

-- A purpose that is 0.
zero_first : (p : ℕ) → all_zero (p ∷ []) ≡ true → p ≡ 0
unfolding all_zero every
zero_first p h = eqb-true p 0 (both_true (eqb p 0) true h).0

-- A group and a purpose where they stand.
module _ (d : Dialect) (s : List ℕ) (at : ℕ) where
  group_there : (path : List ℕ) {g : ℕ} {rest : List ℕ} → NewTo path g → drop at s ≡ g ∷ rest → fresh_group_in d s at path ≡ got g (at + 1)
  unfolding fresh_group_in and_then
  group_there path h e = rw (below_there s at e (groups_in d) (omega (arith, groups_all d, h.small)), h.fresh)

zero_there : (d : Dialect) (s : List ℕ) (at : ℕ) (p : ℕ) (rest : List ℕ) → p ≡ 0 → drop at s ≡ purpose_bytes d p ++ rest
    → purpose_in d s at ≡ got p (at + length (purpose_bytes d p))
unfolding purpose_in purposes_in purpose_bytes
zero_there old s at p rest z e = let y : at + 0 ≡ at = omega arith in rw (y, z)
zero_there current s at p rest z e = below_there s at e 16 (omega arith)

-- A form where its bytes stand.
module _ (d : Dialect) (s : List ℕ) (at nest names : ℕ) where
  process_form_there : (f : Form) → FitsProcess nest names f → Typed f → Stands s at (form_bytes d f)
      → process_at_in d s at nest names ≡ got f (at + length (form_bytes d f))
  unfolding FitsProcess Typed process_at_in process_form_in new_form_in input_form_in output_form limited and_then form_bytes
  process_form_there Nil h g e = rw (byte_there s at e.ahead, lt-ltb 0 nest h)
  process_form_there Par h g e = rw (byte_there s at e.ahead, lt-ltb 0 nest h)
  process_form_there (New t) h g e =
      let z : at + 1 + length (type_bytes t) ≡ at + suc (length (type_bytes t)) = omega arith in
      rw (byte_there s at e.ahead, lt-ltb 0 nest h.0, lt-ltb names 64 h.1, type_there d s (at + 1) e.after g (after_there s at (3 ∷ []) e.ahead), z)
  process_form_there (Input a) h g e =
      let z : at + 1 + 1 + length (type_bytes a.object) ≡ at + suc (suc (length (type_bytes a.object))) = omega arith in
      let f = after_there s at (5 ∷ []) e.ahead in
      rw (byte_there s at e.ahead, lt-ltb 0 nest h.0, lt-ltb names 64 h.1, byte_there s (at + 1) f, type_there d s (at + 1 + 1) e.after g (after_there s (at + 1) (a.channel ∷ []) f), z)
  process_form_there (Output a) h g e =
      let z : at + 1 + 1 + 1 ≡ at + 3 = omega arith in
      let f = after_there s at (6 ∷ []) e.ahead in
      rw (byte_there s at e.ahead, lt-ltb 0 nest h, byte_there s (at + 1) f, byte_there s (at + 1 + 1) (after_there s (at + 1) (a.channel ∷ []) f), z)
  process_form_there Replicate h g e = rw (byte_there s at e.ahead, lt-ltb 0 nest h)
  process_form_there (Group g) h _ e = absurd h
  process_form_there (Component own) h _ e = absurd h

  system_form_there : (path : List ℕ) (preceding : ℕ) (f : Form) → FitsSystem nest names (length path) preceding f → Sound path f → Ordinary f
      → Stands s at (form_bytes d f) → system_at_in d s at nest names path preceding ≡ got f (at + length (form_bytes d f))
  unfolding FitsSystem Sound Typed GroupNew Ordinary purpose_of system_at_in system_form_in new_form_in group_form_in component_form_in limited and_then form_bytes
  system_form_there path preceding Nil h g z e = rw (byte_there s at e.ahead, lt-ltb 0 nest h)
  system_form_there path preceding Par h g z e = rw (byte_there s at e.ahead, lt-ltb 0 nest h)
  system_form_there path preceding (Group x) h g z e =
      let w : at + 1 + 1 ≡ at + 2 = omega arith in
      rw (byte_there s at e.ahead, lt-ltb 0 nest h.0, lt-ltb (length path) 8 h.1, group_there d s (at + 1) path g.1 (after_there s at (2 ∷ []) e.ahead), w)
  system_form_there path preceding (New t) h g z e =
      let w : at + 1 + length (type_bytes t) ≡ at + suc (length (type_bytes t)) = omega arith in
      rw (byte_there s at e.ahead, lt-ltb 0 nest h.0, lt-ltb names 64 h.1, type_there d s (at + 1) e.after g.0 (after_there s at (3 ∷ []) e.ahead), w)
  system_form_there path preceding (Component own) h g z e =
      let w : at + 1 + 1 + length (purpose_bytes d own.purpose) ≡ at + suc (suc (length (purpose_bytes d own.purpose))) = omega arith in
      let f = after_there s at (4 ∷ []) e.ahead in
      rw (
        byte_there s at e.ahead,
        lt-ltb 0 nest h.0,
        lt-ltb (length path) 8 h.1,
        lt-ltb preceding 32 h.2,
        group_there d s (at + 1) path g.1.0 f,
        zero_there d s (at + 1 + 1) own.purpose e.after z (after_there s (at + 1) (own.group ∷ []) f),
        w,
      )
  system_form_there path preceding (Input a) h g z e = absurd h
  system_form_there path preceding (Output a) h g z e = absurd h
  system_form_there path preceding Replicate h g z e = absurd h

-- Trees that were read from the bytes s in the dialect d are read in the dialect to from their bytes in it, wherever these stand in s'.
module _ (d to : Dialect) (s s' : List ℕ) where
  BackProcess : ℕ → ℕ → Process → Type 0
  BackProcess n names p = (at : ℕ) → Stands s' at (process_bytes to p) → read_process_in to n s' names at ≡ got p (at + length (process_bytes to p))

  module _ (n : ℕ) (l : (names at : ℕ) → Every (BackProcess n names) (read_process_in d n s names at)) (names : ℕ) where
    again : (ns at : ℕ) {p : Process} {k : ℕ} → read_process_in d n s ns at ≡ got p k → BackProcess n ns p
    again ns at e = of_found (BackProcess n ns) (read_process_in d n s ns at) (l ns at) e

    -- A form with one process after it.
    form_then : (f : Form) (ns : ℕ) (make : Process → Process) (p : Process) → FitsProcess (suc n) names f → Typed f
        → ((read : ℕ → ℕ → Read Process) (at next : ℕ) → process_from read at names f next ≡ and_then (read ns next) (λ q k. got (make q) k))
        → process_bytes to (make p) ≡ form_bytes to f ++ process_bytes to p → BackProcess n ns p → BackProcess (suc n) names (make p)
    unfolding BackProcess read_process_in and_then
    form_then f ns make p h g goes bytes b at e =
        let st : Stands s' at (form_bytes to f ++ process_bytes to p) = rw bytes at e in
        let z : at + length (form_bytes to f) + length (process_bytes to p) ≡ at + length (form_bytes to f ++ process_bytes to p) = omega (arith, length-append (form_bytes to f) (process_bytes to p)) in
        rw (
          process_form_there to s' at (suc n) names f h g (stands_first (form_bytes to f) (process_bytes to p) st),
          goes,
          b (at + length (form_bytes to f)) (stands_then (form_bytes to f) (process_bytes to p) st),
          z,
          bytes,
        )

    nothing_then : FitsProcess (suc n) names Nil → BackProcess (suc n) names nil
    unfolding BackProcess read_process_in and_then process_from process_bytes Typed
    nothing_then h at e = rw (process_form_there to s' at (suc n) names Nil h tt e)

    both_then : (p q : Process) → 0 < suc n → BackProcess n names p → BackProcess n names q → BackProcess (suc n) names (par p q)
    unfolding BackProcess read_process_in and_then process_from process_bytes FitsProcess Typed
    both_then p q h b c at e =
        let F = form_bytes to Par in
        let P = process_bytes to p in
        let Q = process_bytes to q in
        let st : Stands s' (at + length F) (P ++ Q) = stands_then F (P ++ Q) e in
        let z : at + length F + length P + length Q ≡ at + length (F ++ (P ++ Q)) = omega (arith, length-append F (P ++ Q), length-append P Q) in
        rw (process_form_there to s' at (suc n) names Par h tt (stands_first F (P ++ Q) e), b (at + length F) (stands_first P Q st), c (at + length F + length P) (stands_then P Q st), z)

    process_from_back : (f : Form) (at next : ℕ) → FitsProcess (suc n) names f → Typed f
        → Every (BackProcess (suc n) names) (process_from (λ ns m. read_process_in d n s ns m) at names f next)
    unfolding Every process_from process_bytes
    process_from_back Nil at next h g = nothing_then h
    process_from_back Par at next h g = every_then _ (read_process_in d n s names next) _ (λ p m e. every_then _ (read_process_in d n s names m) _ (λ q k f.
        both_then p q (omega arith) (again names next e) (again names m f)))
    process_from_back (New t) at next h g = every_then _ (read_process_in d n s (names + 1) next) _ (λ p k e.
        form_then (New t) (names + 1) (new t) p h g (λ read i m. refl) refl (again (names + 1) next e))
    process_from_back (Input a) at next h g = every_then _ (read_process_in d n s (names + 1) next) _ (λ p k e.
        form_then (Input a) (names + 1) (input a.channel a.object) p h g (λ read i m. refl) refl (again (names + 1) next e))
    process_from_back (Output a) at next h g = every_then _ (read_process_in d n s names next) _ (λ p k e.
        form_then (Output a) names (output a.channel a.object) p h g (λ read i m. refl) refl (again names next e))
    process_from_back Replicate at next h g = every_then _ (read_process_in d n s names next) _ (λ p k e.
        form_then Replicate names repl p h g (λ read i m. refl) refl (again names next e))
    process_from_back (Group x) at next h g = tt
    process_from_back (Component own) at next h g = tt

  process_back_every : (n names at : ℕ) → Every (BackProcess n names) (read_process_in d n s names at)
  unfolding read_process_in Every
  process_back_every zero names at = every_then _ (process_at_in d s at 0 names) _ (λ f next e. tt)
  process_back_every (suc n) names at = every_then _ (process_at_in d s at (suc n) names) _ (λ f next e.
      process_from_back n (λ ns m. process_back_every n ns m) names f at next (process_room d s at (suc n) names e)
      (of_found Typed (process_at_in d s at (suc n) names) (process_typed d s at (suc n) names) e))

  -- A system, where its purposes are 0.
  BackSystem : ℕ → ℕ → List ℕ → ℕ → System → Type 0
  BackSystem n names path preceding p = all_zero (purposes p) ≡ true → (at : ℕ) → Stands s' at (system_bytes to p)
      → read_system_in to n s' names path preceding at ≡ got p (at + length (system_bytes to p))

  module _ (n : ℕ) (l : (names : ℕ) (path : List ℕ) (preceding at : ℕ) → Every (BackSystem n names path preceding) (read_system_in d n s names path preceding at))
      (names : ℕ) (path : List ℕ) (preceding : ℕ) where
    again_system : (ns : ℕ) (q : List ℕ) (i at : ℕ) {p : System} {k : ℕ} → read_system_in d n s ns q i at ≡ got p k → BackSystem n ns q i p
    again_system ns q i at e = of_found (BackSystem n ns q i) (read_system_in d n s ns q i at) (l ns q i at) e

    nothing_after : FitsSystem (suc n) names (length path) preceding Nil → BackSystem (suc n) names path preceding nilₛ
    unfolding BackSystem read_system_in and_then system_from system_bytes Sound Typed GroupNew Ordinary purpose_of
    nothing_after h zs at e = rw (system_form_there to s' at (suc n) names path preceding Nil h (tt, tt) refl e)

    -- A form with one system after it.
    form_after : (f : Form) (ns : ℕ) (q : List ℕ) (make : System → System) (p : System) → FitsSystem (suc n) names (length path) preceding f → Sound path f → Ordinary f
        → ((read : ℕ → List ℕ → ℕ → ℕ → Read System) (process : ℕ → Read Process) (at next : ℕ)
        → system_from read process at names path preceding f next ≡ and_then (read ns q preceding next) (λ x k. got (make x) k))
        → system_bytes to (make p) ≡ form_bytes to f ++ system_bytes to p → purposes (make p) ≡ purposes p
        → BackSystem n ns q preceding p → BackSystem (suc n) names path preceding (make p)
    unfolding BackSystem read_system_in and_then
    form_after f ns q make p h g i goes bytes same b zs at e =
        let st : Stands s' at (form_bytes to f ++ system_bytes to p) = rw bytes at e in
        let ys : all_zero (purposes p) ≡ true = rw same at zs in
        let z : at + length (form_bytes to f) + length (system_bytes to p) ≡ at + length (form_bytes to f ++ system_bytes to p) = omega (arith, length-append (form_bytes to f) (system_bytes to p)) in
        rw (
          system_form_there to s' at (suc n) names path preceding f h g i (stands_first (form_bytes to f) (system_bytes to p) st),
          goes,
          b ys (at + length (form_bytes to f)) (stands_then (form_bytes to f) (system_bytes to p) st),
          z,
          bytes,
        )

    both_after : (p q : System) → 0 < suc n → BackSystem n names path preceding p → BackSystem n names path (preceding + components p) q
        → BackSystem (suc n) names path preceding (parₛ p q)
    unfolding BackSystem read_system_in and_then system_from system_bytes FitsSystem Sound Typed GroupNew Ordinary purpose_of purposes all_zero
    both_after p q h b c zs at e =
        let F = form_bytes to Par in
        let P = system_bytes to p in
        let Q = system_bytes to q in
        let y = every_parts (λ x. eqb x 0) (purposes p) (purposes q) zs in
        let st : Stands s' (at + length F) (P ++ Q) = stands_then F (P ++ Q) e in
        let z : at + length F + length P + length Q ≡ at + length (F ++ (P ++ Q)) = omega (arith, length-append F (P ++ Q), length-append P Q) in
        rw (system_form_there to s' at (suc n) names path preceding Par h (tt, tt) refl (stands_first F (P ++ Q) e), b y.0 (at + length F) (stands_first P Q st), c y.1 (at + length F + length P) (stands_then P Q st), z)

    component_after : (own : OwnFields) (p : Process) → FitsSystem (suc n) names (length path) preceding (Component own) → Sound path (Component own)
        → BackProcess n names p → BackSystem (suc n) names path preceding (compₛ own p)
    unfolding BackSystem BackProcess read_system_in and_then system_from component system_bytes Ordinary purpose_of purposes
    component_after own p h g b zs at e =
        let F = form_bytes to (Component own) in
        let P = process_bytes to p in
        let z : at + length F + length P ≡ at + length (F ++ P) = omega (arith, length-append F P) in
        rw (system_form_there to s' at (suc n) names path preceding (Component own) h g (zero_first own.purpose zs) (stands_first F P e), b (at + length F) (stands_then F P e), z)

    system_from_back : (f : Form) (at next : ℕ) → FitsSystem (suc n) names (length path) preceding f → Sound path f
        → Every (BackSystem (suc n) names path preceding) (system_from (λ ns q i m. read_system_in d n s ns q i m) (λ m. read_process_in d n s names m) at names path preceding f next)
    unfolding Every system_from component system_bytes Ordinary purpose_of purposes
    system_from_back Nil at next h g = nothing_after h
    system_from_back Par at next h g = every_then _ (read_system_in d n s names path preceding next) _ (λ p m e.
        every_then _ (read_system_in d n s names path (preceding + components p) m) _ (λ q k f.
        both_after p q (omega arith) (again_system names path preceding next e) (again_system names path (preceding + components p) m f)))
    system_from_back (Group x) at next h g = every_then _ (read_system_in d n s names (path ++ (x ∷ [])) preceding next) _ (λ p k e.
        form_after (Group x) names (path ++ (x ∷ [])) (groupₛ x) p h g refl (λ read process i m. refl) refl refl (again_system names (path ++ (x ∷ [])) preceding next e))
    system_from_back (New t) at next h g = every_then _ (read_system_in d n s (names + 1) path preceding next) _ (λ p k e.
        form_after (New t) (names + 1) path (newₛ t) p h g refl (λ read process i m. refl) refl refl (again_system (names + 1) path preceding next e))
    system_from_back (Component own) at next h g = every_then _ (read_process_in d n s names next) _ (λ p k e.
        component_after own p h g (of_found (BackProcess n names) (read_process_in d n s names next) (process_back_every n names next) e))
    system_from_back (Input a) at next h g = tt
    system_from_back (Output a) at next h g = tt
    system_from_back Replicate at next h g = tt

  system_back_every : (n names : ℕ) (path : List ℕ) (preceding at : ℕ) → Every (BackSystem n names path preceding) (read_system_in d n s names path preceding at)
  unfolding read_system_in Every
  system_back_every zero names path preceding at = every_then _ (system_at_in d s at 0 names path preceding) _ (λ f next e. tt)
  system_back_every (suc n) names path preceding at = every_then _ (system_at_in d s at (suc n) names path preceding) _ (λ f next e.
      system_from_back n (λ ns q i m. system_back_every n ns q i m) names path preceding f at next (system_room d s at (suc n) names path preceding e)
      (system_sound d s at (suc n) names path preceding e))

  -- The types of the free names.
  BackTypes : ℕ → List ℕ → Type 0
  BackTypes n ts = (at : ℕ) → Stands s' at (types_bytes ts) → free_types_in to n s' at ≡ got ts (at + length (types_bytes ts))

  no_types : BackTypes zero []
  unfolding BackTypes free_types_in types_bytes
  no_types at e = let z : at + 0 ≡ at = omega arith in rw z

  more_types : (n t : ℕ) (ts : List ℕ) → Storable t → BackTypes n ts → BackTypes (suc n) (t ∷ ts)
  unfolding BackTypes free_types_in types_bytes and_then
  more_types n t ts h b at e =
      let T = type_bytes t in
      let z : at + length T + length (types_bytes ts) ≡ at + length (T ++ types_bytes ts) = omega (arith, length-append T (types_bytes ts)) in
      let f = stands_first T (types_bytes ts) e in
      rw (type_there to s' at f.after h f.ahead, b (at + length T) (stands_then T (types_bytes ts) e), z)

  types_back_every : (n at : ℕ) → Every (BackTypes n) (free_types_in d n s at)
  unfolding free_types_in Every
  types_back_every zero at = no_types
  types_back_every (suc n) at = every_then _ (type_at_in d s at) _ (λ t m e. every_then _ (free_types_in d n s m) _ (λ ts k f.
      more_types n t ts (type_storable d s at e) (of_found (BackTypes n) (free_types_in d n s m) (types_back_every n m) f)))

-- A sheet that was read in one dialect, its purposes 0, from its bytes in another.
module _ (d to : Dialect) (s charter : List ℕ) {t : Sheet} {k : ℕ} (h : SheetPartsIn d s charter t k) (zeros : all_zero (purposes t.system) ≡ true) where
  free : List ℕ
  free = types_bytes t.free

  body : List ℕ
  body = system_bytes to t.system

  types_there : Stands (sheet_bytes to t) 1 (free ++ body)
  unfolding free body sheet_bytes
  types_there = record { after = []; ahead = sym (append-nil (free ++ body)) }

  count_there : (n : ℕ) → length t.free ≡ n → n < 33 → below 33 (sheet_bytes to t) 0 ≡ got n 1
  unfolding free body sheet_bytes
  count_there n c l = below_there (sheet_bytes to t) 0 {rest = free ++ body} (ap (λ (x : ℕ). x ∷ (free ++ body)) c) 33 l

  counted_back : (n : ℕ) → length t.free ≡ n → n < 33 → BackTypes d to s (sheet_bytes to t) n t.free
      → header_in to (sheet_bytes to t) ≡ got t.free (1 + length free)
  unfolding header_in and_then BackTypes free
  counted_back n c l b = rw (count_there n c l) (b 1 (stands_first free body types_there))

  header_back : header_in to (sheet_bytes to t) ≡ got t.free (1 + length free)
  unfolding header_in
  header_back =
      let g = parts (below 33 s 0) (λ n next. free_types_in d n s next) h.types in
      counted_back g.value (free_count_lem d g.value s g.place g.rest) (below_found 33 s 0 g.first)
      (of_found (BackTypes d to s (sheet_bytes to t) g.value) (free_types_in d g.value s g.place) (types_back_every d to s (sheet_bytes to t) g.value g.place) g.rest)

  body_back : read_system_in to 64 (sheet_bytes to t) (length t.free) [] 0 (1 + length free) ≡ got t.system (1 + length free + length body)
  unfolding BackSystem free body
  body_back = of_found (BackSystem d to s (sheet_bytes to t) 64 (length t.free) [] 0) (read_system_in d 64 s (length t.free) [] 0 h.start)
      (system_back_every d to s (sheet_bytes to t) 64 (length t.free) [] 0 h.start) h.body zeros (1 + length free) (stands_then free body types_there)

  long : 1 + length free + length body ≡ length (sheet_bytes to t)
  unfolding free body sheet_bytes
  long = omega (arith, length-append free body)

  pub sheet_read : read_sheet_in to (sheet_bytes to t) ≡ got t (length (sheet_bytes to t))
  unfolding read_sheet_in and_then to_its_end
  sheet_read =
      let n = 1 + length free + length body in
      rw (header_back, body_back, eq-eqb n (length (sheet_bytes to t)) long) (ap (λ (i : ℕ). got t i) long)
