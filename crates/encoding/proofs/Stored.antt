-- What is read of a sheet is its bytes: where the reader reads a form, a tree or a whole sheet, the stored form of it stood there.
use Prim.Native.Nat.{ℕ, zero, suc, ◌+◌, ◌≤◌}
use mathlib.Core.Bool.{Bool, true, false, cond}
use mathlib.Core.List.{List, [], ◌∷◌, ◌++◌, append_assoc, append-nil}
use mathlib.Core.Path.{◌≡◌, refl, sym, ap, ap₂, ◌∙◌}
use native.Mathlib.Omega.{arith}
use borrow.Author.Tests.{eqb-true}
use lib.Dec.{eqb}
use lib.ListN.{length, drop, drop_of_length-le}
use Rattle.reading.specs.Dialects.{groups_in, purposes_in}
use Rattle.reading.specs.Read.{Read, got, refused, and_then, byte_at, below}
use Rattle.reading.specs.Types.{type_at_in}
use Rattle.reading.specs.Syntax.{Process, System, Sheet}
use Rattle.reading.specs.Forms.{member, limited, new_form_in, input_form_in, output_form, fresh_group_in, group_form_in, purpose_in, component_form_in, process_form_in, process_at_in, system_form_in, system_at_in}
use Rattle.reading.specs.System.{process_from, read_process_in, component, system_from, read_system_in, free_types_in, header_in}
use Rattle.reading.specs.declared.Dialect.{Dialect}
use Rattle.reading.specs.declared.Dialect.TheVariants.{Old as old, Current as current}
use Rattle.reading.specs.declared.Form.{Form}
use Rattle.reading.specs.declared.Form.TheVariants.{Nil, Par, Group, New, Component, Input, Output, Replicate}
use Rattle.reading.proofs.Parts.{never, parts}
use Rattle.reading.proofs.TreeLaws.{free_count_lem, SheetPartsIn}
use Rattle.encoding.specs.Encoding.{type_bytes, purpose_bytes, form_bytes, process_bytes, system_bytes, types_bytes, sheet_bytes}
use Rattle.encoding.proofs.Ahead.{byte_ahead, below_ahead}
use Rattle.encoding.proofs.Types.{type_ahead}

-- Bytes stand at a place, up to another.
pub record Stretch (s : List ℕ) (at : ℕ) (bytes : List ℕ) (k : ℕ) : Type 0 where
  pub ahead : drop at s ≡ bytes ++ drop k s

-- What was read at a place, if anything was, stands there in bytes, and ends where the reading ends.
unfoldable pub Spans : {A : Type 0} → (A → List ℕ) → List ℕ → ℕ → Read A → Type 0
Spans bytes s at (got a k) = Stretch s at (bytes a) k
Spans bytes s at (refused q p) = Unit

module _ {A : Type 0} (bytes : A → List ℕ) (s : List ℕ) (at : ℕ) where
  pub of_spans : (r : Read A) {a : A} {k : ℕ} → Spans bytes s at r → r ≡ got a k → Stretch s at (bytes a) k
  unfolding Spans
  of_spans (got b m) {a} {k} h e = let v : b ≡ a = cc in let w : m ≡ k = cc in rw (v, w) at h
  of_spans (refused q p) h e = never e

  spans_then : {B : Type 0} (x : Read B) (f : B → ℕ → Read A) → ((b : B) (k : ℕ) → x ≡ got b k → Spans bytes s at (f b k))
      → Spans bytes s at (and_then x f)
  unfolding Spans and_then
  spans_then (got b k) f h = h b k refl
  spans_then (refused q p) f h = tt

  spans_cond : (t : Bool) (x y : Read A) → (t ≡ true → Spans bytes s at x) → Spans bytes s at y → Spans bytes s at (cond t x y)
  spans_cond true x y h k = h refl
  spans_cond false x y h k = k

  spans_limited : (t : Bool) (i : ℕ) (x : Read A) → Spans bytes s at x → Spans bytes s at (limited t i x)
  unfolding Spans limited
  spans_limited true i x h = h
  spans_limited false i x h = tt

-- One stretch after another.
pub joined : {s : List ℕ} {at m k : ℕ} {a b : List ℕ} → Stretch s at a m → Stretch s m b k → Stretch s at (a ++ b) k
joined {s} {k = k} {a} {b} h i = record { ahead = h.ahead ∙ ap (λ (l : List ℕ). a ++ l) i.ahead ∙ sym (append_assoc a b (drop k s)) }

-- A group that is new to its path, and a purpose.
fresh_ahead : (d : Dialect) (s : List ℕ) (at : ℕ) (path : List ℕ) {g k : ℕ} → fresh_group_in d s at path ≡ got g k → drop at s ≡ g ∷ drop k s
unfolding fresh_group_in
fresh_ahead d s at path {g} {k} e =
    let h = parts (below (groups_in d) s at) (λ g next. cond (member g path) (refused 6 at) (got g next)) e in
    below_ahead (groups_in d) s at h.first ∙ go h.value h.place (member h.value path) h.rest
  where
    go : (v m : ℕ) (t : Bool) → cond t (refused 6 at) (got v m) ≡ got g k → v ∷ drop m s ≡ g ∷ drop k s
    go v m true f = never f
    go v m false f = let x : v ≡ g = cc in let y : m ≡ k = cc in ap₂ (λ (z i : ℕ). z ∷ drop i s) x y

purpose_ahead : (d : Dialect) (s : List ℕ) (at : ℕ) {p k : ℕ} → purpose_in d s at ≡ got p k → drop at s ≡ purpose_bytes d p ++ drop k s
unfolding purpose_in purposes_in purpose_bytes
purpose_ahead old s at {p} {k} e = let m : at ≡ k = cc in ap (λ (i : ℕ). drop i s) m
purpose_ahead current s at e = below_ahead 16 s at e

-- The forms, by the code that stands before their fields.
module _ (d : Dialect) (s : List ℕ) (at next : ℕ) where
  new_spans : drop at s ≡ 3 ∷ drop next s → Spans (form_bytes d) s at (new_form_in d s next)
  unfolding Spans new_form_in form_bytes
  new_spans h = spans_then _ s at (type_at_in d s next) _ (λ t m e. record { ahead = h ∙ ap (λ (l : List ℕ). 3 ∷ l) (type_ahead d s next e) })

  input_spans : drop at s ≡ 5 ∷ drop next s → Spans (form_bytes d) s at (input_form_in d s next)
  unfolding Spans input_form_in form_bytes
  input_spans h = spans_then _ s at (byte_at s next) _ (λ x m e. spans_then _ s at (type_at_in d s m) _ (λ t k f.
      record { ahead = h ∙ ap (λ (l : List ℕ). 5 ∷ l) (byte_ahead s next e ∙ ap (λ (l : List ℕ). x ∷ l) (type_ahead d s m f)) }))

  output_spans : drop at s ≡ 6 ∷ drop next s → Spans (form_bytes d) s at (output_form s next)
  unfolding Spans output_form form_bytes
  output_spans h = spans_then _ s at (byte_at s next) _ (λ x m e. spans_then _ s at (byte_at s m) _ (λ y k f.
      record { ahead = h ∙ ap (λ (l : List ℕ). 6 ∷ l) (byte_ahead s next e ∙ ap (λ (l : List ℕ). x ∷ l) (byte_ahead s m f)) }))

  group_spans : (path : List ℕ) → drop at s ≡ 2 ∷ drop next s → Spans (form_bytes d) s at (group_form_in d s next path)
  unfolding Spans group_form_in form_bytes
  group_spans path h = spans_then _ s at (fresh_group_in d s next path) _ (λ g m e. record { ahead = h ∙ ap (λ (l : List ℕ). 2 ∷ l) (fresh_ahead d s next path e) })

  component_spans : (path : List ℕ) → drop at s ≡ 4 ∷ drop next s → Spans (form_bytes d) s at (component_form_in d s next path)
  unfolding Spans component_form_in form_bytes
  component_spans path h = spans_then _ s at (fresh_group_in d s next path) _ (λ g m e. spans_then _ s at (purpose_in d s m) _ (λ p k f.
      record { ahead = h ∙ ap (λ (l : List ℕ). 4 ∷ l) (fresh_ahead d s next path e ∙ ap (λ (l : List ℕ). g ∷ l) (purpose_ahead d s m f)) }))

coded : (s : List ℕ) (at : ℕ) {code next : ℕ} (n : ℕ) → byte_at s at ≡ got code next → eqb code n ≡ true → drop at s ≡ n ∷ drop next s
coded s at {code} {next} n e t = byte_ahead s at e ∙ ap (λ (x : ℕ). x ∷ drop next s) (eqb-true code n t)

module _ (d : Dialect) (s : List ℕ) (at nest names : ℕ) where
  pub process_form_stored : Spans (form_bytes d) s at (process_at_in d s at nest names)
  unfolding Spans process_at_in process_form_in form_bytes
  process_form_stored = spans_then B s at (byte_at s at) _ (λ code next e.
      spans_cond B s at (eqb code 0) _ _ (λ t. spans_limited B s at _ at _ (record { ahead = coded s at 0 e t }))
      (spans_cond B s at (eqb code 1) _ _ (λ t. spans_limited B s at _ at _ (record { ahead = coded s at 1 e t }))
      (spans_cond B s at (eqb code 3) _ _ (λ t. spans_limited B s at _ at _ (new_spans d s at next (coded s at 3 e t)))
      (spans_cond B s at (eqb code 5) _ _ (λ t. spans_limited B s at _ at _ (input_spans d s at next (coded s at 5 e t)))
      (spans_cond B s at (eqb code 6) _ _ (λ t. spans_limited B s at _ at _ (output_spans d s at next (coded s at 6 e t)))
      (spans_cond B s at (eqb code 7) _ _ (λ t. spans_limited B s at _ at _ (record { ahead = coded s at 7 e t })) tt))))))
    where
      B : Form → List ℕ
      B = form_bytes d

  pub system_form_stored : (path : List ℕ) (preceding : ℕ) → Spans (form_bytes d) s at (system_at_in d s at nest names path preceding)
  unfolding Spans system_at_in system_form_in form_bytes
  system_form_stored path preceding = spans_then B s at (byte_at s at) _ (λ code next e.
      spans_cond B s at (eqb code 0) _ _ (λ t. spans_limited B s at _ at _ (record { ahead = coded s at 0 e t }))
      (spans_cond B s at (eqb code 1) _ _ (λ t. spans_limited B s at _ at _ (record { ahead = coded s at 1 e t }))
      (spans_cond B s at (eqb code 2) _ _ (λ t. spans_limited B s at _ at _ (group_spans d s at next path (coded s at 2 e t)))
      (spans_cond B s at (eqb code 3) _ _ (λ t. spans_limited B s at _ at _ (new_spans d s at next (coded s at 3 e t)))
      (spans_cond B s at (eqb code 4) _ _ (λ t. spans_limited B s at _ at _ (component_spans d s at next path (coded s at 4 e t))) tt)))))
    where
      B : Form → List ℕ
      B = form_bytes d

-- Trees: a form, then what follows it.
module _ (d : Dialect) (s : List ℕ) (read : ℕ → ℕ → Read Process) (l : (names at : ℕ) → Spans (process_bytes d) s at (read names at)) (at names : ℕ) where
  process_from_stored : (f : Form) (next : ℕ) → Stretch s at (form_bytes d f) next → Spans (process_bytes d) s at (process_from read at names f next)
  unfolding Spans process_from process_bytes
  process_from_stored Nil next h = h
  process_from_stored Par next h = spans_then _ s at (read names next) _ (λ p m e. spans_then _ s at (read names m) _ (λ q k f.
      joined h (joined (of_spans _ s next _ (l names next) e) (of_spans _ s m _ (l names m) f))))
  process_from_stored (New t) next h = spans_then _ s at (read (names + 1) next) _ (λ p k e. joined h (of_spans _ s next _ (l (names + 1) next) e))
  process_from_stored (Input a) next h = spans_then _ s at (read (names + 1) next) _ (λ p k e. joined h (of_spans _ s next _ (l (names + 1) next) e))
  process_from_stored (Output a) next h = spans_then _ s at (read names next) _ (λ p k e. joined h (of_spans _ s next _ (l names next) e))
  process_from_stored Replicate next h = spans_then _ s at (read names next) _ (λ p k e. joined h (of_spans _ s next _ (l names next) e))
  process_from_stored (Group g) next h = tt
  process_from_stored (Component own) next h = tt

pub process_stored : (d : Dialect) (n : ℕ) (s : List ℕ) (names at : ℕ) → Spans (process_bytes d) s at (read_process_in d n s names at)
unfolding read_process_in Spans
process_stored d zero s names at = spans_then _ s at (process_at_in d s at 0 names) _ (λ f next e. tt)
process_stored d (suc n) s names at = spans_then _ s at (process_at_in d s at (suc n) names) _ (λ f next e.
    process_from_stored d s (λ ns m. read_process_in d n s ns m) (λ ns m. process_stored d n s ns m) at names f next
    (of_spans _ s at _ (process_form_stored d s at (suc n) names) e))

module _ (d : Dialect) (s : List ℕ) (read : ℕ → List ℕ → ℕ → ℕ → Read System)
    (l : (names : ℕ) (path : List ℕ) (preceding at : ℕ) → Spans (system_bytes d) s at (read names path preceding at))
    (process : ℕ → Read Process) (r : (at : ℕ) → Spans (process_bytes d) s at (process at)) (at names : ℕ) (path : List ℕ) (preceding : ℕ) where
  system_from_stored : (f : Form) (next : ℕ) → Stretch s at (form_bytes d f) next
      → Spans (system_bytes d) s at (system_from read process at names path preceding f next)
  unfolding Spans system_from component system_bytes
  system_from_stored Nil next h = h
  system_from_stored Par next h = spans_then _ s at (read names path preceding next) _ (λ p m e. spans_then _ s at (read names path _ m) _ (λ q k f.
      joined h (joined (of_spans _ s next _ (l names path preceding next) e) (of_spans _ s m _ (l names path _ m) f))))
  system_from_stored (Group g) next h = spans_then _ s at (read names (path ++ (g ∷ [])) preceding next) _ (λ p k e.
      joined h (of_spans _ s next _ (l names (path ++ (g ∷ [])) preceding next) e))
  system_from_stored (New t) next h = spans_then _ s at (read (names + 1) path preceding next) _ (λ p k e.
      joined h (of_spans _ s next _ (l (names + 1) path preceding next) e))
  system_from_stored (Component own) next h = spans_then _ s at (process next) _ (λ p k e. joined h (of_spans _ s next _ (r next) e))
  system_from_stored (Input a) next h = tt
  system_from_stored (Output a) next h = tt
  system_from_stored Replicate next h = tt

pub system_stored : (d : Dialect) (n : ℕ) (s : List ℕ) (names : ℕ) (path : List ℕ) (preceding at : ℕ)
    → Spans (system_bytes d) s at (read_system_in d n s names path preceding at)
unfolding read_system_in Spans
system_stored d zero s names path preceding at = spans_then _ s at (system_at_in d s at 0 names path preceding) _ (λ f next e. tt)
system_stored d (suc n) s names path preceding at = spans_then _ s at (system_at_in d s at (suc n) names path preceding) _ (λ f next e.
    system_from_stored d s (λ ns p k m. read_system_in d n s ns p k m) (λ ns p k m. system_stored d n s ns p k m)
    (λ m. read_process_in d n s names m) (λ m. process_stored d n s names m) at names path preceding f next
    (of_spans _ s at _ (system_form_stored d s at (suc n) names path preceding) e))

-- The types of the free names.
types_stored : (d : Dialect) (n : ℕ) (s : List ℕ) (at : ℕ) → Spans types_bytes s at (free_types_in d n s at)
unfolding free_types_in Spans types_bytes
types_stored d zero s at = record { ahead = refl }
types_stored d (suc n) s at = spans_then _ s at (type_at_in d s at) _ (λ t m e. spans_then _ s at (free_types_in d n s m) _ (λ ts k f.
    joined {a = type_bytes t} (record { ahead = type_ahead d s at e }) (of_spans _ s m _ (types_stored d n s m) f)))

header_stored : (d : Dialect) (s : List ℕ) → Spans (λ free. length free ∷ types_bytes free) s 0 (header_in d s)
unfolding header_in Spans
header_stored d s = spans_then B s 0 (below 33 s 0) _ (λ n m e. go n m e (free_types_in d n s m) refl)
  where
    B : List ℕ → List ℕ
    B free = length free ∷ types_bytes free

    go : (n m : ℕ) → below 33 s 0 ≡ got n m → (r : Read (List ℕ)) → free_types_in d n s m ≡ r → Spans B s 0 r
    go n m e (got free k) f = record {
      ahead = below_ahead 33 s 0 e
          ∙ ap₂ (λ (x : ℕ) (l : List ℕ). x ∷ l) (sym (free_count_lem d n s m f)) (of_spans _ s m _ (types_stored d n s m) f).ahead;
    }
    go n m e (refused q p) f = tt

-- Bytes from the first to the last.
all_of : {s bytes : List ℕ} {k : ℕ} → Stretch s 0 bytes k → length s ≤ k → bytes ≡ s
all_of {s} {bytes} {k} h l = sym (h.ahead ∙ ap (λ (r : List ℕ). bytes ++ r) (drop_of_length-le s l) ∙ append-nil bytes)

-- A sheet that is read is stored as it stood.
pub sheet_stored : (d : Dialect) (s charter : List ℕ) {t : Sheet} {k : ℕ} → SheetPartsIn d s charter t k → sheet_bytes d t ≡ s
unfolding sheet_bytes
sheet_stored d s charter {t} {k} h =
    let free = of_spans _ s 0 (header_in d s) (header_stored d s) h.types in
    let body = of_spans _ s h.start _ (system_stored d 64 s (length t.free) [] 0 h.start) h.body in
    all_of (joined free body) (omega (arith, h.end))
