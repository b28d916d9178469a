-- Where the bytes are the stored form of a sheet, its copy into another dialect is its stored form in that one, if its purposes are 0,
-- and the purposes that it states are the sheet's: a stored system is its forms, one after another.
use Prim.Native.Nat.{ℕ, zero, suc, ◌+◌, ◌<◌, ◌≤◌}
use mathlib.Core.Bool.{Bool, true, false, cond}
use mathlib.Core.List.{List, [], ◌∷◌, ◌++◌, append_assoc, append-nil}
use mathlib.Core.Path.{◌≡◌, refl, sym, ap, ap₂, ◌∙◌}
use native.Mathlib.Omega.{arith}
use borrow.Author.Tests.{eqb-true}
use lib.Dec.{eqb}
use lib.ListN.{length, get_or, take, drop, length-append, length-drop}
use lib.Seq.{take_at, take-append_seam, drop-append_seam}
use Rattle.reading.specs.Dialects.{purposes_in}
use Rattle.reading.specs.Syntax.{Process, nil, par, new, input, output, repl, System, nilₛ, parₛ, groupₛ, newₛ, compₛ, Sheet}
use Rattle.reading.specs.Types.{shape}
use Rattle.reading.specs.declared.Dialect.{Dialect}
use Rattle.reading.specs.declared.Dialect.TheVariants.{Old as old, Current as current}
use Rattle.reading.specs.declared.Shape.{Shape}
use Rattle.reading.specs.declared.Shape.TheVariants.{Plain as plain, Channel as channel}
use Rattle.reading.specs.declared.Form.{Form}
use Rattle.reading.specs.declared.Form.TheVariants.{Nil, Par, Group, New, Component, Input, Output, Replicate}
use Rattle.inference.specs.Lists.{every, gather}
use Rattle.inference.proofs.EveryLaws.{every_parts}
use Rattle.inference.proofs.GatherLaws.{gather_append}
use Rattle.reading.proofs.FormLaws.{both_true}
use Rattle.encoding.specs.Encoding.{nested_from, nested, type_bytes, purpose_bytes, form_bytes, process_bytes, system_bytes, types_bytes, sheet_bytes, purposes, all_zero}
use Rattle.encoding.specs.Copying.{form_len, head_len, if_component, next_form, form_copy, stated_at, forms_from, copy_from, types_end, system_start, copy_of, stated_in}
use Rattle.encoding.proofs.Ahead.{value_there, after_there, next_there}
use Rattle.encoding.proofs.ReadBack.{purpose_of}
use Rattle.encoding.proofs.WalkSteps.{forms_next, forms_last}

-- The forms of a tree, in the order in which they are stored.
unfoldable process_forms : Process → List Form
process_forms nil = Nil ∷ []
process_forms (par p q) = Par ∷ (process_forms p ++ process_forms q)
process_forms (new t p) = New t ∷ process_forms p
process_forms (input x t p) = Input (record { channel = x; object = t }) ∷ process_forms p
process_forms (output x y p) = Output (record { channel = x; object = y }) ∷ process_forms p
process_forms (repl p) = Replicate ∷ process_forms p

unfoldable system_forms : System → List Form
system_forms nilₛ = Nil ∷ []
system_forms (parₛ l r) = Par ∷ (system_forms l ++ system_forms r)
system_forms (groupₛ g p) = Group g ∷ system_forms p
system_forms (newₛ t p) = New t ∷ system_forms p
system_forms (compₛ own p) = Component own ∷ process_forms p

process_by_forms : (d : Dialect) (p : Process) → process_bytes d p ≡ gather (form_bytes d) (process_forms p)
unfolding process_bytes process_forms gather
process_by_forms d nil = sym (append-nil (form_bytes d Nil))
process_by_forms d (par p q) = rw (process_by_forms d p, process_by_forms d q, gather_append (form_bytes d) (process_forms p) (process_forms q))
process_by_forms d (new t p) = rw (process_by_forms d p)
process_by_forms d (input x t p) = rw (process_by_forms d p)
process_by_forms d (output x y p) = rw (process_by_forms d p)
process_by_forms d (repl p) = rw (process_by_forms d p)

system_by_forms : (d : Dialect) (p : System) → system_bytes d p ≡ gather (form_bytes d) (system_forms p)
unfolding system_bytes system_forms gather
system_by_forms d nilₛ = sym (append-nil (form_bytes d Nil))
system_by_forms d (parₛ l r) = rw (system_by_forms d l, system_by_forms d r, gather_append (form_bytes d) (system_forms l) (system_forms r))
system_by_forms d (groupₛ g p) = rw (system_by_forms d p)
system_by_forms d (newₛ t p) = rw (system_by_forms d p)
system_by_forms d (compₛ own p) = rw (process_by_forms d p)

-- A form's code.
unfoldable code_of : Form → ℕ
code_of Nil = 0
code_of Par = 1
code_of (Group g) = 2
code_of (New t) = 3
code_of (Component own) = 4
code_of (Input a) = 5
code_of (Output a) = 6
code_of Replicate = 7

-- The purposes that forms state, and whether they are 0.
unfoldable stated_by : Form → List ℕ
stated_by f = if_component (code_of f) (purpose_of f ∷ [])

ordinary : Form → Bool
ordinary f = all_zero (stated_by f)

process_states : (p : Process) → gather stated_by (process_forms p) ≡ []
unfolding process_forms gather stated_by code_of purpose_of if_component
process_states nil = refl
process_states (par p q) = rw (gather_append stated_by (process_forms p) (process_forms q), process_states p, process_states q)
process_states (new t p) = process_states p
process_states (input x t p) = process_states p
process_states (output x y p) = process_states p
process_states (repl p) = process_states p

system_states : (p : System) → gather stated_by (system_forms p) ≡ purposes p
unfolding system_forms gather stated_by code_of purpose_of if_component purposes
system_states nilₛ = refl
system_states (parₛ l r) = rw (gather_append stated_by (system_forms l) (system_forms r), system_states l, system_states r)
system_states (groupₛ g p) = system_states p
system_states (newₛ t p) = system_states p
system_states (compₛ own p) = rw (process_states p)

each_ordinary : (fs : List Form) → all_zero (gather stated_by fs) ≡ true → every ordinary fs ≡ true
unfolding gather every ordinary all_zero
each_ordinary [] h = refl
each_ordinary (f ∷ fs) h =
    let a = every_parts (λ p. eqb p 0) (stated_by f) (gather stated_by fs) h in
    rw a.0 (each_ordinary fs a.1)

shape_some : (more : ℕ → List ℕ) (x : Shape) → 0 < length (nested_from more x)
unfolding nested_from
shape_some more (plain k) = omega arith
shape_some more (channel g u) = omega arith

nested_some : (n t : ℕ) → 0 < length (nested n t)
unfolding nested
nested_some zero t = omega arith
nested_some (suc n) t = shape_some (λ u. nested n u) (shape t)

-- A form where its bytes stand, up to a component's purpose.
module _ (s : List ℕ) (at : ℕ) where
  first_there : (f : Form) (rest : List ℕ) → drop at s ≡ form_bytes old f ++ rest → get_or s at 0 ≡ code_of f
  unfolding form_bytes code_of
  first_there Nil rest e = value_there s at e
  first_there Par rest e = value_there s at e
  first_there (Group g) rest e = value_there s at e
  first_there (New t) rest e = value_there s at e
  first_there (Component own) rest e = value_there s at e
  first_there (Input a) rest e = value_there s at e
  first_there (Output a) rest e = value_there s at e
  first_there Replicate rest e = value_there s at e

  form_long : (f : Form) (rest : List ℕ) → drop at s ≡ form_bytes old f ++ rest
      → form_len (get_or s at 0) (get_or s (at + 1) 0) (get_or s (at + 2) 0) ≡ length (form_bytes old f)
  unfolding form_bytes type_bytes form_len purpose_bytes purposes_in
  form_long Nil rest e = rw (value_there s at e)
  form_long Par rest e = rw (value_there s at e)
  form_long (Group g) rest e = rw (value_there s at e)
  form_long (New t) rest e =
      rw (value_there s at e, value_there s (at + 1) (next_there s at e)) (omega (arith, nested_some 4 t))
  form_long (Component own) rest e = rw (value_there s at e)
  form_long (Input a) rest e =
      let z : at + 1 + 1 ≡ at + 2 = omega arith in
      let f : drop (at + 2) s ≡ type_bytes a.object ++ rest = rw z at (next_there s (at + 1) (next_there s at e)) in
      rw (value_there s at e, value_there s (at + 2) f) (omega (arith, nested_some 4 a.object))
  form_long (Output a) rest e = rw (value_there s at e)
  form_long Replicate rest e = rw (value_there s at e)

  head_there : (f : Form) (rest : List ℕ) → drop at s ≡ form_bytes old f ++ rest → head_len s at ≡ length (form_bytes old f)
  unfolding head_len
  head_there f rest e =
      omega (arith, form_long f rest e, ap length e, length-append (form_bytes old f) rest, length-drop at s)

-- A form is its bytes without a purpose, and then the purpose.
tail_of : Dialect → Form → List ℕ
tail_of d f = if_component (code_of f) (purpose_bytes d (purpose_of f))

form_tail : (d : Dialect) (f : Form) → form_bytes d f ≡ form_bytes old f ++ tail_of d f
unfolding tail_of form_bytes purpose_bytes purposes_in if_component code_of purpose_of
form_tail d Nil = refl
form_tail d Par = refl
form_tail d (Group g) = refl
form_tail d (New t) = sym (append-nil (form_bytes old (New t)))
form_tail d (Component own) = refl
form_tail d (Input a) = sym (append-nil (form_bytes old (Input a)))
form_tail d (Output a) = refl
form_tail d Replicate = refl

purpose_size : (d : Dialect) (p q : ℕ) → length (purpose_bytes d p) ≡ length (purpose_bytes d q)
unfolding purpose_bytes purposes_in
purpose_size old p q = refl
purpose_size current p q = refl

component_size : (code : ℕ) (xs ys : List ℕ) → length xs ≡ length ys → length (if_component code xs) ≡ length (if_component code ys)
unfolding if_component
component_size code xs ys h = go (eqb code 4)
  where
    go : (b : Bool) → length (cond b xs []) ≡ length (cond b ys [])
    go true = h
    go false = refl

ordinary_zero : (f : Form) → ordinary f ≡ true → purpose_of f ≡ 0
unfolding ordinary stated_by code_of purpose_of if_component all_zero every
ordinary_zero Nil h = refl
ordinary_zero Par h = refl
ordinary_zero (Group g) h = refl
ordinary_zero (New t) h = refl
ordinary_zero (Component own) h = eqb-true own.purpose 0 (both_true (eqb own.purpose 0) true h).0
ordinary_zero (Input a) h = refl
ordinary_zero (Output a) h = refl
ordinary_zero Replicate h = refl

-- What the walk finds at a form: the next one, its copy, its purpose.
module _ (d : Dialect) (s : List ℕ) (at : ℕ) (f : Form) (rest : List ℕ) (e : drop at s ≡ form_bytes d f ++ rest) where
  split : drop at s ≡ form_bytes old f ++ (tail_of d f ++ rest)
  split = e ∙ ap (λ (l : List ℕ). l ++ rest) (form_tail d f) ∙ append_assoc (form_bytes old f) (tail_of d f) rest

  code_is : get_or s at 0 ≡ code_of f
  code_is = first_there s at f (tail_of d f ++ rest) split

  head_is : head_len s at ≡ length (form_bytes old f)
  head_is = head_there s at f (tail_of d f ++ rest) split

  next_is : next_form d s at ≡ at + length (form_bytes d f)
  unfolding next_form tail_of
  next_is =
      let k : length (tail_of d f) ≡ length (if_component (code_of f) (purpose_bytes d 0)) = component_size (code_of f) (purpose_bytes d (purpose_of f)) (purpose_bytes d 0) (purpose_size d (purpose_of f) 0) in
      rw code_is (omega (arith, head_is, ap length (form_tail d f), length-append (form_bytes old f) (tail_of d f)))

  form_copy_is : (to : Dialect) → ordinary f ≡ true → form_copy to s at ≡ form_bytes to f
  unfolding form_copy tail_of
  form_copy_is to h =
      let k : take (head_len s at) (drop at s) ≡ form_bytes old f = rw split (take_at (form_bytes old f) (tail_of d f ++ rest) (head_len s at) (sym head_is)) in
      rw (k, code_is) (sym (rw (ordinary_zero f h) at (form_tail to f)))

tail_states : (s : List ℕ) (m : ℕ) (f : Form) (rest : List ℕ) → drop m s ≡ tail_of current f ++ rest → if_component (code_of f) (get_or s m 0 ∷ []) ≡ stated_by f
unfolding tail_of if_component code_of purpose_of purpose_bytes purposes_in stated_by
tail_states s m Nil rest e = refl
tail_states s m Par rest e = refl
tail_states s m (Group g) rest e = refl
tail_states s m (New t) rest e = refl
tail_states s m (Component own) rest e = ap (λ (x : ℕ). x ∷ []) (value_there s m e)
tail_states s m (Input a) rest e = refl
tail_states s m (Output a) rest e = refl
tail_states s m Replicate rest e = refl

stated_is : (s : List ℕ) (at : ℕ) (f : Form) (rest : List ℕ) → drop at s ≡ form_bytes current f ++ rest → stated_at s at ≡ stated_by f
unfolding stated_at
stated_is s at f rest e =
    rw (code_is current s at f rest e, head_is current s at f rest e)
    (tail_states s (at + length (form_bytes old f)) f rest (after_there s at (form_bytes old f) (split current s at f rest e)))

form_some : (d : Dialect) (f : Form) → 0 < length (form_bytes d f)
unfolding form_bytes
form_some d Nil = omega arith
form_some d Par = omega arith
form_some d (Group g) = omega arith
form_some d (New t) = omega arith
form_some d (Component own) = omega arith
form_some d (Input a) = omega arith
form_some d (Output a) = omega arith
form_some d Replicate = omega arith

-- A walk over stored forms gives what each form gives.
module _ (d : Dialect) (s : List ℕ) (give : ℕ → List ℕ) (each : Form → List ℕ) (ok : Form → Bool)
    (law : (at : ℕ) (f : Form) (rest : List ℕ) → ok f ≡ true → drop at s ≡ form_bytes d f ++ rest → give at ≡ each f) where
  forms_give : (fs : List Form) (n at : ℕ) → every ok fs ≡ true → drop at s ≡ gather (form_bytes d) fs → length (gather (form_bytes d) fs) ≤ n
      → forms_from give n d s at ≡ gather each fs
  unfolding gather every
  forms_give [] n at h e l = forms_last give d s at n (let z : length (drop at s) ≡ 0 = ap length e in omega (arith, length-drop at s))
  forms_give (f ∷ fs) zero at h e l = absurd (omega (arith, form_some d f, length-append (form_bytes d f) (gather (form_bytes d) fs)))
  forms_give (f ∷ fs) (suc n) at h e l =
      let rest = gather (form_bytes d) fs in
      let o = both_true (ok f) (every ok fs) h in
      let long : length (drop at s) ≡ length (form_bytes d f) + length rest = ap length e ∙ length-append (form_bytes d f) rest in
      let next : drop (next_form d s at) s ≡ rest = rw (next_is d s at f rest e) (after_there s at (form_bytes d f) e) in
      rw (
        forms_next give d s at n (omega (arith, form_some d f, length-drop at s)),
        law at f rest o.0 e,
        forms_give fs n (next_form d s at) o.1 next (omega (arith, form_some d f, length-append (form_bytes d f) rest)),
      )

-- The types of the free names end where the system begins.
type_size : (s : List ℕ) (at t : ℕ) (rest : List ℕ) → drop at s ≡ type_bytes t ++ rest → get_or s at 0 + 2 ≡ length (type_bytes t)
unfolding type_bytes
type_size s at t rest e = rw (value_there s at e) (omega (arith, nested_some 4 t))

type_next : (n : ℕ) (s : List ℕ) (at : ℕ) → types_end (suc n) s at ≡ types_end n s (at + (get_or s at 0 + 2))
unfolding types_end
type_next n s at = refl

no_type : (s : List ℕ) (at : ℕ) → types_end 0 s at ≡ at
unfolding types_end
no_type s at = refl

types_end_lem : (s : List ℕ) (ts : List ℕ) (at : ℕ) (rest : List ℕ) → drop at s ≡ types_bytes ts ++ rest → types_end (length ts) s at ≡ at + length (types_bytes ts)
unfolding types_bytes
types_end_lem s [] at rest e = omega (arith, no_type s at)
types_end_lem s (t ∷ ts) at rest e =
    let f : drop at s ≡ type_bytes t ++ (types_bytes ts ++ rest) = e ∙ append_assoc (type_bytes t) (types_bytes ts) rest in
    let z : at + length (type_bytes t) + length (types_bytes ts) ≡ at + length (type_bytes t ++ types_bytes ts) = omega (arith, length-append (type_bytes t) (types_bytes ts)) in
    rw (type_next (length ts) s at, type_size s at t (types_bytes ts ++ rest) f) (types_end_lem s ts (at + length (type_bytes t)) rest (after_there s at (type_bytes t) f) ∙ z)

-- A sheet that stands in the stored form of a dialect.
module _ (d : Dialect) (t : Sheet) (s : List ℕ) (e : sheet_bytes d t ≡ s) where
  free : List ℕ
  free = length t.free ∷ types_bytes t.free

  body : List ℕ
  body = gather (form_bytes d) (system_forms t.system)

  parts : s ≡ free ++ body
  unfolding free body sheet_bytes
  parts = sym e ∙ ap (λ (l : List ℕ). free ++ l) (system_by_forms d t.system)

  start_is : system_start s ≡ length free
  unfolding system_start free
  start_is =
      let z : 1 + length (types_bytes t.free) ≡ suc (length (types_bytes t.free)) = omega arith in
      rw parts (types_end_lem (free ++ body) t.free 1 body refl ∙ z)

  pub start_inside : system_start s ≤ length s
  start_inside = omega (arith, start_is, ap length parts, length-append free body)

  body_there : drop (system_start s) s ≡ body
  body_there = ap₂ (λ (n : ℕ) (l : List ℕ). drop n l) start_is parts ∙ drop-append_seam free body

  body_short : length body ≤ length s
  body_short = omega (arith, ap length parts, length-append free body)

  pub copy_is : (to : Dialect) → all_zero (purposes t.system) ≡ true → copy_of d to s ≡ sheet_bytes to t
  unfolding copy_of copy_from sheet_bytes free body
  copy_is to zs =
      let fs = system_forms t.system in
      let first : take (system_start s) s ≡ free = ap₂ (λ (n : ℕ) (l : List ℕ). take n l) start_is parts ∙ take-append_seam free body in
      let zeros : all_zero (gather stated_by fs) ≡ true = ap all_zero (system_states t.system) ∙ zs in
      let then : forms_from (form_copy to s) (length s) d s (system_start s) ≡ gather (form_bytes to) fs =
      forms_give d s (form_copy to s) (form_bytes to) ordinary (λ at f rest o x. form_copy_is d s at f rest x to o) fs (length s) (system_start s) (each_ordinary fs zeros) body_there body_short in
      rw (first, then, system_by_forms to t.system)

pub stated_are : (t : Sheet) (s : List ℕ) → sheet_bytes current t ≡ s → stated_in current s ≡ purposes t.system
unfolding stated_in every body
stated_are t s e =
    let fs = system_forms t.system in
    forms_give current s (stated_at s) stated_by (λ f. true) (λ at f rest o x. stated_is s at f rest x) fs (length s) (system_start s) (all_ok fs)
    (body_there current t s e) (body_short current t s e) ∙ system_states t.system
  where
    all_ok : (fs : List Form) → every (λ f. true) fs ≡ true
    all_ok [] = refl
    all_ok (f ∷ fs) = all_ok fs
