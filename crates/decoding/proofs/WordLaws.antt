-- A form whose fields fit their digits is the form that its number stands for.
use Prim.Native.Nat.{ℕ, ◌+◌, ◌*◌, ◌/◌, ◌%◌, ◌<◌}
use mathlib.Core.Bool.{Bool, true, false, cond}
use mathlib.Core.Path.{◌≡◌, refl, ap}
use native.Mathlib.Nat.{mod-eq_of_lt, mod-lt}
use native.Mathlib.Omega.{arith}
use lib.Dec.{eqb, lit<}
use Rattle.memory.proofs.ThreadLaws.{digit_last, digits_before}
use Rattle.reading.specs.Syntax.{Process, par, System, parₛ}
use Rattle.reading.specs.declared.Form.{Form}
use Rattle.reading.specs.declared.Form.TheVariants.{Nil, Par, Group, New, Component, Input, Output, Replicate}
use Rattle.decoding.specs.Words.{digits, packed_form, form_of, unpacked}
use Rattle.decoding.specs.Tables.{process_of, system_of}

-- The fields of a form fit: an object or a group has 29 binary digits, a channel or a purpose eight.
unfoldable pub FormFits : Form → Type 0
FormFits Nil = Unit {0}
FormFits Par = Unit {0}
FormFits (Group g) = g < 536870912
FormFits (New t) = t < 536870912
FormFits (Component own) = (own.purpose < 256) × (own.group < 536870912)
FormFits (Input a) = (a.channel < 256) × (a.object < 536870912)
FormFits (Output a) = (a.channel < 256) × (a.object < 536870912)
FormFits Replicate = Unit {0}

-- The form that any number stands for fits.
fits_either : (t : Bool) (f g : Form) → FormFits f → FormFits g → FormFits (cond t f g)
fits_either true f g h k = h
fits_either false f g h k = k

pub unpacked_fits : (w : ℕ) → FormFits (unpacked w).form
unfolding FormFits unpacked form_of
unpacked_fits w =
    let code = w % 8 in
    let x = mod-lt (w / 8 / 8192) (lit< tt) in
    let o = mod-lt (w / 8 / 8192 / 256) (lit< tt) in
    fits_either (eqb code 1) _ _ tt (fits_either (eqb code 2) _ _ o (fits_either (eqb code 3) _ _ o (fits_either (eqb code 4) _ _ (x, o)
    (fits_either (eqb code 5) _ _ (x, o) (fits_either (eqb code 6) _ _ (x, o) (fits_either (eqb code 7) _ _ tt tt))))))

module _ (code channel object next : ℕ) (c : code < 8) (x : channel < 256) (o : object < 536870912) (n : next < 8192) where
  abbrev word : ℕ
  word = ((object * 256 + channel) * 8192 + next) * 8 + code

  bare : digits code channel object next ≡ word
  unfolding digits
  bare = rw (mod-eq_of_lt c, mod-eq_of_lt x, mod-eq_of_lt o, mod-eq_of_lt n)

  code_back : digits code channel object next % 8 ≡ code
  code_back = rw (bare, digit_last ((object * 256 + channel) * 8192 + next) code 8 c)

  next_back : digits code channel object next / 8 % 8192 ≡ next
  next_back = rw (
    bare,
    digits_before ((object * 256 + channel) * 8192 + next) code 8 c,
    digit_last (object * 256 + channel) next 8192 n,
  )

  channel_back : digits code channel object next / 8 / 8192 % 256 ≡ channel
  channel_back = rw (
    bare,
    digits_before ((object * 256 + channel) * 8192 + next) code 8 c,
    digits_before (object * 256 + channel) next 8192 n,
    digit_last object channel 256 x,
  )

  field_back : digits code channel object next / 8 / 8192 / 256 ≡ object
  field_back = rw (
    bare,
    digits_before ((object * 256 + channel) * 8192 + next) code 8 c,
    digits_before (object * 256 + channel) next 8192 n,
    digits_before object channel 256 x,
  )

  object_back : digits code channel object next / 8 / 8192 / 256 % 536870912 ≡ object
  object_back = rw (field_back, mod-eq_of_lt o)

module _ (next second : ℕ) (n : next < 8192) (m : second < 8192) where
  form_back : (f : Form) → FormFits f → (unpacked (packed_form f next second)).form ≡ f
  unfolding FormFits packed_form unpacked form_of
  form_back Nil h = rw (code_back 0 0 0 next (lit< tt) (lit< tt) (lit< tt) n)
  form_back Par h = rw (code_back 1 0 second next (lit< tt) (lit< tt) (omega arith) n)
  form_back (Group g) h = rw (code_back 2 0 g next (lit< tt) (lit< tt) h n, object_back 2 0 g next (lit< tt) (lit< tt) h n)
  form_back (New t) h = rw (code_back 3 0 t next (lit< tt) (lit< tt) h n, object_back 3 0 t next (lit< tt) (lit< tt) h n)
  form_back (Component own) h = rw (
    code_back 4 own.purpose own.group next (lit< tt) h.0 h.1 n,
    channel_back 4 own.purpose own.group next (lit< tt) h.0 h.1 n,
    object_back 4 own.purpose own.group next (lit< tt) h.0 h.1 n,
  )
  form_back (Input a) h = rw (
    code_back 5 a.channel a.object next (lit< tt) h.0 h.1 n,
    channel_back 5 a.channel a.object next (lit< tt) h.0 h.1 n,
    object_back 5 a.channel a.object next (lit< tt) h.0 h.1 n,
  )
  form_back (Output a) h = rw (
    code_back 6 a.channel a.object next (lit< tt) h.0 h.1 n,
    channel_back 6 a.channel a.object next (lit< tt) h.0 h.1 n,
    object_back 6 a.channel a.object next (lit< tt) h.0 h.1 n,
  )
  form_back Replicate h = rw (code_back 7 0 0 next (lit< tt) (lit< tt) (lit< tt) n)

  place_back : (f : Form) → FormFits f → (unpacked (packed_form f next second)).next ≡ next
  unfolding FormFits packed_form unpacked
  place_back Nil h = next_back 0 0 0 next (lit< tt) (lit< tt) (lit< tt) n
  place_back Par h = next_back 1 0 second next (lit< tt) (lit< tt) (omega arith) n
  place_back (Group g) h = next_back 2 0 g next (lit< tt) (lit< tt) h n
  place_back (New t) h = next_back 3 0 t next (lit< tt) (lit< tt) h n
  place_back (Component own) h = next_back 4 own.purpose own.group next (lit< tt) h.0 h.1 n
  place_back (Input a) h = next_back 5 a.channel a.object next (lit< tt) h.0 h.1 n
  place_back (Output a) h = next_back 6 a.channel a.object next (lit< tt) h.0 h.1 n
  place_back Replicate h = next_back 7 0 0 next (lit< tt) (lit< tt) (lit< tt) n

  second_back : (unpacked (packed_form Par next second)).second ≡ second
  unfolding packed_form unpacked
  second_back = rw (field_back 1 0 second next (lit< tt) (lit< tt) (omega arith) n, mod-eq_of_lt m)

  -- So a number gives back the process, or the system, that its form begins.
  process_second : (part : ℕ → Process) (f : Form) → process_of part f next (unpacked (packed_form f next second)).second ≡ process_of part f next second
  unfolding process_of
  process_second part Nil = refl
  process_second part Par = ap (λ m. par (part next) (part m)) second_back
  process_second part (Group g) = refl
  process_second part (New t) = refl
  process_second part (Component own) = refl
  process_second part (Input a) = refl
  process_second part (Output a) = refl
  process_second part Replicate = refl

  pub process_back : (part : ℕ → Process) (f : Form) → FormFits f
      → process_of part (unpacked (packed_form f next second)).form (unpacked (packed_form f next second)).next (unpacked (packed_form f next second)).second
      ≡ process_of part f next second
  process_back part f h = rw (form_back f h, place_back f h) (process_second part f)

  system_second : (part : ℕ → System) (process : ℕ → Process) (f : Form)
      → system_of part process f next (unpacked (packed_form f next second)).second ≡ system_of part process f next second
  unfolding system_of
  system_second part process Nil = refl
  system_second part process Par = ap (λ m. parₛ (part next) (part m)) second_back
  system_second part process (Group g) = refl
  system_second part process (New t) = refl
  system_second part process (Component own) = refl
  system_second part process (Input a) = refl
  system_second part process (Output a) = refl
  system_second part process Replicate = refl

  pub system_back : (part : ℕ → System) (process : ℕ → Process) (f : Form) → FormFits f
      → system_of part process (unpacked (packed_form f next second)).form (unpacked (packed_form f next second)).next (unpacked (packed_form f next second)).second
      ≡ system_of part process f next second
  system_back part process f h = rw (form_back f h, place_back f h) (system_second part process f)
