-- What each return and turn of the copy has to show, over plain values.
use Prim.Native.Nat.{ℕ, zero, suc, ◌+◌, ◌-◌, ◌<◌, ◌≤◌}
use mathlib.Core.List.{List, [], ◌∷◌, ◌++◌, append_assoc, append-nil}
use mathlib.Core.Path.{◌≡◌, refl, sym, ap, ◌∙◌}
use native.Mathlib.Omega.{arith}
use borrow.Author.Rules.{rules}
use borrow.Author.Tests.{lt-ltb, ne_eqb}
use lib.ListN.{length, get_or, take, drop, set, length-append, length-drop, take-append-drop}
use lib.Seq.{length-take-le, set_split, drop-drop, append_snoc, paste, length-paste}
use native.Mathlib.Numerals.{add-one}
use Rattle.reading.specs.Dialects.{purposes_in}
use Rattle.reading.specs.declared.Dialect.{Dialect}
use Rattle.encoding.specs.Encoding.{purpose_bytes}
use Rattle.encoding.specs.Copying.{head_len, if_component, next_form, form_copy, forms_from, copy_from, system_start, copy_of, Put}
use Rattle.encoding.proofs.WalkSteps.{head_within, forms_next, forms_last}
use Rattle.encoding.proofs.PutLaws.{put_before, put_after, put_length, put_none, put_both}

-- A purpose put in, or left out.
module _ (to : Dialect) (code n : ℕ) (out : List ℕ) (at : ℕ) where
  pub put_no_component : (code ≡ 4 → ⊥) → Put out out at (if_component code (purpose_bytes to 0)) at
  unfolding if_component
  put_no_component h = rw (ne_eqb code 4 h) (put_none out at)

  module _ (e : n ≡ purposes_in to) (h : code ≡ 4) where
    pub put_no_purpose : n ≡ 0 → Put out out at (if_component code (purpose_bytes to 0)) at
    unfolding if_component purpose_bytes
    put_no_purpose z = rw (h, ← e, z) (put_none out at)

    one_byte : (n ≡ 0 → ⊥) → if_component code (purpose_bytes to 0) ≡ 0 ∷ []
    unfolding if_component purpose_bytes
    one_byte z = rw (h, ← e, lt-ltb 0 n (omega (arith, z)))

    pub purpose_room : (n ≡ 0 → ⊥) → at + length (if_component code (purpose_bytes to 0)) ≤ length out → at < length out
    purpose_room z k = omega (arith, ap length (one_byte z))

    pub put_zero : (n ≡ 0 → ⊥) → at + length (if_component code (purpose_bytes to 0)) ≤ length out
        → Put out (set out at 0) at (if_component code (purpose_bytes to 0)) (at + 1)
    put_zero z k = rw (one_byte z) (record {
      next = refl;
      left = set_split out at 0 (purpose_room z k) ∙ rw (← add-one) (sym (append_snoc (take at out) 0 (drop (at + 1) out)));
    })

pub ruleset purpose_puts = (rules, put_no_component, put_no_purpose, purpose_room, put_zero)

-- Bytes copied.
pasted : (out : List ℕ) (at : ℕ) (s : List ℕ) (n : ℕ) → n ≤ length s → Put out (paste out at s n) at (take n s) (at + n)
pasted out at s n h = record {
  next = ap (λ (x : ℕ). at + x) (sym (length-take-le n s h));
  left = let z : at + length (take n s) ≡ at + n = ap (λ (x : ℕ). at + x) (length-take-le n s h) in rw z;
}

-- A form's copy: its bytes, then the purpose.
module _ (to : Dialect) (s : List ℕ) (from : ℕ) (out : List ℕ) (at code len : ℕ) (inside : from < length s) (e : code ≡ get_or s from 0) (f : len ≡ head_len s from)
    (room : at + length (form_copy to s from) ≤ length out) where
  taken : length (take (head_len s from) (drop from s)) ≡ head_len s from
  taken = length-take-le (head_len s from) (drop from s) (omega (arith, length-drop from s, (head_within s from inside).1))

  copied : length (form_copy to s from) ≡ head_len s from + length (if_component code (purpose_bytes to 0))
  unfolding form_copy
  copied = rw (← e, length-append (take (head_len s from) (drop from s)) (if_component code (purpose_bytes to 0)), taken)

  pub head_room : at + len ≤ length out
  head_room = omega (arith, copied)

  pub purpose_after : (out₁ : List ℕ) → out₁ ≡ paste out at (drop from s) len → at + len + length (if_component code (purpose_bytes to 0)) ≤ length out₁
  purpose_after out₁ g =
      let k : len ≤ length (drop from s) = omega (arith, length-drop from s, (head_within s from inside).1) in
      omega (arith, copied, ap length g ∙ length-paste out at (drop from s) len head_room k)

  pub form_put : (out₁ out₂ : List ℕ) (r : ℕ) → out₁ ≡ paste out at (drop from s) len → Put out₁ out₂ (at + len) (if_component code (purpose_bytes to 0)) r
      → Put out out₂ at (form_copy to s from) r
  unfolding form_copy
  form_put out₁ out₂ r g p =
      let q : Put out out₁ at (take len (drop from s)) (at + len) = rw g (pasted out at (drop from s) len (omega (arith, length-drop from s, (head_within s from inside).1))) in
      let k : at + length (take len (drop from s)) ≤ length out = rw f (omega (arith, taken, head_room)) in
      rw (← e, ← f) (put_both q p k)

pub ruleset form_puts = (rules, head_room, purpose_after, form_put)

-- The copies of forms: what is written and the copies of the forms that are left are the whole.
pub record Copying (d to : Dialect) (s all out₀ : List ℕ) (from at : ℕ) (out : List ℕ) : Type 0 where
  pub turns : ℕ
  pub enough : length s - from ≤ turns
  pub whole : take at out ++ forms_from (form_copy to s) turns d s from ≡ all
  pub place : at + length (forms_from (form_copy to s) turns d s from) ≡ length all
  pub rest : drop at out ≡ drop at out₀
  pub same : length out ≡ length out₀

-- What is as it was from a place on is so from a later one.
further : (at r n : ℕ) (out out₀ : List ℕ) → r ≡ at + n → drop at out ≡ drop at out₀ → drop r out ≡ drop r out₀
further at r n out out₀ e h =
    rw e (sym (drop-drop n at out) ∙ ap (λ (l : List ℕ). drop n l) h ∙ drop-drop n at out₀)

module _ (d to : Dialect) (s out₀ : List ℕ) (first start : ℕ) (room : start + length (copy_from d to s first) ≤ length out₀) where
  abbrev all : List ℕ
  all = take start out₀ ++ copy_from d to s first

  all_long : length all ≡ start + length (copy_from d to s first)
  all_long = omega (arith, length-append (take start out₀) (copy_from d to s first), length-take-le start out₀ (omega arith))

  pub copy_first : Copying d to s (take start out₀ ++ copy_from d to s first) out₀ first start out₀
  unfolding copy_from
  copy_first = record { turns = length s; enough = omega arith; whole = refl; place = sym all_long; rest = refl; same = refl }

  module _ (from at : ℕ) (out : List ℕ) (t : Copying d to s (take start out₀ ++ copy_from d to s first) out₀ from at out) where
    -- A form's copy, and those that are left.
    one_more : (n : ℕ) → from < length s
        → length (forms_from (form_copy to s) (suc n) d s from) ≡ length (form_copy to s from) + length (forms_from (form_copy to s) n d s (next_form d s from))
    one_more n h = ap length (forms_next (form_copy to s) d s from n h) ∙ length-append (form_copy to s from) (forms_from (form_copy to s) n d s (next_form d s from))

    pub copy_room : from < length s → at + length (form_copy to s from) ≤ length out
    copy_room h = go t.turns t.enough t.place
      where
        go : (n : ℕ) → length s - from ≤ n → at + length (forms_from (form_copy to s) n d s from) ≡ length all → at + length (form_copy to s from) ≤ length out
        go zero l p = absurd (omega arith)
        go (suc n) l p = omega (arith, t.same, all_long, one_more n h)

    pub copy_next : (next at' : ℕ) (out' : List ℕ) → from < length s → Put out out' at (form_copy to s from) at' → next ≡ next_form d s from → from < next
        → Copying d to s (take start out₀ ++ copy_from d to s first) out₀ next at' out'
    copy_next next at' out' h p e l = go t.turns t.enough t.whole t.place
      where
        fits : at + length (form_copy to s from) ≤ length out
        fits = copy_room h

        go : (n : ℕ) → length s - from ≤ n → take at out ++ forms_from (form_copy to s) n d s from ≡ all
            → at + length (forms_from (form_copy to s) n d s from) ≡ length all → Copying d to s all out₀ next at' out'
        go zero g w q = absurd (omega arith)
        go (suc n) g w q = record {
          turns = n;
          enough = omega arith;
          whole = rw (e, put_before p fits, append_assoc) (rw (forms_next (form_copy to s) d s from n h) at w);
          place = rw e (omega (arith, p.next, one_more n h));
          rest = put_after p fits ∙ further at at' (length (form_copy to s from)) out out₀ p.next t.rest;
          same = put_length p fits ∙ t.same;
        }

    pub copy_last : length s ≤ from → Put out₀ out start (copy_from d to s first) at
    copy_last h =
        let none = forms_last (form_copy to s) d s from t.turns h in
        let z : take at out ≡ all = rw (none, append-nil) at t.whole in
        let n : at ≡ start + length (copy_from d to s first) = omega (arith, t.place, all_long, ap length none) in
        record { next = n; left = sym (take-append-drop at out) ∙ rw (z, t.rest, n) }

pub ruleset copy_turns = (rules, copy_first, copy_room, copy_next, copy_last)

-- The copy of a sheet: the types of its free names, then its forms.
module _ (d to : Dialect) (s out : List ℕ) (first : ℕ) (e : first ≡ system_start s) (h : system_start s ≤ length s) (room : length (copy_of d to s) ≤ length out) where
  both_parts : copy_of d to s ≡ take first s ++ copy_from d to s first
  unfolding copy_of
  both_parts = rw e

  parts_long : length (copy_of d to s) ≡ first + length (copy_from d to s first)
  parts_long = ap length both_parts ∙ omega (arith, length-append (take first s) (copy_from d to s first), length-take-le first s (omega arith))

  pub start_room : 0 + first ≤ length out
  start_room = omega (arith, parts_long)

  pub start_inside : 0 + first ≤ length s
  start_inside = omega arith

  types_put : (out₁ : List ℕ) → out₁ ≡ paste out 0 (drop 0 s) first → Put out out₁ 0 (take first s) first
  types_put out₁ f =
      let z : 0 + first ≡ first = omega arith in
      let q : Put out out₁ 0 (take first s) (0 + first) = rw f (pasted out 0 s first (omega arith)) in
      rw z at q

  fits : 0 + length (take first s) ≤ length out
  fits = omega (arith, start_room, length-take-le first s (omega arith))

  pub forms_room : (out₁ : List ℕ) → out₁ ≡ paste out 0 (drop 0 s) first → first + length (copy_from d to s first) ≤ length out₁
  forms_room out₁ f = omega (arith, put_length (types_put out₁ f) fits, parts_long)

  pub sheet_put : (out₁ out₂ : List ℕ) (r : ℕ) → out₁ ≡ paste out 0 (drop 0 s) first → Put out₁ out₂ first (copy_from d to s first) r → Put out out₂ 0 (copy_of d to s) r
  sheet_put out₁ out₂ r f p = rw both_parts (put_both (types_put out₁ f) p fits)

pub ruleset sheet_puts = (rules, start_room, start_inside, forms_room, sheet_put)
