-- What stands at a place of a process, by the byte there: the form that the reader reads, or none.
use Prim.Native.Nat.{ℕ, ◌+◌, ◌<◌, ◌≤◌}
use mathlib.Core.Bool.{Bool, true, false, ◌&&◌}
use mathlib.Core.List.{List}
use mathlib.Core.Path.{◌≡◌, refl, ◌∙◌}
use native.Mathlib.Omega.{arith}
use borrow.Author.Tests.{lt-ltb, le-ltb, ltb-true, ltb-false, ne_eqb}
use lib.Dec.{ltb}
use lib.ListN.{length, get_or}
use Rattle.reading.specs.declared.Dialect.TheVariants.{Current as current}
use Rattle.reading.specs.Read.{Read, got, refused, and_then, byte_at, below}
use Rattle.reading.specs.Types.{type_at_in, type_at}
use Rattle.reading.specs.Forms.{limited, new_form_in, input_form_in, output_form, process_form_in, process_at_in, process_at}
use Rattle.reading.specs.Syntax.{nil}
use Rattle.reading.specs.Total.{process_tree}
use Rattle.reading.specs.declared.Form.TheVariants.{Nil, Par, New, Input, Output, Replicate}
use Rattle.reading.proofs.Parts.{parts, byte_found}
use Rattle.reading.proofs.TotalLaws.{process_stop}

-- By cases: below, or not.
below_or_not : {P : Type 0} (a b : ℕ) → (a < b → P) → (b ≤ a → P) → P
below_or_not {P} a b f g = go (ltb a b) refl
  where
    go : (t : Bool) → ltb a b ≡ t → P
    go true e = f (ltb-true a b e)
    go false e = g (ltb-false a b e)

-- A byte that is there, and one that is not.
byte_then : {A : Type 0} (s : List ℕ) (at next : ℕ) (f : ℕ → ℕ → Read A) → next ≡ at + 1 → at < length s
    → and_then (byte_at s at) f ≡ f (get_or s at 0) next
unfolding byte_at and_then
byte_then s at next f z here = rw (z, lt-ltb at (length s) here)

no_byte : {A : Type 0} (s : List ℕ) (at : ℕ) (f : ℕ → ℕ → Read A) → length s ≤ at → and_then (byte_at s at) f ≡ refused 2 at
unfolding byte_at and_then
no_byte s at f past = rw (le-ltb at (length s) past)

-- A type that is read begins with a byte.
type_here : (s : List ℕ) (at : ℕ) {t k : ℕ} → type_at s at ≡ got t k → at < length s
unfolding type_at_in below
type_here s at e =
    let count = parts (below 5 s at) _ e in
    let byte = parts (byte_at s at) _ count.first in
    ltb-true at (length s) (byte_found s at byte.first).test

module _ (s : List ℕ) (at nest names : ℕ) where
  -- Nothing stands where there is no byte.
  pub past_end : length s ≤ at → process_tree nest s names at ≡ record { tree = nil; next = at }
  unfolding process_at_in
  past_end past = process_stop nest s names at 2 at (no_byte s at _ past)

  module _ (deep : 0 < nest) (here : at < length s) where
    level : process_form_in current s at (at + 1) (ltb 0 nest) (ltb 0 nest && ltb names 64) (get_or s at 0)
        ≡ process_form_in current s at (at + 1) true (ltb names 64) (get_or s at 0)
    level = rw (lt-ltb 0 nest deep)

    coded : process_at s at nest names ≡ process_form_in current s at (at + 1) true (ltb names 64) (get_or s at 0)
    unfolding process_at_in
    coded = byte_then s at (at + 1) _ refl here ∙ level

    pub nil_at : get_or s at 0 ≡ 0 → process_at s at nest names ≡ got Nil (at + 1)
    unfolding process_form_in limited
    nil_at c = rw c at coded

    pub par_at : get_or s at 0 ≡ 1 → process_at s at nest names ≡ got Par (at + 1)
    unfolding process_form_in limited
    par_at c = rw c at coded

    pub repl_at : get_or s at 0 ≡ 7 → process_at s at nest names ≡ got Replicate (at + 1)
    unfolding process_form_in limited
    repl_at c = rw c at coded

    -- A form that binds a name: where there is room for the name, and where there is none.
    pub new_at : {t k : ℕ} → get_or s at 0 ≡ 3 → names < 64 → type_at s (at + 1) ≡ got t k → process_at s at nest names ≡ got (New t) k
    unfolding process_form_in limited new_form_in and_then
    new_at c room found = rw (lt-ltb names 64 room, found) at (rw c at coded)

    pub new_full : get_or s at 0 ≡ 3 → 64 ≤ names → process_tree nest s names at ≡ record { tree = nil; next = at }
    unfolding process_form_in limited
    new_full c full = process_stop nest s names at 5 at (rw (le-ltb names 64 full) at (rw c at coded))

    pub no_new : {q p : ℕ} → get_or s at 0 ≡ 3 → names < 64 → type_at s (at + 1) ≡ refused q p
        → process_tree nest s names at ≡ record { tree = nil; next = at }
    unfolding process_form_in limited new_form_in and_then
    no_new {q} {p} c room none = process_stop nest s names at q p (rw (lt-ltb names 64 room, none) at (rw c at coded))

    input_form : get_or s at 0 ≡ 5 → names < 64 → process_at s at nest names ≡ input_form_in current s (at + 1)
    unfolding process_form_in limited
    input_form c room = rw (lt-ltb names 64 room) at (rw c at coded)

    -- An input's channel stands before the type that it binds.
    channel_then : at + 1 < length s → input_form_in current s (at + 1)
        ≡ and_then (type_at s (at + 2)) (λ t m. got (Input (record { channel = get_or s (at + 1) 0; object = t })) m)
    unfolding input_form_in
    channel_then l = byte_then s (at + 1) (at + 2) _ (omega arith) l

    pub input_at : {t k : ℕ} → get_or s at 0 ≡ 5 → names < 64 → type_at s (at + 2) ≡ got t k
        → process_at s at nest names ≡ got (Input (record { channel = get_or s (at + 1) 0; object = t })) k
    unfolding and_then
    input_at c room found =
        input_form c room ∙ rw found at (channel_then (omega (arith, type_here s (at + 2) found)))

    pub input_full : get_or s at 0 ≡ 5 → 64 ≤ names → process_tree nest s names at ≡ record { tree = nil; next = at }
    unfolding process_form_in limited
    input_full c full = process_stop nest s names at 5 at (rw (le-ltb names 64 full) at (rw c at coded))

    pub no_input : {q p : ℕ} → get_or s at 0 ≡ 5 → names < 64 → type_at s (at + 2) ≡ refused q p
        → process_tree nest s names at ≡ record { tree = nil; next = at }
    unfolding input_form_in and_then
    no_input {q} {p} c room none = below_or_not (at + 1) (length s)
        (λ l. process_stop nest s names at q p (input_form c room ∙ rw none at (channel_then l)))
        (λ l. process_stop nest s names at 2 (at + 1) (input_form c room ∙ no_byte s (at + 1) _ l))

    -- An output.
    output_form_lem : get_or s at 0 ≡ 6 → process_at s at nest names ≡ output_form s (at + 1)
    unfolding process_form_in limited
    output_form_lem c = rw c at coded

    sent_then : at + 1 < length s → output_form s (at + 1)
        ≡ and_then (byte_at s (at + 2)) (λ y m. got (Output (record { channel = get_or s (at + 1) 0; object = y })) m)
    unfolding output_form
    sent_then l = byte_then s (at + 1) (at + 2) _ (omega arith) l

    pub output_at : get_or s at 0 ≡ 6 → at + 2 < length s
        → process_at s at nest names ≡ got (Output (record { channel = get_or s (at + 1) 0; object = get_or s (at + 2) 0 })) (at + 3)
    output_at c l = output_form_lem c ∙ sent_then (omega arith) ∙ byte_then s (at + 2) (at + 3) _ (omega arith) l

    pub no_output : get_or s at 0 ≡ 6 → length s ≤ at + 2 → process_tree nest s names at ≡ record { tree = nil; next = at }
    unfolding output_form
    no_output c past = below_or_not (at + 1) (length s)
        (λ l. process_stop nest s names at 2 (at + 2) (output_form_lem c ∙ sent_then l ∙ no_byte s (at + 2) _ past))
        (λ l. process_stop nest s names at 2 (at + 1) (output_form_lem c ∙ no_byte s (at + 1) _ l))

    -- Each other byte.
    pub no_code : (get_or s at 0 ≡ 0 → ⊥) → (get_or s at 0 ≡ 1 → ⊥) → (get_or s at 0 ≡ 3 → ⊥) → (get_or s at 0 ≡ 5 → ⊥)
        → (get_or s at 0 ≡ 6 → ⊥) → (get_or s at 0 ≡ 7 → ⊥) → process_tree nest s names at ≡ record { tree = nil; next = at }
    unfolding process_form_in
    no_code a b c d e f = process_stop nest s names at 4 at (rw (
      ne_eqb (get_or s at 0) 0 a,
      ne_eqb (get_or s at 0) 1 b,
      ne_eqb (get_or s at 0) 3 c,
      ne_eqb (get_or s at 0) 5 d,
      ne_eqb (get_or s at 0) 6 e,
      ne_eqb (get_or s at 0) 7 f,
    ) at coded)
