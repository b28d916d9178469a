-- How many bytes a move has, told from its code and the bytes left, without its fields.
use Prim.Native.Nat.{ℕ, zero, suc, ◌+◌, ◌-◌, ◌<◌, ◌≤◌}
use Rattle.std.specs.Prelude.{Option, Some, None, IfSome, Result, Ok, Err}
use mathlib.Core.Bool.{Bool, true, false, cond}
use mathlib.Core.List.{List}
use mathlib.Core.Path.{◌≡◌, refl, sym, ap, ◌∙◌}
use native.Mathlib.Decide.{dec_lt}
use native.Mathlib.Omega.{arith}
use borrow.Author.Rules.{rules}
use borrow.Author.Tests.{lt-ltb, le-ltb, leb-true, leb-false}
use lib.Dec.{leb}
use lib.ListN.{length, get_or}
use Rattle.std.proofs.Common.{◌⊎◌, inl, inr}
use Rattle.reading.proofs.Parts.{parts}
use Rattle.reading.specs.Dialects.{groups_in, kinds_in}
use Rattle.reading.specs.Read.{Read, got, refused, and_then, byte_at, below}
use Rattle.reading.specs.Types.{channel, groups_then_kind_in, type_at_in, type_at}
use Rattle.reading.specs.Told.{number}
use Rattle.reading.specs.declared.Dialect.{Dialect}
use Rattle.reading.specs.declared.Dialect.TheVariants.{Current as current}
use Rattle.reading.specs.declared.Number.{Number}
use Rattle.reading.specs.declared.Refusal.{Refusal}
use Rattle.policy.proofs.ListLaws.{below_is}
use Rattle.policy.specs.Reading.{two_bytes}
use Rattle.running.specs.Moves.{Move}
use Rattle.running.specs.Script.{move_from, move_at}
use Rattle.script.proofs.MoveSteps.{code_unfold, code_send, code_receipt, code_communication, code_environment, code_other}
use Rattle.script.specs.Fields.{unfold_at, send_at, receipt_at, communication_at, environment_name_at}
use Rattle.script.specs.Told.{Spans}

-- A type that was read ends behind its place, and within the bytes.
groups_end : (d : Dialect) (n : ℕ) (s : List ℕ) (at : ℕ) {t m : ℕ} → groups_then_kind_in d n s at ≡ got t m → (at < m) × (m ≤ length s)
unfolding groups_then_kind_in
groups_end d zero s at e = let b = below_is (kinds_in d) s at e in (omega (arith, b.next), omega (arith, b.next, b.inside))
groups_end d (suc n) s at {t} {m} e =
    let h = parts (below (groups_in d) s at) (λ g next. and_then (groups_then_kind_in d n s next) (λ u m. got (channel g u) m)) e in
    let i = parts (groups_then_kind_in d n s h.place) (λ u m. got (channel h.value u) m) h.rest in
    let p : i.place ≡ m = cc in
    let b = below_is (groups_in d) s at h.first in
    let r = groups_end d n s h.place i.first in
    (omega (arith, p, b.next, r.0), omega (arith, p, r.1))

type_end : (s : List ℕ) (at : ℕ) {t m : ℕ} → type_at s at ≡ got t m → (at < m) × (m ≤ length s)
unfolding type_at_in
type_end s at e =
    let h = parts (below 5 s at) (λ n next. groups_then_kind_in current n s next) e in
    let b = below_is 5 s at h.first in
    let r = groups_end current h.value s h.place h.rest in
    (omega (arith, b.next, r.0), r.1)

-- A move whose field is a type.
module _ (s : List ℕ) (at : ℕ) (r : Result Number Refusal) (e : number r ≡ type_at s (at + 1)) where
  pub type_none : (q : Refusal) → r ≡ Err q → Spans at (environment_name_at s (at + 1)) None
  unfolding Spans environment_name_at and_then
  type_none q f = rw (← e, f) tt

  module _ (n : Number) (f : r ≡ Ok n) where
    reads : type_at s (at + 1) ≡ got n.value n.next
    reads = sym e ∙ ap number f

    pub type_after : at ≤ n.next
    type_after = omega (arith, (type_end s (at + 1) reads).0)

    pub type_within : n.next - at ≤ length s - at
    type_within = omega (arith, (type_end s (at + 1) reads).1)

    pub type_spans : Spans at (environment_name_at s (at + 1)) (Some (n.next - at))
    unfolding Spans environment_name_at and_then
    type_spans = let h = (type_end s (at + 1) reads).0 in rw reads (omega arith, omega arith)

pub ruleset type_steps = (rules, type_none, type_after, type_within, type_spans)

-- A byte where there is one, and where there is none.
here : (s : List ℕ) (at : ℕ) → at < length s → byte_at s at ≡ got (get_or s at 0) (at + 1)
unfolding byte_at
here s at h = rw (lt-ltb at (length s) h)

none : (s : List ℕ) (at : ℕ) → length s ≤ at → byte_at s at ≡ refused 2 at
unfolding byte_at
none s at h = rw (le-ltb at (length s) h)

pub no_byte : (s : List ℕ) (at : ℕ) → length s ≤ at → Spans at (move_at s at) None
unfolding move_at and_then Spans
no_byte s at h = rw (none s at h) tt

-- What is read from a place on has n bytes, or cannot be read because fewer are left.
record Sized (s : List ℕ) (at n : ℕ) (x : Read Move) : Type 0 where
  fits : at + n ≤ length s → Spans at x (Some n)
  short : length s < at + n → Spans at x None

module _ (s : List ℕ) (at n : ℕ) where
  sized_got : (m : Move) (k : ℕ) → k ≡ at + n → 0 < n → at + n ≤ length s → Sized s at n (got m k)
  unfolding Spans
  sized_got m k e p h = record { fits = λ i. (e, p); short = λ i. absurd (omega arith) }

  sized_byte : (from : ℕ) (f : ℕ → ℕ → Read Move) → from < at + n → ((v : ℕ) → from < length s → Sized s at n (f v (from + 1)))
      → Sized s at n (and_then (byte_at s from) f)
  unfolding Spans and_then
  sized_byte from f h k = go (dec_lt from (length s))
    where
      go : Dec (from < length s) → Sized s at n (and_then (byte_at s from) f)
      go (yes p) = rw (here s from p) (k (get_or s from 0) p)
      go (no p) = record { fits = λ i. absurd (p (omega arith)); short = λ i. rw (none s from (omega (arith, p))) tt }

then_then : {A B C : Type 0} (x : Read A) (f : A → ℕ → Read B) (g : B → ℕ → Read C)
    → and_then (and_then x f) g ≡ and_then x (λ a k. and_then (f a k) g)
unfolding and_then
then_then (got a k) f g = refl
then_then (refused q p) f g = refl

-- The bytes of each code's move.
module _ (s : List ℕ) (at : ℕ) (h : at < length s) where
  unfold_sized : Sized s at 2 (unfold_at s (at + 1))
  unfolding unfold_at
  unfold_sized = sized_byte s at 2 (at + 1) _ (omega arith) (λ v p. sized_got s at 2 _ _ (omega arith) (omega arith) (omega arith))

  send_sized : Sized s at 2 (send_at s (at + 1))
  unfolding send_at
  send_sized = sized_byte s at 2 (at + 1) _ (omega arith) (λ v p. sized_got s at 2 _ _ (omega arith) (omega arith) (omega arith))

  communication_sized : Sized s at 3 (communication_at s (at + 1))
  unfolding communication_at
  communication_sized = sized_byte s at 3 (at + 1) _ (omega arith) (λ v p. sized_byte s at 3 (at + 1 + 1) _ (omega arith)
      (λ w q. sized_got s at 3 _ _ (omega arith) (omega arith) (omega arith)))

  receipt_sized : Sized s at 4 (receipt_at s (at + 1))
  unfolding receipt_at two_bytes and_then
  receipt_sized = sized_byte s at 4 (at + 1) _ (omega arith) (λ v p. rw then_then (sized_byte s at 4 (at + 1 + 1) _ (omega arith)
      (λ low q. rw then_then (sized_byte s at 4 (at + 1 + 1 + 1) _ (omega arith)
      (λ high u. sized_got s at 4 _ _ (omega arith) (omega arith) (omega arith))))))

  -- What `span` answers for a move of n bytes.
  spanned : (n left : ℕ) (r : Option ℕ) (x : Read Move) → Sized s at n x → left ≡ length s - at → r ≡ cond (leb n left) (Some n) None → Spans at x r
  spanned n left r x z e f = go (leb n left) refl
    where
      go : (t : Bool) → leb n left ≡ t → Spans at x r
      go true g = rw (f, g) (z.fits (omega (arith, leb-true n left g)))
      go false g = rw (f, g) (z.short (omega (arith, leb-false n left g)))

  pub span_within : (n left : ℕ) (r : Option ℕ) → left ≡ length s - at → r ≡ cond (leb n left) (Some n) None → IfSome r (λ m. m ≤ length s - at)
  span_within n left r e f = go (leb n left) refl
    where
      go : (t : Bool) → leb n left ≡ t → IfSome r (λ m. m ≤ length s - at)
      go true g = rw (f, g) (omega (arith, leb-true n left g))
      go false g = rw (f, g) tt

  begins : (y : Read Move) → y ≡ move_from s (at + 1) (get_or s at 0) → move_at s at ≡ y
  unfolding move_at and_then
  begins y e = rw (here s at h, e)

  module _ (left : ℕ) (r : Option ℕ) (e : left ≡ length s - at) where
    span_unfold : get_or s at 0 ≡ 1 → r ≡ cond (leb 2 left) (Some 2) None → Spans at (move_at s at) r
    span_unfold c f = rw (begins _ (code_unfold s (at + 1) (get_or s at 0) c refl)) (spanned 2 left r _ unfold_sized e f)

    span_send : get_or s at 0 ≡ 2 → r ≡ cond (leb 2 left) (Some 2) None → Spans at (move_at s at) r
    span_send c f = rw (begins _ (code_send s (at + 1) (get_or s at 0) c refl)) (spanned 2 left r _ send_sized e f)

    pub span_two : (get_or s at 0 ≡ 1) ⊎ (get_or s at 0 ≡ 2) → r ≡ cond (leb 2 left) (Some 2) None → Spans at (move_at s at) r
    span_two (inl c) = span_unfold c
    span_two (inr c) = span_send c

    pub span_receipt : get_or s at 0 ≡ 3 → r ≡ cond (leb 4 left) (Some 4) None → Spans at (move_at s at) r
    span_receipt c f = rw (begins _ (code_receipt s (at + 1) (get_or s at 0) c refl)) (spanned 4 left r _ receipt_sized e f)

    pub span_communication : get_or s at 0 ≡ 4 → r ≡ cond (leb 3 left) (Some 3) None → Spans at (move_at s at) r
    span_communication c f = rw (begins _ (code_communication s (at + 1) (get_or s at 0) c refl)) (spanned 3 left r _ communication_sized e f)

  pub span_environment : (r : Option ℕ) → get_or s at 0 ≡ 5 → Spans at (environment_name_at s (at + 1)) r → Spans at (move_at s at) r
  span_environment r c f = rw (begins _ (code_environment s (at + 1) (get_or s at 0) c refl)) f

  pub span_other : (get_or s at 0 ≡ 1 → ⊥) → (get_or s at 0 ≡ 2 → ⊥) → (get_or s at 0 ≡ 3 → ⊥) → (get_or s at 0 ≡ 4 → ⊥) → (get_or s at 0 ≡ 5 → ⊥)
      → Spans at (move_at s at) None
  unfolding Spans
  span_other a b c d f = rw (begins _ (code_other s (at + 1) (get_or s at 0) a b c d f refl)) tt

pub ruleset span_steps = (rules, no_byte, span_within, span_two, span_receipt, span_communication, span_environment, span_other)
