-- What each return and turn of the walk has to show, over plain values.
use Prim.Native.Nat.{ℕ, zero, suc, ◌+◌, ◌-◌, ◌*◌, ◌<◌, ◌≤◌, min}
use mathlib.Core.Bool.{Bool, true, false, cond, not, ◌&&◌}
use mathlib.Core.List.{List, [], ◌++◌}
use mathlib.Core.Path.{◌≡◌, refl, sym, ◌∙◌}
use native.Mathlib.Numerals.{sub-one}
use native.Mathlib.Omega.{arith}
use borrow.Author.Rules.{rules}
use borrow.Author.Tests.{lt-ltb, le-ltb, ne_eqb}
use lib.Dec.{eqb}
use lib.ListN.{length, get_or}
use Rattle.reading.specs.Dialects.{purposes_in}
use Rattle.reading.specs.declared.Dialect.{Dialect}
use Rattle.inference.specs.Lists.{every}
use Rattle.inference.proofs.EveryLaws.{every_append}
use Rattle.encoding.specs.Encoding.{purpose_bytes, all_zero}
use Rattle.encoding.specs.Copying.{form_len, head_len, if_component, next_form, stated_at, forms_from, types_end, system_start, stated_in}

-- The arms of a form's length.
module _ (code x y z : ℕ) (e : code ≡ x) where
  pub len_group : code ≡ 2 → 2 ≡ form_len x y z
  unfolding form_len
  len_group h = let k : x ≡ 2 = omega arith in rw k

  pub len_new : (v : ℕ) → v ≡ y → code ≡ 3 → v + 3 ≡ form_len x y z
  unfolding form_len
  len_new v f h = let k : x ≡ 3 = omega arith in rw (k, f)

  pub len_component : code ≡ 4 → 2 ≡ form_len x y z
  unfolding form_len
  len_component h = let k : x ≡ 4 = omega arith in rw k

  pub len_input : (v : ℕ) → v ≡ z → code ≡ 5 → v + 4 ≡ form_len x y z
  unfolding form_len
  len_input v f h = let k : x ≡ 5 = omega arith in rw (k, f)

  pub len_output : code ≡ 6 → 3 ≡ form_len x y z
  unfolding form_len
  len_output h = let k : x ≡ 6 = omega arith in rw k

  pub len_other : (code ≡ 2 → ⊥) → (code ≡ 3 → ⊥) → (code ≡ 4 → ⊥) → (code ≡ 5 → ⊥) → (code ≡ 6 → ⊥) → 1 ≡ form_len x y z
  unfolding form_len
  len_other a b c d f = rw (← e, ne_eqb code 2 a, ne_eqb code 3 b, ne_eqb code 4 c, ne_eqb code 5 d, ne_eqb code 6 f)

pub ruleset lengths = (rules, len_group, len_new, len_component, len_input, len_output, len_other)

-- A form has at least one byte.
either : (b : Bool) (m n : ℕ) → 0 < m → 0 < n → 0 < cond b m n
either true m n h k = h
either false m n h k = k

form_some : (x y z : ℕ) → 0 < form_len x y z
unfolding form_len
form_some x y z =
    either (eqb x 2) _ _ (omega arith) (either (eqb x 3) _ _ (omega arith) (either (eqb x 4) _ _ (omega arith) (either (eqb x 5) _ _ (omega arith) (either (eqb x 6) _ _ (omega arith) (omega arith)))))

-- At a place, and no more than there are.
pub head_is : (s : List ℕ) (at len : ℕ) → len ≡ form_len (get_or s at 0) (get_or s (at + 1) 0) (get_or s (at + 2) 0)
    → min len (length s - at) ≡ head_len s at
unfolding head_len
head_is s at len e = rw e refl

pub head_within : (s : List ℕ) (at : ℕ) → at < length s → (0 < head_len s at) × (at + head_len s at ≤ length s)
unfolding head_len
head_within s at h =
    let f = form_some (get_or s at 0) (get_or s (at + 1) 0) (get_or s (at + 2) 0) in
    (omega (arith, f), omega (arith, f))

pub head_some : (s : List ℕ) (at len : ℕ) → at < length s → len ≡ form_len (get_or s at 0) (get_or s (at + 1) 0) (get_or s (at + 2) 0)
    → (0 < min len (length s - at)) × (at + min len (length s - at) ≤ length s)
head_some s at len h e = rw (head_is s at len e) (head_within s at h)

pub ruleset walk_arms = (rules, head_is, head_some)

-- A purpose's bytes.
module _ (d : Dialect) (n : ℕ) (e : n ≡ purposes_in d) where
  pub purpose_byte : 0 < n → 1 ≡ length (purpose_bytes d 0)
  unfolding purpose_bytes
  purpose_byte h = rw (← e, lt-ltb 0 n h)

  pub purpose_no_byte : n ≤ 0 → 0 ≡ length (purpose_bytes d 0)
  unfolding purpose_bytes
  purpose_no_byte h = rw (← e, le-ltb 0 n h)

pub ruleset purpose_arms = (rules, purpose_byte, purpose_no_byte)

-- The next form, past a component and past another.
module _ (d : Dialect) (s : List ℕ) (at code len : ℕ) (e : code ≡ get_or s at 0) (f : len ≡ head_len s at) where
  pub next_component : (n : ℕ) → code ≡ 4 → n ≡ length (purpose_bytes d 0) → at + (len + n) ≡ next_form d s at
  unfolding next_form if_component
  next_component n h k = rw (← e, f, k, h)

  pub next_other : (code ≡ 4 → ⊥) → at + len ≡ next_form d s at
  unfolding next_form if_component
  next_other h = let z : head_len s at + 0 ≡ head_len s at = omega arith in rw (← e, ne_eqb code 4 h, z, f)

pub ruleset next_arms = (rules, next_component, next_other)

-- A purpose at a form, none, 0 or another.
module _ (s : List ℕ) (at code : ℕ) (e : code ≡ get_or s at 0) where
  pub states_none : (code ≡ 4 → ⊥) → false ≡ not (all_zero (stated_at s at))
  unfolding stated_at if_component all_zero every
  states_none h = rw (← e, ne_eqb code 4 h)

  module _ (len p : ℕ) (h : code ≡ 4) (f : len ≡ head_len s at) (k : p ≡ get_or s (at + len) 0) where
    pub states_zero : p ≡ 0 → false ≡ not (all_zero (stated_at s at))
    unfolding stated_at if_component all_zero every
    states_zero z = rw (← e, h, ← f, ← k, z)

    pub states_another : (p ≡ 0 → ⊥) → true ≡ not (all_zero (stated_at s at))
    unfolding stated_at if_component all_zero every
    states_another z = rw (← e, h, ← f, ← k, ne_eqb p 0 z)

pub ruleset states_arms = (rules, states_none, states_zero, states_another)

-- Past the types of the free names: those that are left end where all do.
pub record Starting (s : List ℕ) (at passed : ℕ) : Type 0 where
  pub whole : types_end (get_or s 0 0 - passed) s at ≡ types_end (get_or s 0 0) s 1
  pub near : at ≤ 1 + 257 * passed

pub start_first : (s : List ℕ) → Starting s 1 0
start_first s = let e : get_or s 0 0 - 0 ≡ get_or s 0 0 = omega arith in record { whole = rw e refl; near = omega arith }

types_next : (s : List ℕ) (at n b : ℕ) → 0 < n → b ≡ get_or s at 0 → types_end n s at ≡ types_end (n - 1) s (at + (b + 2))
unfolding types_end
types_next s at zero b h e = absurd (omega arith)
types_next s at (suc n) b h e = rw (sub-one (suc n), e) refl

pub start_next : (s : List ℕ) (at passed count b : ℕ) → Starting s at passed → passed < count → count ≡ get_or s 0 0 → b ≡ get_or s at 0 → b < 256
    → Starting s (at + (b + 2)) (passed + 1)
start_next s at passed count b t h e f l =
    let n : get_or s 0 0 - (passed + 1) ≡ get_or s 0 0 - passed - 1 = omega arith in
    record { whole = rw n (sym (types_next s at (get_or s 0 0 - passed) b (omega arith) f) ∙ t.whole); near = omega (arith, t.near) }

pub start_last : (s : List ℕ) (at passed : ℕ) → Starting s at passed → passed ≡ get_or s 0 0 → at ≡ system_start s
unfolding system_start types_end
start_last s at passed t h = let z : get_or s 0 0 - passed ≡ 0 = omega arith in rw z at t.whole

pub ruleset start_steps = (rules, start_first, start_next, start_last)

-- What forms give: one and the rest, and no more.
module _ (give : ℕ → List ℕ) (d : Dialect) (s : List ℕ) (at : ℕ) where
  pub forms_next : (n : ℕ) → at < length s → forms_from give (suc n) d s at ≡ give at ++ forms_from give n d s (next_form d s at)
  unfolding forms_from
  forms_next n h = rw (lt-ltb at (length s) h)

  pub forms_last : (n : ℕ) → length s ≤ at → forms_from give n d s at ≡ []
  unfolding forms_from
  forms_last zero h = refl
  forms_last (suc n) h = rw (le-ltb at (length s) h)

-- The purposes from a form on, of a walk that goes on far enough, decide for all.
pub record Asking (d : Dialect) (s : List ℕ) (at : ℕ) : Type 0 where
  pub turns : ℕ
  pub enough : length s - at ≤ turns
  pub whole : all_zero (forms_from (stated_at s) turns d s at) ≡ all_zero (stated_in d s)

pub ask_first : (d : Dialect) (s : List ℕ) (at : ℕ) → at ≡ system_start s → Asking d s at
unfolding stated_in
ask_first d s at e = record { turns = length s; enough = omega arith; whole = rw e }

pub negated : (b t : Bool) → t ≡ not b → b ≡ not t
negated true t e = rw e
negated false t e = rw e

module _ (d : Dialect) (s : List ℕ) (at : ℕ) (t : Asking d s at) where
  stated_next : (n : ℕ) → at < length s
      → all_zero (forms_from (stated_at s) (suc n) d s at) ≡ (all_zero (stated_at s at) && all_zero (forms_from (stated_at s) n d s (next_form d s at)))
  unfolding all_zero
  stated_next n h = rw (forms_next (stated_at s) d s at n h) (every_append (λ p. eqb p 0) (stated_at s at) (forms_from (stated_at s) n d s (next_form d s at)))

  pub ask_next : (next : ℕ) (b : Bool) → at < length s → b ≡ not (all_zero (stated_at s at)) → b ≡ false → next ≡ next_form d s at → at < next → Asking d s next
  ask_next next b h y x e l = go t.turns t.enough t.whole
    where
      go : (n : ℕ) → length s - at ≤ n → all_zero (forms_from (stated_at s) n d s at) ≡ all_zero (stated_in d s) → Asking d s next
      go zero k w = absurd (omega arith)
      go (suc n) k w = record {
        turns = n;
        enough = omega arith;
        whole = rw e (sym (stated_next n h ∙ rw (negated (all_zero (stated_at s at)) b y, x)) ∙ w);
      }

  pub ask_other : (b : Bool) → at < length s → b ≡ not (all_zero (stated_at s at)) → b ≡ true → false ≡ all_zero (stated_in d s)
  ask_other b h y x = go t.turns t.enough t.whole
    where
      go : (n : ℕ) → length s - at ≤ n → all_zero (forms_from (stated_at s) n d s at) ≡ all_zero (stated_in d s) → false ≡ all_zero (stated_in d s)
      go zero k w = absurd (omega arith)
      go (suc n) k w = sym (stated_next n h ∙ rw (negated (all_zero (stated_at s at)) b y, x)) ∙ w

  pub ask_last : length s ≤ at → true ≡ all_zero (stated_in d s)
  unfolding all_zero every
  ask_last h = rw (forms_last (stated_at s) d s at t.turns h) at t.whole

pub ruleset ask_steps = (rules, ask_first, ask_next, ask_other, ask_last)
