-- What stands at a place, from its parts: each lemma is one case of a definition, from the parts that were read or the first that was
-- refused.
use Prim.Native.Nat.{ℕ, ◌<◌, ◌≤◌}
use mathlib.Core.Bool.{Bool, true, false, ◌&&◌}
use mathlib.Core.List.{List}
use mathlib.Core.Path.{◌≡◌}
use borrow.Author.Tests.{ne_eqb, lt-ltb, le-ltb}
use lib.Dec.{ltb}
use lib.ListN.{length}
use Rattle.reading.specs.Dialects.{groups_in, purposes_in}
use Rattle.reading.specs.Read.{Read, got, refused, and_then, byte_at, below}
use Rattle.reading.specs.Types.{type_at_in}
use Rattle.reading.specs.Forms.{member, limited, fresh_group_in, new_form_in, input_form_in, output_form, group_form_in, purpose_in, component_form_in, process_form_in, process_at_in, system_form_in, system_at_in}
use Rattle.reading.specs.declared.Dialect.{Dialect}
use Rattle.reading.specs.declared.Form.TheVariants.{Nil, Par, Group, New, Component, Input, Output, Replicate}

-- with room for one form more, and without
pub limited_room : {A : Type 0} (b : Bool) (at : ℕ) (r : Read A) → b ≡ true → limited b at r ≡ r
unfolding limited
limited_room b at r e = rw e

pub limited_full : {A : Type 0} (b : Bool) (at : ℕ) (r : Read A) → b ≡ false → limited b at r ≡ refused 5 at
unfolding limited
limited_full b at r e = rw e

-- a group new to the path
module _ (d : Dialect) (s : List ℕ) (at : ℕ) (path : List ℕ) where
  module _ {g n : ℕ} (e : below (groups_in d) s at ≡ got g n) where
    pub fresh_group_got : member g path ≡ false → fresh_group_in d s at path ≡ got g n
    unfolding fresh_group_in and_then
    fresh_group_got h = rw (e, h)

    pub fresh_group_held : member g path ≡ true → fresh_group_in d s at path ≡ refused 6 at
    unfolding fresh_group_in and_then
    fresh_group_held h = rw (e, h)

  pub fresh_group_refused : {q p : ℕ} → below (groups_in d) s at ≡ refused q p → fresh_group_in d s at path ≡ refused q p
  unfolding fresh_group_in and_then
  fresh_group_refused e = rw e

-- a purpose, stated or not
module _ (d : Dialect) (s : List ℕ) (at : ℕ) where
  pub purpose_stated : 0 < purposes_in d → purpose_in d s at ≡ below (purposes_in d) s at
  unfolding purpose_in
  purpose_stated h = rw (lt-ltb 0 (purposes_in d) h)

  pub purpose_none : purposes_in d ≤ 0 → purpose_in d s at ≡ got 0 at
  unfolding purpose_in
  purpose_none h = rw (le-ltb 0 (purposes_in d) h)

-- a new name
module _ (d : Dialect) (s : List ℕ) (at : ℕ) where
  pub new_form_got : {t m : ℕ} → type_at_in d s at ≡ got t m → new_form_in d s at ≡ got (New t) m
  unfolding new_form_in and_then
  new_form_got e = rw e

  pub new_form_refused : {q p : ℕ} → type_at_in d s at ≡ refused q p → new_form_in d s at ≡ refused q p
  unfolding new_form_in and_then
  new_form_refused e = rw e

-- an input
module _ (d : Dialect) (s : List ℕ) (at : ℕ) where
  module _ {x n : ℕ} (f : byte_at s at ≡ got x n) where
    pub input_form_got : {t m : ℕ} → type_at_in d s n ≡ got t m → input_form_in d s at ≡ got (Input (record { channel = x; object = t })) m
    unfolding input_form_in and_then
    input_form_got e = rw (f, e)

    pub input_form_refused : {q p : ℕ} → type_at_in d s n ≡ refused q p → input_form_in d s at ≡ refused q p
    unfolding input_form_in and_then
    input_form_refused e = rw (f, e)

  pub input_channel_refused : {q p : ℕ} → byte_at s at ≡ refused q p → input_form_in d s at ≡ refused q p
  unfolding input_form_in and_then
  input_channel_refused e = rw e

-- an output
module _ (s : List ℕ) (at : ℕ) where
  module _ {x n : ℕ} (f : byte_at s at ≡ got x n) where
    pub output_form_got : {y m : ℕ} → byte_at s n ≡ got y m → output_form s at ≡ got (Output (record { channel = x; object = y })) m
    unfolding output_form and_then
    output_form_got e = rw (f, e)

    pub output_form_refused : {q p : ℕ} → byte_at s n ≡ refused q p → output_form s at ≡ refused q p
    unfolding output_form and_then
    output_form_refused e = rw (f, e)

  pub output_channel_refused : {q p : ℕ} → byte_at s at ≡ refused q p → output_form s at ≡ refused q p
  unfolding output_form and_then
  output_channel_refused e = rw e

-- a group, and a component
module _ (d : Dialect) (s : List ℕ) (at : ℕ) (path : List ℕ) where
  module _ {g n : ℕ} (f : fresh_group_in d s at path ≡ got g n) where
    pub group_form_got : group_form_in d s at path ≡ got (Group g) n
    unfolding group_form_in and_then
    group_form_got = rw f

    pub component_form_got : {u m : ℕ} → purpose_in d s n ≡ got u m
        → component_form_in d s at path ≡ got (Component (record { group = g; purpose = u })) m
    unfolding component_form_in and_then
    component_form_got e = rw (f, e)

    pub component_purpose_refused : {q p : ℕ} → purpose_in d s n ≡ refused q p → component_form_in d s at path ≡ refused q p
    unfolding component_form_in and_then
    component_purpose_refused e = rw (f, e)

  module _ {q p : ℕ} (f : fresh_group_in d s at path ≡ refused q p) where
    pub group_form_refused : group_form_in d s at path ≡ refused q p
    unfolding group_form_in and_then
    group_form_refused = rw f

    pub component_group_refused : component_form_in d s at path ≡ refused q p
    unfolding component_form_in and_then
    component_group_refused = rw f

pub ruleset fresh_steps = (fresh_group_got, fresh_group_held, fresh_group_refused)

pub ruleset purpose_steps = (purpose_stated, purpose_none)

pub ruleset form_steps = (
  limited_room,
  limited_full,
  new_form_got,
  new_form_refused,
  input_form_got,
  input_form_refused,
  input_channel_refused,
  output_form_got,
  output_form_refused,
  output_channel_refused,
  group_form_got,
  group_form_refused,
  component_form_got,
  component_purpose_refused,
  component_group_refused,
)

-- A process's forms by their codes.
module _ (d : Dialect) (s : List ℕ) (at nest names : ℕ) where
  module _ {code next : ℕ} (e : byte_at s at ≡ got code next) where
    pub process_nil : code ≡ 0 → process_at_in d s at nest names ≡ limited (ltb 0 nest) at (got Nil next)
    unfolding process_at_in process_form_in and_then
    process_nil h = rw (e, h)

    pub process_par : code ≡ 1 → process_at_in d s at nest names ≡ limited (ltb 0 nest) at (got Par next)
    unfolding process_at_in process_form_in and_then
    process_par h = rw (e, h)

    pub process_new : code ≡ 3 → process_at_in d s at nest names ≡ limited (ltb 0 nest && ltb names 64) at (new_form_in d s next)
    unfolding process_at_in process_form_in and_then
    process_new h = rw (e, h)

    pub process_input : code ≡ 5 → process_at_in d s at nest names ≡ limited (ltb 0 nest && ltb names 64) at (input_form_in d s next)
    unfolding process_at_in process_form_in and_then
    process_input h = rw (e, h)

    pub process_output : code ≡ 6 → process_at_in d s at nest names ≡ limited (ltb 0 nest) at (output_form s next)
    unfolding process_at_in process_form_in and_then
    process_output h = rw (e, h)

    pub process_replicate : code ≡ 7 → process_at_in d s at nest names ≡ limited (ltb 0 nest) at (got Replicate next)
    unfolding process_at_in process_form_in and_then
    process_replicate h = rw (e, h)

    pub process_other : (code ≡ 0 → ⊥) → (code ≡ 1 → ⊥) → (code ≡ 3 → ⊥) → (code ≡ 5 → ⊥) → (code ≡ 6 → ⊥) → (code ≡ 7 → ⊥)
        → process_at_in d s at nest names ≡ refused 4 at
    unfolding process_at_in process_form_in and_then
    process_other a b c x y z = rw (e, ne_eqb code 0 a, ne_eqb code 1 b, ne_eqb code 3 c, ne_eqb code 5 x, ne_eqb code 6 y, ne_eqb code 7 z)

  pub process_refused_at : {q p : ℕ} → byte_at s at ≡ refused q p → process_at_in d s at nest names ≡ refused q p
  unfolding process_at_in and_then
  process_refused_at e = rw e

pub ruleset process_forms_lem = (
  process_nil,
  process_par,
  process_new,
  process_input,
  process_output,
  process_replicate,
  process_other,
  process_refused_at,
)

-- A system's forms by their codes.
module _ (d : Dialect) (s : List ℕ) (at nest names : ℕ) (path : List ℕ) (components : ℕ) where
  module _ {code next : ℕ} (e : byte_at s at ≡ got code next) where
    pub system_nil : code ≡ 0 → system_at_in d s at nest names path components ≡ limited (ltb 0 nest) at (got Nil next)
    unfolding system_at_in system_form_in and_then
    system_nil h = rw (e, h)

    pub system_par : code ≡ 1 → system_at_in d s at nest names path components ≡ limited (ltb 0 nest) at (got Par next)
    unfolding system_at_in system_form_in and_then
    system_par h = rw (e, h)

    pub system_group : code ≡ 2
        → system_at_in d s at nest names path components ≡ limited (ltb 0 nest && ltb (length path) 8) at (group_form_in d s next path)
    unfolding system_at_in system_form_in and_then
    system_group h = rw (e, h)

    pub system_new : code ≡ 3 → system_at_in d s at nest names path components ≡ limited (ltb 0 nest && ltb names 64) at (new_form_in d s next)
    unfolding system_at_in system_form_in and_then
    system_new h = rw (e, h)

    pub system_component : code ≡ 4
        → system_at_in d s at nest names path components
        ≡ limited ((ltb 0 nest && ltb (length path) 8) && ltb components 32) at (component_form_in d s next path)
    unfolding system_at_in system_form_in and_then
    system_component h = rw (e, h)

    pub system_other : (code ≡ 0 → ⊥) → (code ≡ 1 → ⊥) → (code ≡ 2 → ⊥) → (code ≡ 3 → ⊥) → (code ≡ 4 → ⊥)
        → system_at_in d s at nest names path components ≡ refused 4 at
    unfolding system_at_in system_form_in and_then
    system_other a b c x y = rw (e, ne_eqb code 0 a, ne_eqb code 1 b, ne_eqb code 2 c, ne_eqb code 3 x, ne_eqb code 4 y)

  pub system_refused_at : {q p : ℕ} → byte_at s at ≡ refused q p → system_at_in d s at nest names path components ≡ refused q p
  unfolding system_at_in and_then
  system_refused_at e = rw e

pub ruleset system_forms_lem = (system_nil, system_par, system_group, system_new, system_component, system_other, system_refused_at)
