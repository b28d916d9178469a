-- A form as a number, return by return: each arm of the matches on a form and on a code is one clause of the definition.
use Prim.Native.Nat.{ℕ, ◌/◌, ◌%◌, ◌≤◌}
use mathlib.Core.List.{List}
use mathlib.Core.Path.{◌≡◌}
use borrow.Author.Rules.{rules}
use borrow.Author.Tests.{ne_eqb}
use lib.ListN.{length, get_or, set}
use Rattle.reading.proofs.Tables.{unread}
use Rattle.reading.specs.declared.Act.{Act}
use Rattle.reading.specs.declared.OwnFields.{OwnFields}
use Rattle.reading.specs.declared.Form.{Form}
use Rattle.reading.specs.declared.Form.TheVariants.{Nil, Par, Group, New, Component, Input, Output, Replicate}
use Rattle.decoding.specs.Words.{digits, packed_form, packed, form_of, unpacked, item_at}
use Rattle.decoding.specs.declared.Item.{Item}

module _ (item : Item) {w : ℕ} where
  pub pack_nil : item.form ≡ Nil → w ≡ digits 0 0 0 item.next → w ≡ packed item
  unfolding packed_form
  pack_nil e h = rw e h

  pub pack_par : item.form ≡ Par → w ≡ digits 1 0 item.second item.next → w ≡ packed item
  unfolding packed_form
  pack_par e h = rw e h

  pub pack_group : (g : ℕ) → item.form ≡ Group g → w ≡ digits 2 0 g item.next → w ≡ packed item
  unfolding packed_form
  pack_group g e h = rw e h

  pub pack_new : (t : ℕ) → item.form ≡ New t → w ≡ digits 3 0 t item.next → w ≡ packed item
  unfolding packed_form
  pack_new t e h = rw e h

  pub pack_component : (own : OwnFields) → item.form ≡ Component own → w ≡ digits 4 own.purpose own.group item.next → w ≡ packed item
  unfolding packed_form
  pack_component own e h = rw e h

  pub pack_input : (a : Act) → item.form ≡ Input a → w ≡ digits 5 a.channel a.object item.next → w ≡ packed item
  unfolding packed_form
  pack_input a e h = rw e h

  pub pack_output : (a : Act) → item.form ≡ Output a → w ≡ digits 6 a.channel a.object item.next → w ≡ packed item
  unfolding packed_form
  pack_output a e h = rw e h

  pub pack_replicate : item.form ≡ Replicate → w ≡ digits 7 0 0 item.next → w ≡ packed item
  unfolding packed_form
  pack_replicate e h = rw e h

module _ (code channel object : ℕ) where
  abbrev form : Form
  form = form_of code channel object

  pub code_par : code ≡ 1 → Par ≡ form
  unfolding form_of
  code_par e = rw e

  pub code_group : code ≡ 2 → Group object ≡ form
  unfolding form_of
  code_group e = rw e

  pub code_new : code ≡ 3 → New object ≡ form
  unfolding form_of
  code_new e = rw e

  pub code_component : code ≡ 4 → Component (record { group = object; purpose = channel }) ≡ form
  unfolding form_of
  code_component e = rw e

  pub code_input : code ≡ 5 → Input (record { channel = channel; object = object }) ≡ form
  unfolding form_of
  code_input e = rw e

  pub code_output : code ≡ 6 → Output (record { channel = channel; object = object }) ≡ form
  unfolding form_of
  code_output e = rw e

  pub code_replicate : code ≡ 7 → Replicate ≡ form
  unfolding form_of
  code_replicate e = rw e

  pub code_nil : (code ≡ 1 → ⊥) → (code ≡ 2 → ⊥) → (code ≡ 3 → ⊥) → (code ≡ 4 → ⊥) → (code ≡ 5 → ⊥) → (code ≡ 6 → ⊥) → (code ≡ 7 → ⊥) → Nil ≡ form
  unfolding form_of
  code_nil a b c d e f g = rw (ne_eqb code 1 a, ne_eqb code 2 b, ne_eqb code 3 c, ne_eqb code 4 d, ne_eqb code 5 e, ne_eqb code 6 f, ne_eqb code 7 g)

pub unpack_digits : (w : ℕ) (f : Form) → f ≡ form_of (w % 8) (w / 8 / 8192 % 256) (w / 8 / 8192 / 256 % 536870912)
    → record { form = f; next = w / 8 % 8192; second = w / 8 / 8192 / 256 % 8192 } ≡ unpacked w
unfolding unpacked
unpack_digits w f e = rw e

module _ (forms : List ℕ) (at : ℕ) (r : Item) where
  pub item_in : r ≡ unpacked (get_or forms at 0) → r ≡ item_at forms at
  unfolding item_at
  item_in e = e

  pub item_out : length forms ≤ at → r ≡ unpacked 0 → r ≡ item_at forms at
  unfolding item_at
  item_out h e = rw (← unread forms at h) e

-- A number stored.
pub stored : (forms after : List ℕ) (at w v : ℕ) → after ≡ set forms at w → w ≡ v → after ≡ set forms at v
stored forms after at w v e h = rw h at e

pub ruleset word_steps = (
  rules,
  stored,
  pack_nil,
  pack_par,
  pack_group,
  pack_new,
  pack_component,
  pack_input,
  pack_output,
  pack_replicate,
  code_par,
  code_group,
  code_new,
  code_component,
  code_input,
  code_output,
  code_replicate,
  code_nil,
  unpack_digits,
  item_in,
  item_out,
)
