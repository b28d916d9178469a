-- A form as a number, each field in digits of its own.
use Rattle.std.specs.Prelude.{ℕ, ◌+◌, ◌*◌, ◌/◌, ◌%◌, List, cond, get_or, eqb}
use Rattle.reading.specs.declared.Form.{Form}
use Rattle.reading.specs.declared.Form.TheVariants.{Nil, Par, Group, New, Component, Input, Output, Replicate}
use Rattle.decoding.specs.declared.Item.{Item}

-- a code with its fields and the place of a part
unfoldable pub digits : ℕ → ℕ → ℕ → ℕ → ℕ
digits code channel object next = ((object % 536870912 * 256 + channel % 256) * 8192 + next % 8192) * 8 + code % 8

unfoldable pub packed_form : Form → ℕ → ℕ → ℕ
packed_form Nil next second = digits 0 0 0 next
packed_form Par next second = digits 1 0 second next
packed_form (Group g) next second = digits 2 0 g next
packed_form (New t) next second = digits 3 0 t next
packed_form (Component own) next second = digits 4 own.purpose own.group next
packed_form (Input a) next second = digits 5 a.channel a.object next
packed_form (Output a) next second = digits 6 a.channel a.object next
packed_form Replicate next second = digits 7 0 0 next

abbrev pub packed : Item → ℕ
packed item = packed_form item.form item.next item.second

-- the form of a code and its fields
unfoldable pub form_of : ℕ → ℕ → ℕ → Form
form_of code channel object =
    cond (eqb code 1) Par
    (cond (eqb code 2) (Group object)
    (cond (eqb code 3) (New object)
    (cond (eqb code 4) (Component (record { group = object; purpose = channel }))
    (cond (eqb code 5) (Input (record { channel = channel; object = object }))
    (cond (eqb code 6) (Output (record { channel = channel; object = object }))
    (cond (eqb code 7) Replicate Nil))))))

unfoldable pub unpacked : ℕ → Item
unpacked w = record {
  form = form_of (w % 8) (w / 8 / 8192 % 256) (w / 8 / 8192 / 256 % 536870912);
  next = w / 8 % 8192;
  second = w / 8 / 8192 / 256 % 8192;
}

-- what stands at a place of a table
unfoldable pub item_at : List ℕ → ℕ → Item
item_at forms at = unpacked (get_or forms at 0)
