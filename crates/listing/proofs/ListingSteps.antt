-- The returns and the turns of the loops of listing: each lemma is one of them.
use native.Mathlib.Nat.{mod-eq_of_lt}
use native.Mathlib.Omega.{arith}
use mathlib.Core.Bool.{Bool, true, false, not}
use Prim.Native.Nat.{ℕ, zero, suc, ◌+◌, ◌-◌, ◌*◌, ◌/◌, ◌%◌, ◌≤◌, ◌<◌}
use mathlib.Core.List.{List, [], ◌∷◌, ◌++◌}
use mathlib.Core.Path.{◌≡◌, refl, ◌∙◌}
use native.Mathlib.Numerals.{sub-one}
use borrow.Author.Tests.{eq-eqb, ne_eqb, lt-ltb, le-ltb, not-true, not-false}
use borrow.Author.Rules.{rules}
use lib.ListN.{length, get_or, set}
use Rattle.interface.specs.Writes.{store_bytes, Stored}
use Rattle.listing.specs.Put.{Put}
use Rattle.listing.specs.declared.Text.{Text}
use Rattle.reading.proofs.Tables.{unset}
use Rattle.policy.specs.Syntax.{has_bit}
use Rattle.interface.proofs.WriteLaws.{parts_from, stored_none, stored_more, Writing, write_first, write_next, write_last}
use Rattle.listing.specs.Text.{
  decimal_of,
  decimal,
  dots,
  path_text,
  flag_text,
  count_text,
  item_text,
  text_of,
  items_text,
  head_text,
  flags_text,
  line_text,
  number_at,
  item_at,
  items_at,
  bytes_at,
  path_len,
  purpose_in,
  map_in,
  list_place,
  items_in,
  end_of,
  item_count,
  line_at,
  next_at,
}
use Rattle.listing.proofs.TextLaws.{dot_at, dot_few, dots_are, item_part, part_few, items_are}

-- Bytes that are added to a text one after another.
pub put_none : (a : Text) → Put a a []
put_none a = record { same_memory = refl; stored = stored_none a.out.now a.len }

pub put_more : {a b c : Text} {xs ys : List ℕ} → Put a b xs → Put b c ys → Put a c (xs ++ ys)
put_more p q = record { same_memory = q.same_memory ∙ p.same_memory; stored = stored_more p.stored q.stored }

-- One byte, where there is room and where there is none.
module _ (out : List ℕ) (len byte : ℕ) where
  pub byte_stored : byte < 256 → Stored out (set out len byte) len (byte ∷ []) (len + 1)
  unfolding store_bytes
  byte_stored h = record { next = omega arith; left = rw (mod-eq_of_lt h) refl }

  pub byte_left : length out ≤ len → Stored out out len (byte ∷ []) (len + 1)
  unfolding store_bytes
  byte_left h = record { next = omega arith; left = unset out len (byte % 256) h }

-- Parts that are added in turn.
pub record Putting (f : ℕ → List ℕ) (b n : ℕ) (first text : Text) (i : ℕ) : Type 0 where
  pub same_memory : text.out.ghost_name ≡ first.out.ghost_name
  pub writing : Writing f b n first.out.now first.len text.out.now text.len i

putting_next : {f : ℕ → List ℕ} {b n i : ℕ} {first text after : Text} → Putting f b n first text i → i < n → Put text after (f i) → Putting f b n first after (i + 1)
putting_next w h p = record { same_memory = p.same_memory ∙ w.same_memory; writing = write_next w.writing h p.stored }

putting_end : {f : ℕ → List ℕ} {b n i : ℕ} {first text : Text} → Putting f b n first text i → n ≤ i → Put first text (parts_from f n 0)
putting_end w h = record { same_memory = w.same_memory; stored = write_last w.writing h }

pub putting_near : (f : ℕ → List ℕ) (b n : ℕ) (first text : Text) (i : ℕ) → Putting f b n first text i → text.len ≤ first.len + b * i
putting_near f b n first text i w = omega (arith, w.writing.near)

module _ (t : Text) where
  -- The digits of a number.
  pub digits_none : (d n : ℕ) → d ≡ 0 → Put t t (decimal_of d n)
  unfolding decimal_of
  digits_none d n h = rw h (put_none t)

  pub digits_one : {u : Text} (d n x : ℕ) → (d ≡ 0 → ⊥) → n < 10 → x ≡ 48 + n → Put t u (x ∷ []) → Put t u (decimal_of d n)
  unfolding decimal_of
  digits_one zero n x h l e s = absurd (h refl)
  digits_one (suc d) n x h l e s = rw (lt-ltb n 10 l, ← e) s

  pub digits_more : {u v : Text} (d n x : ℕ) → (d ≡ 0 → ⊥) → 10 ≤ n → x ≡ 48 + n % 10 → Put t u (decimal_of (d - 1) (n / 10))
      → Put u v (x ∷ []) → Put t v (decimal_of d n)
  unfolding decimal_of
  digits_more zero n x h l e s r = absurd (h refl)
  digits_more (suc d) n x h l e s r = rw (le-ltb n 10 l, ← e) (put_more (rw (sub-one (suc d)) at s) r)

  pub decimal_written : {u : Text} (n : ℕ) → Put t u (decimal_of 5 n) → Put t u (decimal n)
  unfolding decimal
  decimal_written n s = s

  -- A byte, then more.
  pub byte_then : {u v : Text} (x : ℕ) (xs : List ℕ) → Put t u (x ∷ []) → Put u v xs → Put t v (x ∷ xs)
  byte_then x xs s r = put_more s r

  -- A path.
  module _ (b : List ℕ) (from n : ℕ) where
    pub dots_first : Putting (dot_at b from) 6 n t t 0
    dots_first = record { same_memory = refl; writing = write_first (dot_at b from) 6 n t.out.now t.len (dot_few b from) }

    pub dots_next : {u v : Text} (i g : ℕ) → Putting (dot_at b from) 6 n t u i → i < n → g ≡ get_or b (from + i) 0
        → Put u v (46 ∷ decimal g) → Putting (dot_at b from) 6 n t v (i + 1)
    unfolding dot_at
    dots_next i g w h e s = putting_next w h (rw e at s)

    pub dots_last : {u : Text} {i : ℕ} → Putting (dot_at b from) 6 n t u i → n ≤ i → Put t u (dots (bytes_at n b from))
    dots_last w h = rw (dots_are b from n) at (putting_end w h)

    pub path_none : n ≡ 0 → Put t t (path_text (bytes_at n b from))
    unfolding path_text bytes_at
    path_none h = rw h (put_none t)

  pub path_some : {u v : Text} (b : List ℕ) (from n g : ℕ) → (n ≡ 0 → ⊥) → g ≡ get_or b from 0 → Put t u (decimal g)
      → Put u v (dots (bytes_at (n - 1) b (from + 1))) → Put t v (path_text (bytes_at n b from))
  unfolding path_text bytes_at
  path_some b from zero g h e s r = absurd (h refl)
  path_some b from (suc n) g h e s r = put_more (rw e at s) (rw (sub-one (suc n)) at r)

  pub component_written : {u v : Text} (b : List ℕ) (from len purpose : ℕ) → purpose ≡ get_or b (from + len) 0
      → Put t u (path_text (bytes_at len b from)) → Put u v (58 ∷ decimal purpose)
      → Put t v (path_text (bytes_at len b from) ++ (58 ∷ decimal (get_or b (from + len) 0)))
  component_written b from len purpose e s r = put_more s (rw e at r)

  -- Flags.
  pub flag_unset : (value map letter : ℕ) (b : Bool) → b ≡ has_bit value map → not b ≡ true → Put t t (flag_text (has_bit value map) letter)
  unfolding flag_text
  flag_unset value map letter b e h = rw (← e, not-true b h) (put_none t)

  pub flag_set : {u v : Text} (value map letter : ℕ) (b : Bool) → b ≡ has_bit value map → not b ≡ false → Put t u (32 ∷ [])
      → Put u v (letter ∷ []) → Put t v (flag_text (has_bit value map) letter)
  unfolding flag_text
  flag_set value map letter b e h s r = rw (← e, not-false b h) (put_more s r)

  pub flags_written : {u v w : Text} (map : ℕ) → Put t u (flag_text (has_bit 1 map) 114)
      → Put u v (flag_text (has_bit 2 map) 119) → Put v w (flag_text (has_bit 4 map) 97) → Put t w (flags_text (has_bit 1 map) (has_bit 2 map) (has_bit 4 map))
  unfolding flags_text
  flags_written map s r q = put_more s (put_more r q)

  -- Items.
  pub star_written : {u : Text} (n : ℕ) → n ≡ 65535 → Put t u (42 ∷ []) → Put t u (count_text n)
  unfolding count_text
  star_written n h s = rw (eq-eqb n 65535 h) s

  pub count_written : {u : Text} (n : ℕ) → (n ≡ 65535 → ⊥) → Put t u (decimal n) → Put t u (count_text n)
  unfolding count_text
  count_written n h s = rw (ne_eqb n 65535 h) s

  pub item_written : {u v w x : Text} (g n m : ℕ) → Put t u (32 ∷ []) → Put u v (100 ∷ decimal g)
      → Put v w (58 ∷ count_text n) → Put w x (47 ∷ count_text m) → Put t x (item_text g n m)
  unfolding item_text
  item_written g n m s r q p = put_more s (put_more r (put_more q p))

  module _ (b : List ℕ) where
    pub item_read : {u : Text} (place g n m : ℕ) → g ≡ get_or b place 0 → n ≡ number_at b (place + 1) → m ≡ number_at b (place + 3)
        → Put t u (item_text g n m) → Put t u (text_of (item_at b place))
    unfolding text_of item_at
    item_read place g n m e f h s = rw (e, f, h) at s

    module _ (from n : ℕ) where
      pub items_first : Putting (item_part b from) 19 n t t 0
      items_first = record { same_memory = refl; writing = write_first (item_part b from) 19 n t.out.now t.len (part_few b from) }

      pub items_next : {u v : Text} (i : ℕ) → Putting (item_part b from) 19 n t u i → i < n → Put u v (text_of (item_at b (from + 5 * i)))
          → Putting (item_part b from) 19 n t v (i + 1)
      unfolding item_part
      items_next i w h s = putting_next w h s

      pub items_last : {u : Text} {i : ℕ} → Putting (item_part b from) 19 n t u i → n ≤ i → Put t u (items_text (items_at n b from))
      items_last w h = rw (items_are b from n) at (putting_end w h)

  -- The two halves of a line.
  pub head_written : {u v w : Text} (b : List ℕ) (p len k : ℕ) → k ≡ get_or b p 0 → Put t u (decimal k)
      → Put u v (32 ∷ []) → Put v w (path_text (bytes_at len b (p + 2)) ++ (58 ∷ decimal (get_or b (p + 2 + len) 0)))
      → Put t w (head_text (get_or b p 0) (bytes_at len b (p + 2)) (get_or b (p + 2 + len) 0))
  unfolding head_text
  head_written b p len k e s r q = put_more (rw e at s) (put_more r q)

  pub tail_written : {u v w : Text} (xs ys : List ℕ) → Put t u xs → Put u v ys → Put v w (10 ∷ []) → Put t w (xs ++ (ys ++ (10 ∷ [])))
  tail_written xs ys s r q = put_more s (put_more r q)

-- A number of two bytes.
pub number_is : (b : List ℕ) (at x y : ℕ) → x ≡ get_or b at 0 → y ≡ get_or b (at + 1) 0 → x + 256 * y ≡ number_at b at
unfolding number_at
number_is b at x y e f = rw (e, f)

-- The list of an entry.
module _ (map list : ℕ) (b : Bool) (is : b ≡ has_bit 16 map) where
  pub no_items : (s : List ℕ) → b ≡ false → 0 ≡ items_in (has_bit 16 map) s list
  unfolding items_in
  no_items s h = rw (← is, h) refl

  pub some_items : {r : ℕ} (s : List ℕ) → b ≡ true → r ≡ get_or s list 0 → r ≡ items_in (has_bit 16 map) s list
  unfolding items_in
  some_items s h e = rw (← is, h) e

  pub no_list : (items : ℕ) → b ≡ false → list ≡ end_of (has_bit 16 map) list items
  unfolding end_of
  no_list items h = rw (← is, h) refl

  pub some_list : (items : ℕ) → b ≡ true → list + 1 + 5 * items ≡ end_of (has_bit 16 map) list items
  unfolding end_of
  some_list items h = rw (← is, h) refl

-- The line, and the place of the next entry.
module _ (b : List ℕ) (at len map items : ℕ) where
  pub next_is : {r : ℕ} → len ≡ get_or b (at + 1) 0 → map ≡ get_or b (at + 3 + len) 0 → items ≡ items_in (has_bit 16 map) b (at + 4 + len)
      → r ≡ end_of (has_bit 16 map) (at + 4 + len) items → r ≡ next_at b at
  unfolding next_at item_count list_place map_in path_len
  next_is e f g h = rw (← e, ← f, ← g) h

  pub line_written : {t u v : Text} (out : List ℕ) → out ≡ v.out.now → len ≡ get_or b (at + 1) 0 → map ≡ get_or b (at + 3 + len) 0
      → items ≡ items_in (has_bit 16 map) b (at + 4 + len)
      → Put t u (head_text (get_or b at 0) (bytes_at len b (at + 2)) (get_or b (at + 2 + len) 0))
      → Put u v (flags_text (has_bit 1 map) (has_bit 2 map) (has_bit 4 map) ++ (items_text (items_at items b (at + 4 + len + 1)) ++ (10 ∷ [])))
      → Stored t.out.now out t.len (line_at b at) v.len
  unfolding line_at line_text item_count list_place map_in purpose_in path_len
  line_written out d e f g s r = rw (d, ← e, ← f, ← g) (put_more s r).stored

pub ruleset listing_steps = (
  rules,
  byte_stored,
  byte_left,
  putting_near,
  digits_none,
  digits_one,
  digits_more,
  decimal_written,
  byte_then,
  dots_first,
  dots_next,
  dots_last,
  path_none,
  path_some,
  component_written,
  flag_unset,
  flag_set,
  flags_written,
  star_written,
  count_written,
  item_written,
  item_read,
  items_first,
  items_next,
  items_last,
  head_written,
  tail_written,
  number_is,
  no_items,
  some_items,
  no_list,
  some_list,
  next_is,
)
