-- Worked cases: the lines of document 01's example W with purposes 0; of entries whose sums are unlimited on one side, on both sides and on
-- neither; of one with numbers of two and of five digits; of one with a purpose of two digits; and the lines of an entry and its covering.
use mathlib.Core.Bool.{true, false}
use mathlib.Core.List.{List, [], ◌∷◌}
use mathlib.Core.Path.{◌≡◌, refl}
use Prim.Native.Nat.{ℕ}
use Rattle.inference.specs.Lists.{gather}
use Rattle.inference.specs.Counts.{fin, unlimited, count_number}
use Rattle.inference.specs.Interface.{Entry, reading}
use Rattle.policy.specs.Syntax.{has_bit}
use Rattle.fit.specs.Satisfies.{flag, counts}
use Rattle.listing.specs.Text.{
  decimal_of,
  decimal,
  dots,
  path_text,
  flag_text,
  count_text,
  item_text,
  text_of,
  items_text,
  head_text,
  flags_text,
  line_text,
  verdict_text,
  line_of,
  number_at,
  item_at,
  items_at,
  bytes_at,
  path_len,
  purpose_in,
  map_in,
  list_place,
  items_in,
  end_of,
  item_count,
  line_at,
  next_at,
  lines_in,
  place_after,
}

-- Two entries.
abbrev example_w : List ℕ
example_w = 0 ∷ 2 ∷ 0 ∷ 1 ∷ 0 ∷ 16 ∷ 1 ∷ 0 ∷ 1 ∷ 0 ∷ 1 ∷ 0 ∷ 0 ∷ 2 ∷ 0 ∷ 2 ∷ 0 ∷ 5 ∷ []

-- Group 1 within group 0, with a purpose: reads, and discloses to group 0.
abbrev entry : ℕ → Entry
entry purpose = record {
  component = record { number = 0; path = 0 ∷ 1 ∷ []; purpose = purpose };
  kind = 0;
  read = true;
  write = false;
  access = false;
  disclose = record { group = 0; count = fin 1 } ∷ [];
}

pub record Lines : Type 0 where
  -- "0 0.1:0 d0:1/1" and "0 0.2:0 r a"
  pub of_w : lines_in 2 example_w 0
      ≡ (48 ∷ 32 ∷ 48 ∷ 46 ∷ 49 ∷ 58 ∷ 48 ∷ 32 ∷ 100 ∷ 48 ∷ 58 ∷ 49 ∷ 47 ∷ 49 ∷ 10 ∷ [])
      ∷ (48 ∷ 32 ∷ 48 ∷ 46 ∷ 50 ∷ 58 ∷ 48 ∷ 32 ∷ 114 ∷ 32 ∷ 97 ∷ 10 ∷ []) ∷ []
  pub end_of_w : place_after 2 example_w 0 ≡ 18
  -- "0 0.1:0 d0:1/*"
  pub granted_freely : line_at (0 ∷ 2 ∷ 0 ∷ 1 ∷ 0 ∷ 16 ∷ 1 ∷ 0 ∷ 1 ∷ 0 ∷ 255 ∷ 255 ∷ []) 0
      ≡ 48 ∷ 32 ∷ 48 ∷ 46 ∷ 49 ∷ 58 ∷ 48 ∷ 32 ∷ 100 ∷ 48 ∷ 58 ∷ 49 ∷ 47 ∷ 42 ∷ 10 ∷ []
  -- "0 0.1:0 d0:*/* d1:1/8190"
  pub two_groups : line_at (0 ∷ 2 ∷ 0 ∷ 1 ∷ 0 ∷ 16 ∷ 2 ∷ 0 ∷ 255 ∷ 255 ∷ 255 ∷ 255 ∷ 1 ∷ 1 ∷ 0 ∷ 254 ∷ 31 ∷ []) 0
      ≡ 48 ∷ 32 ∷ 48 ∷ 46 ∷ 49 ∷ 58 ∷ 48 ∷ 32 ∷ 100 ∷ 48 ∷ 58 ∷ 42 ∷ 47 ∷ 42 ∷ 32 ∷ 100 ∷ 49 ∷ 58 ∷ 49 ∷ 47 ∷ 56 ∷ 49 ∷ 57 ∷ 48 ∷ 10 ∷ []
  -- "15 63:0 w d12:12345/65534"
  pub long_numbers : line_at (15 ∷ 1 ∷ 63 ∷ 0 ∷ 18 ∷ 1 ∷ 12 ∷ 57 ∷ 48 ∷ 254 ∷ 255 ∷ []) 0
      ≡ 49 ∷ 53 ∷ 32 ∷ 54 ∷ 51 ∷ 58 ∷ 48 ∷ 32 ∷ 119 ∷ 32 ∷ 100 ∷ 49 ∷ 50 ∷ 58 ∷ 49 ∷ 50 ∷ 51 ∷ 52 ∷ 53 ∷ 47 ∷ 54 ∷ 53 ∷ 53 ∷ 51 ∷ 52 ∷ 10 ∷ []
  -- "0 0.1:15 r w"
  pub long_purpose : line_at (0 ∷ 2 ∷ 0 ∷ 1 ∷ 15 ∷ 3 ∷ []) 0
      ≡ 48 ∷ 32 ∷ 48 ∷ 46 ∷ 49 ∷ 58 ∷ 49 ∷ 53 ∷ 32 ∷ 114 ∷ 32 ∷ 119 ∷ 10 ∷ []
  -- "0 0.1:0 r d0:3/*"
  pub of_an_entry : line_of (entry 0) (flag reading true ∷ counts 0 (fin 3) unlimited ∷ [])
      ≡ 48 ∷ 32 ∷ 48 ∷ 46 ∷ 49 ∷ 58 ∷ 48 ∷ 32 ∷ 114 ∷ 32 ∷ 100 ∷ 48 ∷ 58 ∷ 51 ∷ 47 ∷ 42 ∷ 10 ∷ []
  -- "0 0.1:15 r d0:3/*"
  pub of_a_purpose : line_of (entry 15) (flag reading true ∷ counts 0 (fin 3) unlimited ∷ [])
      ≡ 48 ∷ 32 ∷ 48 ∷ 46 ∷ 49 ∷ 58 ∷ 49 ∷ 53 ∷ 32 ∷ 114 ∷ 32 ∷ 100 ∷ 48 ∷ 58 ∷ 51 ∷ 47 ∷ 42 ∷ 10 ∷ []

pub lines : Lines
unfolding decimal_of decimal dots path_text flag_text count_text item_text text_of items_text head_text has_bit flags_text line_text verdict_text line_of number_at item_at items_at bytes_at path_len purpose_in map_in list_place items_in end_of item_count line_at next_at lines_in place_after gather count_number
lines = record {
  of_w = refl;
  end_of_w = refl;
  granted_freely = refl;
  two_groups = refl;
  long_numbers = refl;
  long_purpose = refl;
  of_an_entry = refl;
  of_a_purpose = refl;
}
