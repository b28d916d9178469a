-- The text of an entry (document 01, "Example W", and document 02, Q-5 and Q-6): kind, path, the purpose "printed after the path with a
-- colon", then of r, w, a, dG:needed/granted those held, "with * for unlimited"; on an entry and its covering, and on the bytes that stand
-- for them. Bytes of letters and digits are ASCII's.
use Rattle.std.specs.Prelude.{ℕ, zero, suc, ◌+◌, ◌*◌, ◌/◌, ◌%◌, List, [], ◌∷◌, ◌++◌, Bool, true, false, cond, get_or, ltb, eqb}
use Rattle.inference.specs.Lists.{gather}
use Rattle.inference.specs.Counts.{count_number}
use Rattle.inference.specs.Interface.{Entry}
use Rattle.policy.specs.Syntax.{has_bit}
use Rattle.fit.specs.Satisfies.{Verdict, flag, counts}

-- A number of at most `digits` decimal digits.
unfoldable pub decimal_of : ℕ → ℕ → List ℕ
decimal_of zero n = []
decimal_of (suc digits) n = cond (ltb n 10) ((48 + n) ∷ []) (decimal_of digits (n / 10) ++ ((48 + n % 10) ∷ []))

unfoldable pub decimal : ℕ → List ℕ
decimal n = decimal_of 5 n

-- Groups, a dot before each.
unfoldable pub dots : List ℕ → List ℕ
dots [] = []
dots (g ∷ rest) = 46 ∷ (decimal g ++ dots rest)

-- A path, its groups parted by dots.
unfoldable pub path_text : List ℕ → List ℕ
path_text [] = []
path_text (g ∷ rest) = decimal g ++ dots rest

-- A space and a letter.
unfoldable pub flag_text : Bool → ℕ → List ℕ
flag_text true letter = 32 ∷ letter ∷ []
flag_text false letter = []

-- "* for unlimited"; as it is stored, 65,535
unfoldable pub count_text : ℕ → List ℕ
count_text n = cond (eqb n 65535) (42 ∷ []) (decimal n)

-- "dG:needed/granted", after a space
unfoldable pub item_text : ℕ → ℕ → ℕ → List ℕ
item_text group needed granted = 32 ∷ 100 ∷ (decimal group ++ (58 ∷ (count_text needed ++ (47 ∷ count_text granted))))

-- An item of an entry's list: a group, and how much is needed and how much is granted to disclose to it, as they are stored.
pub record Item : Type 0 where
  pub group : ℕ
  pub needed : ℕ
  pub granted : ℕ

unfoldable pub text_of : Item → List ℕ
text_of item = item_text item.group item.needed item.granted

unfoldable pub items_text : List Item → List ℕ
items_text items = gather text_of items

-- The kind and the path of an entry, parted by a space, and its purpose, "printed after the path with a colon".
unfoldable pub head_text : ℕ → List ℕ → ℕ → List ℕ
head_text kind path purpose = decimal kind ++ (32 ∷ (path_text path ++ (58 ∷ decimal purpose)))

-- "r, w, a", those held
unfoldable pub flags_text : Bool → Bool → Bool → List ℕ
flags_text read write access = flag_text read 114 ++ (flag_text write 119 ++ flag_text access 97)

-- The line of an entry: kind, path:purpose, then of r, w, a, dG:needed/granted those held, ended by a newline.
unfoldable pub line_text : ℕ → List ℕ → ℕ → Bool → Bool → Bool → List Item → List ℕ
line_text kind path purpose read write access items =
    head_text kind path purpose ++ (flags_text read write access ++ (items_text items ++ (10 ∷ [])))

-- What is printed of a verdict: a flag's own letter stands or not by what the entry needs, so nothing.
unfoldable pub verdict_text : Verdict → List ℕ
verdict_text (flag p granted) = []
verdict_text (counts h needed granted) = item_text h (count_number needed) (count_number granted)

-- The line of an entry and its covering.
unfoldable pub line_of : Entry → List Verdict → List ℕ
line_of e verdicts =
    head_text e.kind e.component.path e.component.purpose
    ++ (flags_text e.read e.write e.access ++ (gather verdict_text verdicts ++ (10 ∷ [])))

-- The number that stands at a place in two bytes, the low byte first.
unfoldable pub number_at : List ℕ → ℕ → ℕ
number_at s at = get_or s at 0 + 256 * get_or s (at + 1) 0

-- The item that stands at a place, and those from it on.
unfoldable pub item_at : List ℕ → ℕ → Item
item_at s at = record { group = get_or s at 0; needed = number_at s (at + 1); granted = number_at s (at + 3) }

unfoldable pub items_at : ℕ → List ℕ → ℕ → List Item
items_at zero s at = []
items_at (suc n) s at = item_at s at ∷ items_at n s (at + 5)

-- The bytes that stand from a place on.
unfoldable pub bytes_at : ℕ → List ℕ → ℕ → List ℕ
bytes_at zero s at = []
bytes_at (suc n) s at = get_or s at 0 ∷ bytes_at n s (at + 1)

-- The length of the path of the entry at a place, "the purpose byte after its path", its map, and the place after its map.
unfoldable pub path_len : List ℕ → ℕ → ℕ
path_len s at = get_or s (at + 1) 0

unfoldable pub purpose_in : List ℕ → ℕ → ℕ
purpose_in s at = get_or s (at + 2 + path_len s at) 0

unfoldable pub map_in : List ℕ → ℕ → ℕ
map_in s at = get_or s (at + 3 + path_len s at) 0

unfoldable pub list_place : List ℕ → ℕ → ℕ
list_place s at = at + 4 + path_len s at

-- How many items a list has, and the place after it: there is none where bit 4 of the map does not stand.
unfoldable pub items_in : Bool → List ℕ → ℕ → ℕ
items_in listed s list = cond listed (get_or s list 0) 0

unfoldable pub end_of : Bool → ℕ → ℕ → ℕ
end_of listed list items = cond listed (list + 1 + 5 * items) list

unfoldable pub item_count : List ℕ → ℕ → ℕ
item_count s at = items_in (has_bit 16 (map_in s at)) s (list_place s at)

-- The line of the entry that is stored with its slack at a place.
unfoldable pub line_at : List ℕ → ℕ → List ℕ
line_at s at =
    line_text (get_or s at 0) (bytes_at (path_len s at) s (at + 2)) (purpose_in s at) (has_bit 1 (map_in s at)) (has_bit 2 (map_in s at)) (has_bit 4 (map_in s at))
    (items_at (item_count s at) s (list_place s at + 1))

-- The place of the entry after it.
unfoldable pub next_at : List ℕ → ℕ → ℕ
next_at s at = end_of (has_bit 16 (map_in s at)) (list_place s at) (item_count s at)

-- The lines of as many entries from a place on, and the place after them.
unfoldable pub lines_in : ℕ → List ℕ → ℕ → List (List ℕ)
lines_in zero s at = []
lines_in (suc n) s at = line_at s at ∷ lines_in n s (next_at s at)

unfoldable pub place_after : ℕ → List ℕ → ℕ → ℕ
place_after zero s at = at
place_after (suc n) s at = place_after n s (next_at s at)
