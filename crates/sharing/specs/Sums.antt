-- The table of sums (src/lib.rt), and the keys that tell classes apart. Its sums are what the classes need (`class_sums` of
-- proofs/SharingLaws.antt).
use Rattle.std.specs.Prelude.{ℕ, zero, suc, ◌+◌, ◌*◌, ◌%◌, ◌<◌, ◌≡◌, List, [], ◌∷◌, Bool, false, cond, ◌||◌, length, get_or, set, ltb, eqb}
use Rattle.inference.specs.Counts.{Count, fin, unlimited}
use Rattle.inference.specs.Interface.{Required, needed}
use Rattle.inference.specs.Rows.{cell, is_set, group_count, group_at, row_groups, purpose_at, entry_at}

-- groups as the digits of a number, each one more than the group: two lists of groups have one number only if they are the same
-- (`key_same` of proofs/KeyLaws.antt)
unfoldable pub key_of : List ℕ → ℕ
key_of [] = 0
key_of (g ∷ rest) = key_of rest * 65 + (g % 64 + 1)

-- the same of a component's groups, with its purpose as the last digit
unfoldable pub row_key : List ℕ → ℕ → ℕ
row_key table component = key_of (row_groups table component) * 16 + purpose_at table component % 16

-- the first place of a key among `left` places from a place on, or the place after them
unfoldable pub first_with : ℕ → List ℕ → ℕ → ℕ → ℕ
first_with key keys at zero = at
first_with key keys at (suc left) = cond (eqb (get_or keys at 0) key) at (first_with key keys (suc at) left)

-- the first component with a key, likewise
unfoldable pub class_from : ℕ → List ℕ → ℕ → ℕ → ℕ
class_from key table at zero = at
class_from key table at (suc left) = cond (eqb (row_key table at) key) at (class_from key table (suc at) left)

-- the first component of a component's class
unfoldable pub class_of : List ℕ → ℕ → ℕ
class_of table component = class_from (row_key table component) table 0 component

-- a count joined to a sum
unfoldable pub added : ℕ → ℕ → ℕ
added sum count = cond (ltb count 65535) (cond (ltb sum 4000000) (sum + count) sum) 4000000

unfoldable pub sum_cell : ℕ → ℕ → ℕ → ℕ
sum_cell class kind place = class * 129 + (1 + (kind * 8 + place))

unfoldable pub add_at : List ℕ → ℕ → ℕ → List ℕ
add_at sums at count = set sums at (added (get_or sums at 0) count % 4294967296)

-- the counts of a component for a kind at `left` places from a place on, joined to the sums of its class
unfoldable pub add_places : List ℕ → ℕ → List ℕ → ℕ → ℕ → ℕ → ℕ → List ℕ
add_places sums class table component kind place zero = sums
add_places sums class table component kind place (suc left) =
    add_places (add_at sums (sum_cell class kind place) (cell table component kind place)) class table component kind (suc place) left

unfoldable pub add_kind : List ℕ → ℕ → List ℕ → ℕ → ℕ → List ℕ
add_kind sums class table component kind =
    cond (is_set (cell table component kind 11)) (add_places sums class table component kind 0 (group_count table component)) sums

-- those for `left` kinds from a kind on
unfoldable pub add_kinds : List ℕ → ℕ → List ℕ → ℕ → ℕ → ℕ → List ℕ
add_kinds sums class table component kind zero = sums
add_kinds sums class table component kind (suc left) = add_kinds (add_kind sums class table component kind) class table component (suc kind) left

unfoldable pub add_row : List ℕ → ℕ → List ℕ → ℕ → List ℕ
add_row sums class table component = add_kinds (set sums (component * 129) (class % 4294967296)) class table component 0 16

-- those of `left` components from one on
unfoldable pub add_rows : List ℕ → List ℕ → ℕ → ℕ → List ℕ
add_rows sums table component zero = sums
add_rows sums table component (suc left) = add_rows (add_row sums (class_of table component) table component) table (suc component) left

-- the sum of a component's class
unfoldable pub sum_at : List ℕ → ℕ → ℕ → ℕ → ℕ
sum_at sums component kind place = get_or sums (sum_cell (get_or sums (component * 129) 0) kind place) 0

-- what a component's class needs, by the sums; where there are none, the component's own count
unfoldable pub needed_at : List ℕ → List ℕ → ℕ → ℕ → ℕ → ℕ
needed_at sums table component kind place =
    cond (eqb (length sums) 0) (added 0 (cell table component kind place)) (sum_at sums component kind place)

-- whether one of `left` components from one on shares with one before it
unfoldable pub any_shared : List ℕ → ℕ → ℕ → Bool
any_shared table component zero = false
any_shared table component (suc left) = ltb (class_of table component) component || any_shared table (suc component) left

-- a sum as a count: from 4,000,000 on it is unlimited
unfoldable pub sum_count : ℕ → Count
sum_count sum = cond (ltb sum 4000000) (fin sum) unlimited

-- Sums that tell, of a component, a kind and each of the component's groups, how much its class needs.
pub record Summed (table sums : List ℕ) (required : Required) (component kind : ℕ) : Type 0 where
  pub holds : (place : ℕ) → place < group_count table component
      → needed required (entry_at table component kind) (group_at table component place) ≡ sum_count (needed_at sums table component kind place)
