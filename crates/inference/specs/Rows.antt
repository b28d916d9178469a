-- The table of what components need: rows of 211 cells (src/table.rt). Its cells are the counts that acts need together
-- (`charged_count` of the crate interface's proofs/CellLaws.antt).
use Rattle.std.specs.Prelude.{ℕ, zero, suc, ◌+◌, ◌*◌, ◌%◌, ◌<◌, min, ◌≡◌, List, [], ◌∷◌, map, Bool, true, false, cond, not, ◌&&◌, length, get_or, set, take, drop, ltb, eqb, Option, Some, None}
use Rattle.needs.specs.declared.Need.{Need}
use Rattle.needs.specs.declared.Need.TheVariants.{Nothing, Read, Write, Access, Disclose}
use Rattle.reading.specs.Forms.{member}
use Rattle.inference.specs.Lists.{every, only, gather, rising}
use Rattle.inference.specs.Counts.{Count, fin, unlimited, is_zero}
use Rattle.inference.specs.Acts.{Component}
use Rattle.inference.specs.Interface.{Disclosure, Entry, holds_any, Required}

-- one more, or unlimited under a repeat
unfoldable pub bumped : ℕ → Bool → ℕ
bumped count true = 65535
bumped count false = cond (ltb count 65534) (count + 1) count

unfoldable pub charge_at : List ℕ → ℕ → Bool → List ℕ
charge_at table at repeated = set table at (bumped (get_or table at 0) repeated)

unfoldable pub cell_of : ℕ → ℕ → ℕ → ℕ
cell_of component kind column = component * 211 + (18 + (kind * 12 + column))

unfoldable pub charge_cell : List ℕ → ℕ → ℕ → ℕ → Bool → List ℕ
charge_cell table component kind column repeated =
    cond (ltb kind 16 && ltb column 11) (charge_at table (cell_of component kind column) repeated) table

-- a kind that is marked as one that the component needs something of
unfoldable pub marked : List ℕ → ℕ → ℕ → List ℕ
marked table component kind = cond (ltb kind 16) (set table (cell_of component kind 11) 1) table

unfoldable pub charge_column : List ℕ → ℕ → ℕ → ℕ → Bool → List ℕ
charge_column table component kind column repeated = charge_cell (marked table component kind) component kind column repeated

-- the groups of a component's path, rising: how many, and each
unfoldable pub group_count : List ℕ → ℕ → ℕ
group_count table component = min (get_or table (component * 211 + 9) 0) 8

unfoldable pub group_at : List ℕ → ℕ → ℕ → ℕ
group_at table component place = get_or table (component * 211 + (10 + place)) 0

unfoldable pub row_groups : List ℕ → ℕ → List ℕ
row_groups table component = map (group_at table component) (rising 0 (group_count table component))

-- the place of a group among so many from a place on, or 11, which is no count's column
unfoldable pub place_from : List ℕ → ℕ → ℕ → ℕ → ℕ → ℕ
place_from table component group place zero = 11
place_from table component group place (suc left) =
    cond (eqb (group_at table component place) group) place (place_from table component group (suc place) left)

-- the same where it is one of them
unfoldable pub found_place : ℕ → Option ℕ
found_place place = cond (ltb place 11) (Some place) None

-- what an act needs, counted in its component's row
unfoldable pub charge : List ℕ → ℕ → Need → Bool → List ℕ
charge table component Nothing repeated = table
charge table component (Read kind) repeated = charge_column table component kind 8 repeated
charge table component (Write kind) repeated = charge_column table component kind 9 repeated
charge table component (Access kind) repeated = charge_column table component kind 10 repeated
charge table component (Disclose kind group) repeated =
    charge_column table component kind (place_from table component group 0 (group_count table component)) repeated

-- the same by the kind and the column of a need; there is no kind 16 (`by_need` of proofs/RowSteps.antt)
unfoldable pub kind_of : Need → ℕ
kind_of Nothing = 16
kind_of (Read kind) = kind
kind_of (Write kind) = kind
kind_of (Access kind) = kind
kind_of (Disclose kind group) = kind

unfoldable pub column_of : List ℕ → ℕ → Need → ℕ
column_of table component Nothing = 11
column_of table component (Read kind) = 8
column_of table component (Write kind) = 9
column_of table component (Access kind) = 10
column_of table component (Disclose kind group) = place_from table component group 0 (group_count table component)

-- numbers stored one after another
unfoldable pub stored : List ℕ → ℕ → List ℕ → List ℕ
stored table at [] = table
stored table at (x ∷ xs) = stored (set table at (x % 65536)) (at + 1) xs

-- the groups of a path, rising
unfoldable pub rising_groups : List ℕ → List ℕ
rising_groups path = only (λ g. member g path) (rising 0 64)

-- a group, if it is one from a group on, else 64; and the first such of a path
unfoldable pub candidate : ℕ → ℕ → ℕ
candidate g from = cond (ltb g from) 64 g

unfoldable pub next_group : List ℕ → ℕ → ℕ
next_group [] from = 64
next_group (g ∷ path) from = min (candidate g from) (next_group path from)

-- the same where there is one
unfoldable pub found_group : ℕ → Option ℕ
found_group group = cond (ltb group 64) (Some group) None

-- groups in a component's row, and how many they are
unfoldable pub with_groups : List ℕ → ℕ → List ℕ → List ℕ
with_groups table component groups =
    set (stored table (component * 211 + 10) groups) (component * 211 + 9) (length groups % 65536)

-- a path in its component's row: its length, its groups, and its groups rising
unfoldable pub with_path : List ℕ → ℕ → List ℕ → List ℕ
with_path table component path = with_groups (stored table (component * 211) (length path ∷ path)) component (rising_groups path)

-- a purpose in its component's row, in the last cell
unfoldable pub with_purpose : List ℕ → ℕ → ℕ → List ℕ
with_purpose table component purpose = set table (component * 211 + 210) (purpose % 65536)

-- a component in its row
abbrev pub with_component : List ℕ → Component → List ℕ
with_component table c = with_path (with_purpose table c.number c.purpose) c.number c.path

unfoldable pub purpose_at : List ℕ → ℕ → ℕ
purpose_at table component = get_or table (component * 211 + 210) 0

unfoldable pub path_at : List ℕ → ℕ → List ℕ
path_at table component = take (get_or table (component * 211) 0) (take 8 (drop (component * 211 + 1) table))

unfoldable pub cell : List ℕ → ℕ → ℕ → ℕ → ℕ
cell table component kind column = get_or table (cell_of component kind column) 0

-- A row in order: its groups are groups, rise, and are those of its path, which are groups; its purpose is one of sixteen; its counts are
-- below 65,536, and a kind that is not marked has none.
pub record Orderly (table : List ℕ) (component : ℕ) : Type 0 where
  pub low : (i : ℕ) → i < group_count table component → group_at table component i < 64
  pub rises : (i j : ℕ) → i < j → j < group_count table component → group_at table component i < group_at table component j
  pub groups : row_groups table component ≡ rising_groups (path_at table component)
  pub path_low : every (λ g. ltb g 64) (path_at table component) ≡ true
  pub purpose_low : purpose_at table component < 16
  pub counts : (kind place : ℕ) → kind < 16 → place < 8 → cell table component kind place < 65536
  pub unmarked : (kind place : ℕ) → kind < 16 → place < 8 → cell table component kind 11 ≡ 0 → cell table component kind place ≡ 0

-- a cell as a count: 65,535 is unlimited
unfoldable pub count_of : ℕ → Count
count_of n = cond (eqb n 65535) unlimited (fin n)

unfoldable pub is_set : ℕ → Bool
is_set n = not (eqb n 0)

unfoldable pub disclosures_at : List ℕ → ℕ → ℕ → List Disclosure
disclosures_at table component kind =
    only (λ d. not (is_zero d.count))
    (map (λ i. record { group = group_at table component i; count = count_of (cell table component kind i) }) (rising 0 (group_count table component)))

-- the entry of a component and a kind that a table holds
unfoldable pub entry_at : List ℕ → ℕ → ℕ → Entry
entry_at table component kind = record {
  component = record { number = component; path = path_at table component; purpose = purpose_at table component };
  kind = kind;
  read = is_set (cell table component kind 8);
  write = is_set (cell table component kind 9);
  access = is_set (cell table component kind 10);
  disclose = disclosures_at table component kind;
}

-- the kinds that are marked in a component's row
unfoldable pub used_kinds : List ℕ → ℕ → List ℕ
used_kinds table component = only (λ k. is_set (cell table component k 11)) (rising 0 16)

-- the entries of a component that a table holds
unfoldable pub row_entries : List ℕ → ℕ → List Entry
row_entries table component = only holds_any (map (entry_at table component) (used_kinds table component))

-- the interface that a table of `count` components holds
unfoldable pub table_entries : List ℕ → ℕ → List Entry
table_entries table count = gather (row_entries table) (rising 0 count)

-- the same as what a sheet requires
unfoldable pub table_required : List ℕ → ℕ → Required
table_required table count = record { entries = table_entries table count }
