-- The interface (document 01, "What an act needs"), as entries and as bytes.
use Rattle.std.specs.Prelude.{ℕ, ◌+◌, ◌/◌, ◌%◌, List, [], ◌∷◌, ◌++◌, map, Bool, true, false, cond, not, ◌&&◌, ◌||◌, length, eqb}
use Rattle.reading.specs.Syntax.{Sheet}
use Rattle.inference.specs.Lists.{any, only, gather, rising}
use Rattle.inference.specs.Counts.{Count, fin, ◌⊕◌, is_zero, count_number}
use Rattle.inference.specs.Acts.{Component, Act, acts_of, Located, located}
use Rattle.inference.specs.Classes.{shares}
use Rattle.inference.specs.Needs.{need_of, is_read, is_write, is_access, disclosed}

-- A group disclosed to, and how often.
pub record Disclosure : Type 0 where
  pub group : ℕ
  pub count : Count

-- "An entry: kind, path length, path, then a permission map (bit 0 read, 1 write, 2 access, 3 nondisclose, 4 disclose list),
-- and only if bit 4 stands a list". "Bit 3 is never inferred."
pub record Entry : Type 0 where
  pub component : Component
  pub kind : ℕ
  pub read : Bool
  pub write : Bool
  pub access : Bool
  pub disclose : List Disclosure

-- A permission of an entry.
pub data Permission : Type 0 where
  reading writing accessing : Permission
  disclosing : ℕ → Permission

-- The groups disclosed to, "groups strictly rising".
unfoldable pub disclosures_of : ℕ → List Act → List Disclosure
disclosures_of kind acts =
    only (λ d. not (is_zero d.count)) (map (λ g. record { group = g; count = disclosed kind g acts }) (rising 0 64))

unfoldable pub entry_of : Component → List Act → ℕ → Entry
entry_of c acts kind = record {
  component = c;
  kind = kind;
  read = any (λ a. is_read kind (need_of a)) acts;
  write = any (λ a. is_write kind (need_of a)) acts;
  access = any (λ a. is_access kind (need_of a)) acts;
  disclose = disclosures_of kind acts;
}

unfoldable pub is_empty : {A : Type 0} → List A → Bool
is_empty [] = true
is_empty (x ∷ xs) = false

-- "with at least one permission"
unfoldable pub holds_any : Entry → Bool
holds_any e = (e.read || e.write) || (e.access || not (is_empty e.disclose))

-- "The interface has an entry for each post and kind with at least one permission: by post, then rising kind."
unfoldable pub entries_of : Located → List Entry
entries_of l = only holds_any (map (entry_of l.component (acts_of l)) (rising 0 16))

unfoldable pub interface : Sheet → List Entry
interface sheet = gather entries_of (located sheet)

-- An entry's permissions in the order of its map and list.
unfoldable pub flagged : Bool → Permission → List Permission
flagged true p = p ∷ []
flagged false p = []

unfoldable pub permissions : Entry → List Permission
permissions e =
    flagged e.read reading ++ (flagged e.write writing ++ (flagged e.access accessing
    ++ map (λ d. disclosing d.group) e.disclose))

-- What a sheet requires: its interface.
pub record Required : Type 0 where
  pub entries : List Entry

unfoldable pub required_of : Sheet → Required
required_of sheet = record { entries = interface sheet }

-- The count of a group in a list; 0 where it is absent.
unfoldable pub count_in : ℕ → List Disclosure → Count
count_in h [] = fin 0
count_in h (d ∷ rest) = cond (eqb d.group h) d.count (count_in h rest)

-- How much the components that `among` tells need together to disclose data of a kind into group h, by their entries: "the sum over
-- its posts", "unlimited with any count giving unlimited".
unfoldable pub needed_by : (Component → Bool) → ℕ → ℕ → List Entry → Count
needed_by among kind h [] = fin 0
needed_by among kind h (e ∷ rest) =
    cond (among e.component && eqb e.kind kind) (count_in h e.disclose) (fin 0) ⊕ needed_by among kind h rest

-- How much an entry's component needs with all that share its count to disclose data of the entry's kind into group h (Q-4): "Question 18
-- now compares, for each such path, kind and group, the sum over its posts".
unfoldable pub needed : Required → Entry → ℕ → Count
needed required e h = needed_by (shares e.component) e.kind h required.entries

unfoldable pub bit : Bool → ℕ → ℕ
bit true value = value
bit false value = 0

unfoldable pub map_of : Entry → ℕ
map_of e = bit e.read 1 + (bit e.write 2 + (bit e.access 4 + bit (not (is_empty e.disclose)) 16))

-- "group and two-byte count", the low byte first
unfoldable pub disclosure_bytes : Disclosure → List ℕ
disclosure_bytes d = d.group ∷ count_number d.count % 256 ∷ count_number d.count / 256 % 256 ∷ []

-- "a list: how many (1 to 64), then group and two-byte count", only where there is one
unfoldable pub list_bytes : List Disclosure → List ℕ
list_bytes [] = []
list_bytes (d ∷ ds) = length (d ∷ ds) ∷ gather disclosure_bytes (d ∷ ds)

-- an entry up to its map, and what follows: "An interface entry gains the purpose byte after its path" (Q-6)
abbrev pub head_then : Entry → List ℕ → List ℕ
head_then e rest = e.kind ∷ length e.component.path ∷ (e.component.path ++ (e.component.purpose ∷ map_of e ∷ rest))

unfoldable pub entry_bytes : Entry → List ℕ
entry_bytes e = head_then e (list_bytes e.disclose)

unfoldable pub interface_bytes : List Entry → List ℕ
interface_bytes es = gather entry_bytes es
