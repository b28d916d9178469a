-- The sentence for an uncovered permission (document 02, Q-1): "the path's names joined by "/", then the bytes " may not ", then read,
-- write, access or "disclose to ", its space included, and the group's name, then ": " and the kind's name". Bytes are ASCII's.
use Rattle.std.specs.Prelude.{ℕ, ◌<◌, ◌≡◌, List, [], ◌∷◌, ◌++◌, Bool, true, get_or, ltb}
use Rattle.inference.specs.Lists.{gather, every}
use Rattle.inference.specs.Interface.{Permission, reading, writing, accessing, disclosing}
use Rattle.fit.specs.Uncovered.{Uncovered}
use Rattle.naming.specs.Names.{Names}

-- The name of a number in a list of names. (The empty name, past the end, is no group's and no kind's.)
unfoldable pub name_of : List (List ℕ) → ℕ → List ℕ
name_of names n = get_or names n []

-- Names, "/" before each.
unfoldable pub slashed : List (List ℕ) → List ℕ → List ℕ
slashed names path = gather (λ g. 47 ∷ name_of names g) path

-- "the path's names joined by "/""
unfoldable pub path_names : List (List ℕ) → List ℕ → List ℕ
path_names names [] = []
path_names names (g ∷ rest) = name_of names g ++ slashed names rest

-- " may not "
abbrev pub may_not : List ℕ
may_not = 32 ∷ 109 ∷ 97 ∷ 121 ∷ 32 ∷ 110 ∷ 111 ∷ 116 ∷ 32 ∷ []

-- "read", "write", "access", "disclose to "
abbrev pub read_verb : List ℕ
read_verb = 114 ∷ 101 ∷ 97 ∷ 100 ∷ []

abbrev pub write_verb : List ℕ
write_verb = 119 ∷ 114 ∷ 105 ∷ 116 ∷ 101 ∷ []

abbrev pub access_verb : List ℕ
access_verb = 97 ∷ 99 ∷ 99 ∷ 101 ∷ 115 ∷ 115 ∷ []

abbrev pub disclose_verb : List ℕ
disclose_verb = 100 ∷ 105 ∷ 115 ∷ 99 ∷ 108 ∷ 111 ∷ 115 ∷ 101 ∷ 32 ∷ 116 ∷ 111 ∷ 32 ∷ []

-- "read, write, access or "disclose to " and the group's name"
unfoldable pub verb : List (List ℕ) → Permission → List ℕ
verb groups reading = read_verb
verb groups writing = write_verb
verb groups accessing = access_verb
verb groups (disclosing g) = disclose_verb ++ name_of groups g

-- "": " and the kind's name"
unfoldable pub of_kind : List (List ℕ) → ℕ → List ℕ
of_kind kinds k = 58 ∷ 32 ∷ name_of kinds k

unfoldable pub sentence : Names → Uncovered → List ℕ
sentence names u =
    path_names names.groups u.path ++ (may_not ++ (verb names.groups u.permission ++ of_kind names.kinds u.kind))

-- Groups 0 to 63 and kinds 0 to 15.
unfoldable pub group_in_range : Permission → Bool
group_in_range reading = true
group_in_range writing = true
group_in_range accessing = true
group_in_range (disclosing g) = ltb g 64

pub record Numbered (u : Uncovered) : Type 0 where
  pub path : every (λ g. ltb g 64) u.path ≡ true
  pub permission : group_in_range u.permission ≡ true
  pub kind : u.kind < 16
