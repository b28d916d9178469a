-- What the writing of an interface leaves in the lent output: bytes stored one after another.
use Rattle.std.specs.Prelude.{ℕ, ◌+◌, ◌%◌, ◌≡◌, List, [], ◌∷◌, cond, length, set}
use Rattle.inference.specs.Interface.{holds_any, disclosure_bytes, entry_bytes}
use Rattle.inference.specs.Rows.{is_set, cell, count_of, entry_at}

unfoldable pub store_bytes : List ℕ → ℕ → List ℕ → List ℕ
store_bytes out at [] = out
store_bytes out at (x ∷ xs) = store_bytes (set out at (x % 256)) (at + 1) xs

-- Bytes stored from a place on, and the place after them.
pub record Stored (out out' : List ℕ) (at : ℕ) (bytes : List ℕ) (r : ℕ) : Type 0 where
  pub next : r ≡ at + length bytes
  pub left : out' ≡ store_bytes out at bytes

-- The bytes of a group and a count of disclosures to it, none where the count is 0.
unfoldable pub group_bytes : ℕ → ℕ → List ℕ
group_bytes group count = cond (is_set count) (disclosure_bytes (record { group = group; count = count_of count })) []

-- The bytes of the entry of a component and a kind that a table holds, none where the kind is not marked or there is no permission.
unfoldable pub entry_bytes_at : List ℕ → ℕ → ℕ → List ℕ
entry_bytes_at table component kind =
    cond (is_set (cell table component kind 11))
    (cond (holds_any (entry_at table component kind)) (entry_bytes (entry_at table component kind)) []) []
