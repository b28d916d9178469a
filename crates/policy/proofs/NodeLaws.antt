-- Cells of a table and bytes of a policy: past their end 0 is read and nothing is stored, a row is six cells, and what is read
-- from a row is within its range.
use Prim.Native.Nat.{ℕ, ◌+◌, ◌*◌, ◌%◌, ◌<◌}
use mathlib.Core.List.{List}
use mathlib.Core.Path.{◌≡◌}
use lib.ListN.{get_or, set}
use lib.Dec.{lit<}
use native.Mathlib.Nat.{mod-lt}
use Rattle.reading.proofs.Tests.{tests}
use Rattle.reading.proofs.Tables.{unread, unset}
use Rattle.policy.specs.Rows.{node_at, with_node}
use Rattle.policy.specs.declared.Node.{Node}

-- The node of six cells, and the table after six stores.
pub six_cells : (l : List ℕ) (row g m k n d p : ℕ) → g ≡ get_or l (row * 6) 0 → m ≡ get_or l (row * 6 + 1) 0 → k ≡ get_or l (row * 6 + 2) 0
    → n ≡ get_or l (row * 6 + 3) 0 → d ≡ get_or l (row * 6 + 4) 0 → p ≡ get_or l (row * 6 + 5) 0
    → record { group = g % 64; permissions = record { map = m % 64; list = k % 8192; count = n % 128; purposes = p % 65536 }; depth = d % 8 } ≡ node_at l row
unfolding node_at
six_cells l row g m k n d p q r s t u v = rw (q, r, s, t, u, v)

pub six_stores : (l l₁ l₂ l₃ l₄ l₅ l₆ : List ℕ) (row : ℕ) (n : Node) → l₁ ≡ set l (row * 6) (n.group % 65536) → l₂ ≡ set l₁ (row * 6 + 1) (n.permissions.map % 65536)
    → l₃ ≡ set l₂ (row * 6 + 2) (n.permissions.list % 65536) → l₄ ≡ set l₃ (row * 6 + 3) (n.permissions.count % 65536) → l₅ ≡ set l₄ (row * 6 + 4) (n.depth % 65536)
    → l₆ ≡ set l₅ (row * 6 + 5) (n.permissions.purposes % 65536) → l₆ ≡ with_node l row n
unfolding with_node
six_stores l l₁ l₂ l₃ l₄ l₅ l₆ row n p q r s t u = rw (u, t, s, r, q, p)

-- What is read from a row is within its range.
module _ (l : List ℕ) (row : ℕ) (n : Node) (e : n ≡ node_at l row) where
  pub group_small : n.group < 64
  unfolding node_at
  group_small = rw e (mod-lt _ (lit< tt))

  pub map_small : n.permissions.map < 64
  unfolding node_at
  map_small = rw e (mod-lt _ (lit< tt))

  pub list_small : n.permissions.list < 8192
  unfolding node_at
  list_small = rw e (mod-lt _ (lit< tt))

  pub count_small : n.permissions.count < 128
  unfolding node_at
  count_small = rw e (mod-lt _ (lit< tt))

  pub purposes_small : n.permissions.purposes < 65536
  unfolding node_at
  purposes_small = rw e (mod-lt _ (lit< tt))

  pub depth_small : n.depth < 8
  unfolding node_at
  depth_small = rw e (mod-lt _ (lit< tt))

pub ruleset node_steps = (
  tests,
  unread,
  unset,
  six_cells,
  six_stores,
  group_small,
  map_small,
  list_small,
  count_small,
  purposes_small,
  depth_small,
)
