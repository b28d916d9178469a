-- A node that is stored in a row of the table: the rows before it are kept, and the row holds the node.
use Prim.Native.Nat.{ℕ, zero, suc, ◌+◌, ◌*◌, ◌%◌, ◌<◌, ◌≤◌}
use mathlib.Core.List.{List, [], ◌∷◌, ◌++◌}
use mathlib.Core.Path.{◌≡◌, refl, ap, ◌∙◌}
use native.Mathlib.Nat.{mod-eq_of_lt, zero-add, add-zero, suc-add, add-suc}
use native.Mathlib.Omega.{arith}
use lib.ListN.{length, get_or, set, length-set}
use lib.Seq.{get_or-set_same, get_or-set_other}
use Rattle.inference.specs.Lists.{rising}
use Rattle.policy.specs.Rows.{node_at, with_node, Flat, flat_of, flats}
use Rattle.policy.specs.Loads.{NodeFits}
use Rattle.policy.specs.declared.Node.{Node}

-- Rows, and rows after them.
pub flats_append : (c nodes : List ℕ) (start n m : ℕ) → flats c nodes start (n + m) ≡ flats c nodes start n ++ flats c nodes (start + n) m
unfolding flats rising
flats_append c nodes start zero m = rw (zero-add m, add-zero start)
flats_append c nodes start (suc n) m =
    rw (suc-add n m, add-suc start n, ← suc-add start n) (ap (λ (l : List Flat). flat_of c (node_at nodes start) ∷ l) (flats_append c nodes (suc start) n m))

one_row : (c nodes : List ℕ) (row : ℕ) → flats c nodes row 1 ≡ flat_of c (node_at nodes row) ∷ []
unfolding flats rising
one_row c nodes row = refl

-- What is within its range is read back from a cell of two bytes.
in_its_cell : {v m : ℕ} → v < m → m ≤ 65536 → v % 65536 % m ≡ v
in_its_cell {v} {m} h k = let z : v < 65536 = omega arith in rw (mod-eq_of_lt z) (mod-eq_of_lt h)

module _ (l : List ℕ) (row : ℕ) (n : Node) where
  -- The table after each store but the last.
  abbrev one : List ℕ
  one = set l (row * 6) (n.group % 65536)

  abbrev two : List ℕ
  two = set one (row * 6 + 1) (n.permissions.map % 65536)

  abbrev three : List ℕ
  three = set two (row * 6 + 2) (n.permissions.list % 65536)

  abbrev four : List ℕ
  four = set three (row * 6 + 3) (n.permissions.count % 65536)

  abbrev five : List ℕ
  five = set four (row * 6 + 4) (n.depth % 65536)

  -- A cell before the row.
  cell_kept : (i : ℕ) → i < row * 6 → get_or (with_node l row n) i 0 ≡ get_or l i 0
  unfolding with_node
  cell_kept i h =
      get_or-set_other five (row * 6 + 5) i (n.permissions.purposes % 65536) 0 (λ e. absurd (omega arith))
      ∙ get_or-set_other four (row * 6 + 4) i (n.depth % 65536) 0 (λ e. absurd (omega arith))
      ∙ get_or-set_other three (row * 6 + 3) i (n.permissions.count % 65536) 0 (λ e. absurd (omega arith))
      ∙ get_or-set_other two (row * 6 + 2) i (n.permissions.list % 65536) 0 (λ e. absurd (omega arith))
      ∙ get_or-set_other one (row * 6 + 1) i (n.permissions.map % 65536) 0 (λ e. absurd (omega arith))
      ∙ get_or-set_other l (row * 6) i (n.group % 65536) 0 (λ e. absurd (omega arith))

  row_kept : (r : ℕ) → r < row → node_at (with_node l row n) r ≡ node_at l r
  unfolding node_at
  row_kept r h = rw (
    cell_kept (r * 6) (omega arith),
    cell_kept (r * 6 + 1) (omega arith),
    cell_kept (r * 6 + 2) (omega arith),
    cell_kept (r * 6 + 3) (omega arith),
    cell_kept (r * 6 + 4) (omega arith),
    cell_kept (r * 6 + 5) (omega arith),
  )

  flats_kept : (c : List ℕ) (start len : ℕ) → start + len ≤ row → flats c (with_node l row n) start len ≡ flats c l start len
  unfolding flats rising
  flats_kept c start zero h = refl
  flats_kept c start (suc len) h = rw (row_kept start (omega arith), flats_kept c (suc start) len (omega arith))

  -- The row's own cells.
  module _ (long : length l ≡ 384) (low : row < 64) where
    own_0 : get_or (with_node l row n) (row * 6) 0 ≡ n.group % 65536
    unfolding with_node
    own_0 =
        get_or-set_other five (row * 6 + 5) (row * 6) (n.permissions.purposes % 65536) 0 (λ e. absurd (omega arith))
        ∙ get_or-set_other four (row * 6 + 4) (row * 6) (n.depth % 65536) 0 (λ e. absurd (omega arith))
        ∙ get_or-set_other three (row * 6 + 3) (row * 6) (n.permissions.count % 65536) 0 (λ e. absurd (omega arith))
        ∙ get_or-set_other two (row * 6 + 2) (row * 6) (n.permissions.list % 65536) 0 (λ e. absurd (omega arith))
        ∙ get_or-set_other one (row * 6 + 1) (row * 6) (n.permissions.map % 65536) 0 (λ e. absurd (omega arith))
        ∙ get_or-set_same l (row * 6) (n.group % 65536) 0 (omega arith)

    own_1 : get_or (with_node l row n) (row * 6 + 1) 0 ≡ n.permissions.map % 65536
    unfolding with_node
    own_1 =
        get_or-set_other five (row * 6 + 5) (row * 6 + 1) (n.permissions.purposes % 65536) 0 (λ e. absurd (omega arith))
        ∙ get_or-set_other four (row * 6 + 4) (row * 6 + 1) (n.depth % 65536) 0 (λ e. absurd (omega arith))
        ∙ get_or-set_other three (row * 6 + 3) (row * 6 + 1) (n.permissions.count % 65536) 0 (λ e. absurd (omega arith))
        ∙ get_or-set_other two (row * 6 + 2) (row * 6 + 1) (n.permissions.list % 65536) 0 (λ e. absurd (omega arith))
        ∙ get_or-set_same one (row * 6 + 1) (n.permissions.map % 65536) 0 (simp length-set (omega arith))

    own_2 : get_or (with_node l row n) (row * 6 + 2) 0 ≡ n.permissions.list % 65536
    unfolding with_node
    own_2 =
        get_or-set_other five (row * 6 + 5) (row * 6 + 2) (n.permissions.purposes % 65536) 0 (λ e. absurd (omega arith))
        ∙ get_or-set_other four (row * 6 + 4) (row * 6 + 2) (n.depth % 65536) 0 (λ e. absurd (omega arith))
        ∙ get_or-set_other three (row * 6 + 3) (row * 6 + 2) (n.permissions.count % 65536) 0 (λ e. absurd (omega arith))
        ∙ get_or-set_same two (row * 6 + 2) (n.permissions.list % 65536) 0 (simp length-set (omega arith))

    own_3 : get_or (with_node l row n) (row * 6 + 3) 0 ≡ n.permissions.count % 65536
    unfolding with_node
    own_3 =
        get_or-set_other five (row * 6 + 5) (row * 6 + 3) (n.permissions.purposes % 65536) 0 (λ e. absurd (omega arith))
        ∙ get_or-set_other four (row * 6 + 4) (row * 6 + 3) (n.depth % 65536) 0 (λ e. absurd (omega arith))
        ∙ get_or-set_same three (row * 6 + 3) (n.permissions.count % 65536) 0 (simp length-set (omega arith))

    own_4 : get_or (with_node l row n) (row * 6 + 4) 0 ≡ n.depth % 65536
    unfolding with_node
    own_4 =
        get_or-set_other five (row * 6 + 5) (row * 6 + 4) (n.permissions.purposes % 65536) 0 (λ e. absurd (omega arith))
        ∙ get_or-set_same four (row * 6 + 4) (n.depth % 65536) 0 (simp length-set (omega arith))

    own_5 : get_or (with_node l row n) (row * 6 + 5) 0 ≡ n.permissions.purposes % 65536
    unfolding with_node
    own_5 = get_or-set_same five (row * 6 + 5) (n.permissions.purposes % 65536) 0 (simp length-set (omega arith))

    row_stored : NodeFits n → node_at (with_node l row n) row ≡ n
    unfolding node_at
    row_stored f = rw (
      own_0,
      own_1,
      own_2,
      own_3,
      own_4,
      own_5,
      in_its_cell f.small_group (omega arith),
      in_its_cell f.small_permissions.small_map (omega arith),
      in_its_cell f.small_permissions.small_list (omega arith),
      in_its_cell f.small_permissions.small_count (omega arith),
      in_its_cell f.small_permissions.small_purposes (omega arith),
      in_its_cell f.small_depth (omega arith),
    )

    pub stored_rows : (c : List ℕ) → NodeFits n → flats c (with_node l row n) 0 (row + 1) ≡ flats c l 0 row ++ (flat_of c n ∷ [])
    stored_rows c f =
        flats_append c (with_node l row n) 0 row 1
        ∙ rw (flats_kept c 0 row (omega arith), zero-add row, one_row c (with_node l row n) row, row_stored f)
