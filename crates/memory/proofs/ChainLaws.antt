-- Chains of cells: how many names they have, which writes they do not see, and what a binder adds.
use Prim.Native.Nat.{ℕ, zero, suc, ◌+◌, ◌*◌, ◌/◌, ◌%◌, ◌<◌, ◌≤◌}
use mathlib.Core.Bool.{Bool, true, false, cond}
use mathlib.Core.List.{List, [], ◌∷◌, ◌++◌}
use mathlib.Core.Path.{◌≡◌, refl, sym, ap, ◌∙◌}
use native.Mathlib.Nat.{mod-eq_of_lt, mod-lt}
use native.Mathlib.Numerals.{add-one}
use native.Mathlib.Omega.{arith}
use borrow.Author.Tests.{ltb-true, lt-ltb}
use lib.Dec.{ltb, lit<}
use lib.ListN.{length, get_or, take, length-append, length-set}
use lib.Seq.{get_or-take, get_or-set_same, take-set-le}
use Rattle.memory.proofs.ThreadLaws.{digit_last, digits_before}
use Rattle.memory.specs.Chains.{bound, parent_of, name_of, chain}

pub chain_length : (cells : List ℕ) (n cell : ℕ) → length (chain cells n cell) ≡ n
unfolding chain
chain_length cells zero cell = refl
chain_length cells (suc n) cell =
    let parent = parent_of cells cell in
    omega (arith, length-append (chain cells n parent) (name_of cells cell ∷ []), chain_length cells n parent)

-- The cell before stands before, or is the first.
pub parent_below : (cells : List ℕ) (cell top : ℕ) → cell < top → parent_of cells cell < top
unfolding parent_of
parent_below cells cell top h = go (ltb before cell) refl
  where
    before : ℕ
    before = get_or cells cell 0 / 65536

    go : (b : Bool) → ltb before cell ≡ b → cond b before 0 < top
    go true e = omega (arith, ltb-true before cell e)
    go false e = omega arith

cell_kept : (cells cells' : List ℕ) (top cell : ℕ) → take top cells ≡ take top cells' → cell < top → get_or cells cell 0 ≡ get_or cells' cell 0
cell_kept cells cells' top cell e h =
    sym (get_or-take top cells cell 0 h) ∙ (ap (λ (l : List ℕ). get_or l cell 0) e ∙ get_or-take top cells' cell 0 h)

parent_kept : (cells cells' : List ℕ) (cell : ℕ) → get_or cells cell 0 ≡ get_or cells' cell 0 → parent_of cells cell ≡ parent_of cells' cell
unfolding parent_of
parent_kept cells cells' cell e = rw e

name_kept : (cells cells' : List ℕ) (cell : ℕ) → get_or cells cell 0 ≡ get_or cells' cell 0 → name_of cells cell ≡ name_of cells' cell
unfolding name_of
name_kept cells cells' cell e = rw e

-- A chain is that of the cells below any bound on its own cell.
pub chain_kept : (cells cells' : List ℕ) (top n cell : ℕ) → take top cells ≡ take top cells' → cell < top
    → chain cells n cell ≡ chain cells' n cell
unfolding chain
chain_kept cells cells' top zero cell e h = refl
chain_kept cells cells' top (suc n) cell e h =
    let same = cell_kept cells cells' top cell e h in
    rw (
      name_kept cells cells' cell same,
      parent_kept cells cells' cell same,
      chain_kept cells cells' top n (parent_of cells' cell) e (parent_below cells' cell top h),
    )

pub bound_kept : (cells : List ℕ) (top cell env name : ℕ) → top ≤ cell → take top (bound cells cell env name) ≡ take top cells
unfolding bound
bound_kept cells top cell env name h = take-set-le top cells cell (env % 65536 * 65536 + name % 65536) h

pub bound_length : (cells : List ℕ) (cell env name : ℕ) → length (bound cells cell env name) ≡ length cells
unfolding bound
bound_length cells cell env name = length-set cells cell (env % 65536 * 65536 + name % 65536)

-- What stands in a cell that was bound.
module _ (cells : List ℕ) (cell env name : ℕ) (h : env < cell) (k : cell < length cells) (i : cell < 65536) (j : name < 65536) where
  bound_cell : get_or (bound cells cell env name) cell 0 ≡ env * 65536 + name
  unfolding bound
  bound_cell =
      let small : env < 65536 = omega arith in
      rw (get_or-set_same cells cell (env % 65536 * 65536 + name % 65536) 0 k, mod-eq_of_lt small, mod-eq_of_lt j)

  bound_parent : parent_of (bound cells cell env name) cell ≡ env
  unfolding parent_of
  bound_parent = rw (bound_cell, digits_before env name 65536 j, lt-ltb env cell h)

  bound_name : name_of (bound cells cell env name) cell ≡ name
  unfolding name_of
  bound_name = rw (bound_cell, digit_last env name 65536 j)

-- A binder adds its name at the end.
pub chain_bound : (cells : List ℕ) (n cell env name : ℕ) → env < cell → cell < length cells → cell < 65536 → name < 65536
    → chain (bound cells cell env name) (n + 1) cell ≡ chain cells n env ++ (name ∷ [])
unfolding chain
chain_bound cells n cell env name h k i j =
    rw (
      add-one n,
      bound_parent cells cell env name h k i j,
      bound_name cells cell env name h k i j,
      chain_kept (bound cells cell env name) cells cell n env (bound_kept cells cell cell env name (omega arith)) h,
    )

one_more_small : (xs : List ℕ) (y d b : ℕ) → ((i : ℕ) → get_or xs i d < b) → y < b → (i : ℕ) → get_or (xs ++ (y ∷ [])) i d < b
one_more_small [] y d b h k zero = k
one_more_small [] y d b h k (suc i) = h i
one_more_small (x ∷ xs) y d b h k zero = h zero
one_more_small (x ∷ xs) y d b h k (suc i) = one_more_small xs y d b (λ j. h (suc j)) k i

pub chain_small : (cells : List ℕ) (n cell level : ℕ) → get_or (chain cells n cell) level 65535 < 65536
unfolding chain
chain_small cells zero cell level = lit< tt
chain_small cells (suc n) cell level =
    let parent = parent_of cells cell in
    one_more_small (chain cells n parent) (name_of cells cell) 65535 65536 (λ i. chain_small cells n parent i)
    (unfold name_of in mod-lt (get_or cells cell 0) (lit< tt)) level
