-- The search for a name up a chain: the name at a level of the chain that is left is that of the whole chain.
use Prim.Native.Nat.{ℕ, zero, suc, ◌+◌, ◌-◌, ◌%◌, ◌<◌, ◌≤◌}
use mathlib.Core.List.{List, [], ◌∷◌}
use mathlib.Core.Path.{◌≡◌, refl, sym, ◌∙◌}
use native.Mathlib.Omega.{arith}
use borrow.Author.Rules.{rules}
use lib.ListN.{get_or, get_or-eq_default, get_or-append}
use lib.Seq.{get_or_at}
use Rattle.memory.proofs.ChainLaws.{chain_length}
use Rattle.memory.specs.Chains.{parent_of, name_of, chain}

pub no_level : (cells : List ℕ) (names env level : ℕ) → names ≤ level → 65535 ≡ get_or (chain cells names env) level 65535
no_level cells names env level h = sym (get_or-eq_default (chain cells names env) 65535 (omega (arith, chain_length cells names env)))

-- Below the last level a chain is that of the cell before.
chain_below : (cells : List ℕ) (n cell level : ℕ) → level + 1 < n
    → get_or (chain cells n cell) level 65535 ≡ get_or (chain cells (n - 1) (parent_of cells cell)) level 65535
unfolding chain
chain_below cells zero cell level h = absurd (omega arith)
chain_below cells (suc n) cell level h =
    let parent = parent_of cells cell in
    let e : suc n - 1 ≡ n = omega arith in
    rw e (get_or-append (chain cells n parent) (name_of cells cell ∷ []) 65535 level (omega (arith, chain_length cells n parent)))

chain_last : (cells : List ℕ) (cell level : ℕ) → get_or (chain cells (suc level) cell) level 65535 ≡ name_of cells cell
unfolding chain
chain_last cells cell level =
    let parent = parent_of cells cell in
    get_or_at (chain cells level parent) (name_of cells cell) [] 65535 level (chain_length cells level parent)

-- The loop: after `passed` cells `names - passed` are left, and the last is `cell`.
pub record Sought (cells : List ℕ) (names env level passed cell : ℕ) : Type 0 where
  pub same : get_or (chain cells names env) level 65535 ≡ get_or (chain cells (names - passed) cell) level 65535

pub search_begins : (cells : List ℕ) (names env level : ℕ) → Sought cells names env level 0 env
search_begins cells names env level = let e : names - 0 ≡ names = omega arith in record { same = rw e refl }

pub search_goes_on : (cells : List ℕ) (names env level passed cell parent : ℕ) → Sought cells names env level passed cell
    → level < names → passed < names - level - 1 → parent ≡ parent_of cells cell → Sought cells names env level (passed + 1) parent
search_goes_on cells names env level passed cell parent t h k e =
    let n : names - (passed + 1) ≡ names - passed - 1 = omega arith in
    record { same = rw (e, n) (t.same ∙ chain_below cells (names - passed) cell level (omega arith)) }

pub search_ends : (cells : List ℕ) (names env level passed cell w : ℕ) → Sought cells names env level passed cell
    → level < names → passed ≡ names - level - 1 → w ≡ get_or cells cell 0 → w % 65536 ≡ get_or (chain cells names env) level 65535
unfolding name_of
search_ends cells names env level passed cell w t h k e =
    let n : names - passed ≡ suc level = omega arith in
    rw (t.same, n, chain_last cells cell level, e)

pub ruleset search_steps = (rules, no_level, search_begins, search_goes_on, search_ends)
