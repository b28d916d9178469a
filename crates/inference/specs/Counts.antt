-- Counts (document 01, "What an act needs"): finite or unlimited. "Parallel parts and sequels join these, counts added,
-- unlimited with any count giving unlimited."
use Rattle.std.specs.Prelude.{ℕ, zero, suc, ◌+◌, Bool, true, false, leb}

pub data Count : Type 0 where
  fin : ℕ → Count
  unlimited : Count

infixl 60 ◌⊕◌
-- joined
unfoldable pub ◌⊕◌ : Count → Count → Count
◌⊕◌ (fin m) (fin n) = fin (m + n)
◌⊕◌ (fin m) unlimited = unlimited
◌⊕◌ unlimited (fin n) = unlimited
◌⊕◌ unlimited unlimited = unlimited

-- "each count at most the granted sum or that unlimited": unlimited stands above every finite count
unfoldable pub at_most : Count → Count → Bool
at_most (fin m) (fin n) = leb m n
at_most (fin m) unlimited = true
at_most unlimited (fin n) = false
at_most unlimited unlimited = true

unfoldable pub is_zero : Count → Bool
is_zero (fin zero) = true
is_zero (fin (suc n)) = false
is_zero unlimited = false

-- "Under repeat each count becomes unlimited"; nothing stays nothing.
unfoldable pub repeatedly : ℕ → Count
repeatedly zero = fin 0
repeatedly (suc n) = unlimited

-- "Finite counts are 1 to 4,095; 65,535 is unlimited."
unfoldable pub count_number : Count → ℕ
count_number (fin n) = n
count_number unlimited = 65535
