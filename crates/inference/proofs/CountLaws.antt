-- Counts join in any order and grouping, nothing adds nothing, and unlimited takes in every count; a count is at most itself,
-- and what is at most a count is at most what that is at most.
use Prim.Native.Nat.{◌+◌}
use mathlib.Core.Bool.{true, false}
use mathlib.Core.Path.{◌≡◌, refl, ap}
use native.Mathlib.Omega.{arith}
use borrow.Author.Tests.{leb-true, le-leb}
use Rattle.inference.specs.Counts.{Count, fin, unlimited, ◌⊕◌, at_most}

pub join_comm : (a b : Count) → a ⊕ b ≡ b ⊕ a
unfolding ◌⊕◌
join_comm (fin m) (fin n) = ap fin (omega arith)
join_comm (fin m) unlimited = refl
join_comm unlimited (fin n) = refl
join_comm unlimited unlimited = refl

pub join_assoc : (a b c : Count) → a ⊕ b ⊕ c ≡ a ⊕ (b ⊕ c)
unfolding ◌⊕◌
join_assoc (fin m) (fin n) (fin k) = ap fin (omega arith)
join_assoc (fin m) (fin n) unlimited = refl
join_assoc (fin m) unlimited (fin k) = refl
join_assoc (fin m) unlimited unlimited = refl
join_assoc unlimited (fin n) (fin k) = refl
join_assoc unlimited (fin n) unlimited = refl
join_assoc unlimited unlimited (fin k) = refl
join_assoc unlimited unlimited unlimited = refl

pub join_nothing : (a : Count) → a ⊕ fin 0 ≡ a
unfolding ◌⊕◌
join_nothing (fin m) = ap fin (omega arith)
join_nothing unlimited = refl

pub nothing_join : (a : Count) → fin 0 ⊕ a ≡ a
unfolding ◌⊕◌
nothing_join (fin m) = ap fin (omega arith)
nothing_join unlimited = refl

pub join_unlimited : (a : Count) → a ⊕ unlimited ≡ unlimited
unfolding ◌⊕◌
join_unlimited (fin m) = refl
join_unlimited unlimited = refl

pub unlimited_join : (a : Count) → unlimited ⊕ a ≡ unlimited
unfolding ◌⊕◌
unlimited_join (fin m) = refl
unlimited_join unlimited = refl

pub at_most_self : (a : Count) → at_most a a ≡ true
unfolding at_most
at_most_self (fin m) = le-leb m m (omega arith)
at_most_self unlimited = refl

pub at_most_trans : (a b c : Count) → at_most a b ≡ true → at_most b c ≡ true → at_most a c ≡ true
unfolding at_most
at_most_trans (fin m) (fin n) (fin k) g h = le-leb m k (omega (arith, leb-true m n g, leb-true n k h))
at_most_trans (fin m) (fin n) unlimited g h = refl
at_most_trans (fin m) unlimited (fin k) g h = let z : false ≡ true = h in cc
at_most_trans (fin m) unlimited unlimited g h = refl
at_most_trans unlimited (fin n) (fin k) g h = g
at_most_trans unlimited (fin n) unlimited g h = refl
at_most_trans unlimited unlimited (fin k) g h = h
at_most_trans unlimited unlimited unlimited g h = refl

-- A part is at most the whole that it joins.
pub at_most_joined : (a b : Count) → at_most a (a ⊕ b) ≡ true
unfolding at_most ◌⊕◌
at_most_joined (fin m) (fin n) = le-leb m (m + n) (omega arith)
at_most_joined (fin m) unlimited = refl
at_most_joined unlimited (fin n) = refl
at_most_joined unlimited unlimited = refl

-- Joining keeps the order.
pub join_mono : (a b c d : Count) → at_most a b ≡ true → at_most c d ≡ true → at_most (a ⊕ c) (b ⊕ d) ≡ true
unfolding at_most ◌⊕◌
join_mono (fin m) (fin n) (fin k) (fin l) g h = le-leb (m + k) (n + l) (omega (arith, leb-true m n g, leb-true k l h))
join_mono (fin m) (fin n) (fin k) unlimited g h = refl
join_mono (fin m) (fin n) unlimited (fin l) g h = h
join_mono (fin m) (fin n) unlimited unlimited g h = refl
join_mono (fin m) unlimited (fin k) (fin l) g h = refl
join_mono (fin m) unlimited (fin k) unlimited g h = refl
join_mono (fin m) unlimited unlimited (fin l) g h = refl
join_mono (fin m) unlimited unlimited unlimited g h = refl
join_mono unlimited (fin n) (fin k) (fin l) g h = g
join_mono unlimited (fin n) (fin k) unlimited g h = refl
join_mono unlimited (fin n) unlimited (fin l) g h = g
join_mono unlimited (fin n) unlimited unlimited g h = refl
join_mono unlimited unlimited (fin k) (fin l) g h = refl
join_mono unlimited unlimited (fin k) unlimited g h = refl
join_mono unlimited unlimited unlimited (fin l) g h = refl
join_mono unlimited unlimited unlimited unlimited g h = refl
