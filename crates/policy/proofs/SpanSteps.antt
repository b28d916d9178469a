-- Where the rows of a tree begin and end.
use Prim.Native.Nat.{ℕ, zero, suc, ◌-◌}
use mathlib.Core.List.{List}
use mathlib.Core.Path.{◌≡◌, refl}
use native.Mathlib.Numerals.{sub-one}
use lib.ListN.{get_or}
use Rattle.policy.proofs.NodeLaws.{node_steps}
use Rattle.policy.specs.Loads.{start_of}
use Rattle.policy.specs.declared.Trees.{Trees}

-- The rows of the t-th tree.
pub starts_first : (trees : Trees) (t : ℕ) → t ≡ 0 → 0 ≡ start_of trees t
unfolding start_of
starts_first trees t e = rw e

pub starts_later : (trees : Trees) (t r : ℕ) → (t ≡ 0 → ⊥) → r ≡ get_or trees.ends (t - 1) 0 → r ≡ start_of trees t
unfolding start_of
starts_later trees zero r h e = absurd (h refl)
starts_later trees (suc t) r h e = rw (sub-one (suc t)) at e

pub first_end : (ends : List ℕ) (t r : ℕ) → t ≡ 0 → r ≡ get_or ends 0 0 → r ≡ get_or ends t 0
first_end ends t r e h = rw (e, h)

pub ruleset span_steps = (node_steps, starts_first, starts_later, first_end)
