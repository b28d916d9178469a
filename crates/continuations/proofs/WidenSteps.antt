-- One name more, return by return.
use Prim.Native.Nat.{ℕ, ◌+◌, ◌<◌, ◌≤◌}
use mathlib.Core.Path.{◌≡◌, refl}
use borrow.Author.Rules.{rules}
use borrow.Author.Tests.{lt-ltb, le-ltb}
use Rattle.memory.specs.declared.Thread.{Thread as Place}
use Rattle.products.specs.declared.Sizes.{Sizes}
use Rattle.continuations.specs.Places.{under_cell, with_cell}

module _ (t : Place) (cell : ℕ) where
  pub under_full : 128 ≤ t.names → t ≡ under_cell t cell
  unfolding under_cell
  under_full h = rw (le-ltb t.names 128 h) refl

  pub under_more : t.names < 128 → record { component = t.component; env = cell; names = t.names + 1; nest = t.nest; at = t.at } ≡ under_cell t cell
  unfolding under_cell
  under_more h = rw (lt-ltb t.names 128 h) refl

module _ (z : Sizes) where
  pub cells_full : 2304 ≤ z.cells → z ≡ with_cell z
  unfolding with_cell
  cells_full h = rw (le-ltb z.cells 2304 h) refl

  pub cells_more : z.cells < 2304 → record { threads = z.threads; names = z.names; cells = z.cells + 1 } ≡ with_cell z
  unfolding with_cell
  cells_more h = rw (lt-ltb z.cells 2304 h) refl

pub ruleset widen_steps = (rules, under_full, under_more, cells_full, cells_more)
