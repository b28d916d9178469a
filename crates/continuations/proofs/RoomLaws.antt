-- Room for threads and names (35).
use Prim.Native.Nat.{ℕ, ◌+◌, ◌<◌, ◌≤◌}
use mathlib.Core.Path.{◌≡◌, refl, sym, ◌∙◌}
use mathlib.Core.Bool.{Bool, true, false, not}
use native.Mathlib.Omega.{arith}
use borrow.Author.Rules.{rules}
use borrow.Author.Tests.{le-leb, lt-leb, leb-true, not-false}
use lib.Dec.{leb}
use Rattle.reading.proofs.TotalLaws.{both_left, both_right}
use Rattle.products.specs.declared.Sizes.{Sizes}
use Rattle.continuations.specs.Places.{room_for}

module _ (kept : ℕ) (z : Sizes) where
  pub crowded : 64 < z.threads → false ≡ room_for kept z
  unfolding room_for
  crowded h = rw (lt-leb (kept + z.threads) 64 (omega arith)) refl

  pub full : 64 < kept + z.threads → false ≡ room_for kept z
  unfolding room_for
  full h = rw (lt-leb (kept + z.threads) 64 h) refl

  pub rest_named : kept + z.threads ≤ 64 → leb z.names 1024 ≡ room_for kept z
  unfolding room_for
  rest_named h = rw (le-leb (kept + z.threads) 64 h) refl

  pub few_threads : room_for kept z ≡ true → kept + z.threads ≤ 64
  unfolding room_for
  few_threads h = leb-true (kept + z.threads) 64 (both_left (leb (kept + z.threads) 64) (leb z.names 1024) h)

  pub few_names : room_for kept z ≡ true → z.names ≤ 1024
  unfolding room_for
  few_names h = leb-true z.names 1024 (both_right (leb (kept + z.threads) 64) (leb z.names 1024) h)

  pub room_few : (b : Bool) → b ≡ room_for kept z → not b ≡ false → kept + z.threads ≤ 64
  room_few b e h = few_threads (sym e ∙ not-false b h)

pub ruleset room_steps = (rules, crowded, full, rest_named)
