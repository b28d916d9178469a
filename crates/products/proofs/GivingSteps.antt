-- One name given and one thread made, return by return.
use Prim.Native.Nat.{ℕ, ◌+◌, ◌<◌, ◌≤◌}
use mathlib.Core.Path.{◌≡◌, refl, ap, ◌∙◌}
use mathlib.Core.List.{List}
use Rattle.std.proofs.Common.{◌⊎◌, inl, inr}
use lib.ListN.{set}
use borrow.Author.Rules.{rules}
use borrow.Author.Tests.{lt-ltb, le-ltb}
use Rattle.memory.specs.Threads.{packed}
use Rattle.memory.specs.Chains.{bound}
use Rattle.memory.specs.declared.Thread.{Thread as Place}
use Rattle.products.specs.declared.Sizes.{Sizes}
use Rattle.products.specs.Makes.{Gives, Pushes, sizes_given, types_given, cells_given, sizes_pushed, threads_pushed}

module _ (z r : Sizes) (t env : ℕ) (types cells : List ℕ) (full : r ≡ record { threads = z.threads; names = 1025; cells = z.cells }) where
  pub no_name : 1024 ≤ z.names → Gives z t env types types cells cells r
  unfolding sizes_given types_given cells_given
  no_name h = record { sizes = rw (le-ltb z.names 1024 h) full; typed = rw (le-ltb z.names 1024 h) refl; bound_to = rw (le-ltb z.names 1024 h) refl }

  pub no_cell : z.names < 1024 → 2304 ≤ z.cells → Gives z t env types types cells cells r
  unfolding sizes_given types_given cells_given
  no_cell h k = record {
    sizes = rw (lt-ltb z.names 1024 h, le-ltb z.cells 2304 k) full;
    typed = rw (lt-ltb z.names 1024 h, le-ltb z.cells 2304 k) refl;
    bound_to = rw (lt-ltb z.names 1024 h, le-ltb z.cells 2304 k) refl;
  }

  pub full_up : (1024 ≤ z.names) ⊎ ((z.names < 1024) × (2304 ≤ z.cells)) → Gives z t env types types cells cells r
  full_up (inl h) = no_name h
  full_up (inr h) = no_cell h.0 h.1

pub one_given : (z : Sizes) (t env : ℕ) (types types' cells cells' : List ℕ) → z.names < 1024 → z.cells < 2304 → types' ≡ set types z.names t
    → cells' ≡ bound cells z.cells env z.names
    → Gives z t env types types' cells cells' (record { threads = z.threads; names = z.names + 1; cells = z.cells + 1 })
unfolding sizes_given types_given cells_given
one_given z t env types types' cells cells' h k e f = record {
  sizes = rw (lt-ltb z.names 1024 h, lt-ltb z.cells 2304 k) refl;
  typed = rw (lt-ltb z.names 1024 h, lt-ltb z.cells 2304 k) e;
  bound_to = rw (lt-ltb z.names 1024 h, lt-ltb z.cells 2304 k) f;
}

module _ (z : Sizes) (t : Place) (made : List ℕ) where
  pub no_room : 64 ≤ z.threads → Pushes z t made made (record { threads = 65; names = z.names; cells = z.cells })
  unfolding sizes_pushed threads_pushed
  no_room h = record { sizes = rw (le-ltb z.threads 64 h) refl; last = rw (le-ltb z.threads 64 h) refl }

  pub one_pushed : (made' : List ℕ) (w : ℕ) → z.threads < 64 → w ≡ packed t → made' ≡ set made z.threads w
      → Pushes z t made made' (record { threads = z.threads + 1; names = z.names; cells = z.cells })
  unfolding sizes_pushed threads_pushed
  one_pushed made' w h e f = record {
    sizes = rw (lt-ltb z.threads 64 h) refl;
    last = rw (lt-ltb z.threads 64 h) (f ∙ ap (set made z.threads) e);
  }

pub ruleset giving_steps = (rules, full_up, one_given, no_room, one_pushed)
