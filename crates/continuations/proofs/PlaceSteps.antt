-- Products in their place, return by return.
use Prim.Native.Nat.{ℕ, ◌+◌, ◌-◌, ◌≤◌}
use mathlib.Core.Path.{◌≡◌, refl, sym, ◌∙◌}
use mathlib.Core.List.{List}
use mathlib.Core.Bool.{Bool, true, false, not}
use native.Mathlib.Omega.{arith}
use borrow.Author.Tests.{not-true, not-false}
use lib.ListN.{take, drop}
use Rattle.std.specs.Prelude.{Option, Some, None}
use Rattle.decoding.specs.Tables.{process_in}
use Rattle.memory.specs.Threads.{replaced}
use Rattle.memory.specs.declared.Thread.{Thread as Place}
use Rattle.products.specs.declared.Sizes.{Sizes}
use Rattle.products.specs.Makes.{Ready, Makes}
use Rattle.continuations.specs.Places.{Tables, room_for, Puts, Replacing}
use Rattle.continuations.proofs.PlaceLaws.{process_ready, replaces}

-- What was made, put in its place.
module _ (z : Sizes) (at from : ℕ) (after : Sizes) (made threads : List ℕ) (b : Bool) (e : b ≡ room_for (at + (z.threads - from)) after) where
  pub put_refused : not b ≡ true → Puts z at from after made threads threads None
  put_refused h = record {
    fits = sym (not-true b h) ∙ e;
    sizes = λ s k. let w : ◌≡◌ {A = ℕ} 0 1 = cc in absurd (omega arith);
    placed = λ s k. let w : ◌≡◌ {A = ℕ} 0 1 = cc in absurd (omega arith);
    kept = λ k. refl;
  }

  pub put_taken : (threads' : List ℕ) → not b ≡ false
      → take (at + after.threads + (z.threads - from)) threads' ≡ replaced (take z.threads threads) at from (take after.threads (drop 0 made))
      → Puts z at from after made threads threads'
      (Some (record { threads = at + (z.threads - from) + after.threads; names = after.names; cells = after.cells }))
  put_taken threads' h k =
      let same : at + after.threads + (z.threads - from) ≡ at + (z.threads - from) + after.threads = omega arith in
      record {
        fits = sym (not-false b h) ∙ e;
        sizes = λ s i. cc;
        placed = λ s i. rw same at k;
        kept = λ i. let w : ◌≡◌ {A = ℕ} 0 1 = cc in absurd (omega arith);
      }

-- What a process makes, put in its place, is the state with its products.
pub replace_step : (forms : List ℕ) (process : Place) (at from : ℕ) (z z₀ : Sizes) (threads threads' made made' types types' cells cells' : List ℕ)
    (products : Sizes) (r : Option Sizes)
    → at ≤ from → from ≤ z.threads → Tables z threads made types cells
    → z₀ ≡ record { threads = 0; names = z.names; cells = z.cells }
    → (Ready process z₀ made types cells
    → Makes forms process (process_in process.nest forms process.at) z₀ made made' types types' cells cells' products)
    → Puts z at from products made' threads threads' r
    → Replacing forms process at from z threads types cells threads' types' cells' r
replace_step forms process at from z z₀ threads threads' made made' types types' cells cells' products r o i tables e mk p state c turns known few kr number fits holds =
    let make : Ready process (record { threads = 0; names = z.names; cells = z.cells }) made types cells
    → Makes forms process (process_in process.nest forms process.at) (record { threads = 0; names = z.names; cells = z.cells }) made made' types types' cells cells' products
    = rw e at mk in
    let ready = process_ready forms process at from z turns threads threads' made made' types types' cells cells' known state c products r few kr number fits tables.made_room tables.type_room tables.cell_room o i tables.thread_room holds in
    replaces forms process at from z turns threads threads' made made' types types' cells cells' known state c products r few kr number fits tables.made_room tables.type_room tables.cell_room o i tables.thread_room holds (make ready) p
