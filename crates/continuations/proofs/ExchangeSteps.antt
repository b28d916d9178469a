-- A communication's products in their places, return by return.
use Prim.Native.Nat.{ℕ, ◌+◌, ◌-◌, ◌<◌, ◌≤◌}
use mathlib.Core.Path.{◌≡◌, refl, sym, ◌∙◌}
use mathlib.Core.List.{List}
use mathlib.Core.Bool.{Bool, true, false, not}
use native.Mathlib.Omega.{arith}
use borrow.Author.Rules.{rules}
use borrow.Author.Tests.{lt-ltb, le-ltb, not-true, not-false}
use lib.ListN.{length, take, drop}
use Rattle.std.specs.Prelude.{Option, Some, None, ◌⊎◌}
use Rattle.std.proofs.Common.{inl, inr}
use Rattle.decoding.specs.Tables.{process_in}
use Rattle.memory.specs.Threads.{replaced}
use Rattle.memory.specs.Chains.{bound}
use Rattle.memory.specs.declared.Thread.{Thread as Place}
use Rattle.products.specs.declared.Sizes.{Sizes}
use Rattle.products.specs.Makes.{Ready, Makes}
use Rattle.continuations.specs.declared.BothMade.{BothMade}
use Rattle.continuations.specs.declared.Exchange.{Exchange}
use Rattle.continuations.specs.declared.Part.{Part}
use Rattle.continuations.specs.Places.{Tables, room_for, under_cell, with_cell}
use Rattle.continuations.specs.Exchanges.{Walks, MakesBoth, part_of, both_replaced, swapped, PutsBoth, Exchanging}
use Rattle.continuations.proofs.ExchangeLaws.{communicates}
use Rattle.continuations.proofs.WidenSteps.{under_more, cells_more}

-- What both walks make, one after the other.
pub both_made : (forms : List ℕ) (x : Exchange) (z : Sizes) (made made₁ made' types types₁ types' cells cells₁ cells₂ cells' : List ℕ)
    (inner : Place) (begun first second : Sizes)
    → length made₁ ≡ length made → length types₁ ≡ length types → length cells₁ ≡ length cells
    → (Ready x.mine z made types cells
    → Makes forms x.mine (process_in x.mine.nest forms x.mine.at) z made made₁ types types₁ cells cells₁ first)
    → inner ≡ under_cell x.theirs first.cells → begun ≡ with_cell first → cells₂ ≡ bound cells₁ first.cells x.theirs.env x.sent
    → (Ready inner begun made₁ types₁ cells₂
    → Makes forms inner (process_in inner.nest forms inner.at) begun made₁ made' types₁ types' cells₂ cells' second)
    → MakesBoth forms x z made made' types types' cells cells' (record { mine = first.threads; sizes = second })
unfolding Walks
both_made forms x z made made₁ made' types types₁ types' cells cells₁ cells₂ cells' inner begun first second a b c w e f g v = record {
  first = first;
  second = second;
  made₁ = made₁;
  types₁ = types₁;
  cells₁ = cells₁;
  same_made = a;
  same_types = b;
  same_cells = c;
  mine = w;
  theirs = rw (e, f, g) at v;
  result = refl;
}

pub ruleset both_steps = (rules, both_made)

-- Two parts put in their places, the later one first.
pub spliced_two : (len : ℕ) (a b : Part) (made threads threads₁ threads' : List ℕ) → a.at < b.at → b.at < len
    → take (b.at + b.count + (len - (b.at + 1))) threads₁ ≡ replaced (take len threads) b.at (b.at + 1) (take b.count (drop b.first made))
    → take (a.at + a.count + (len - 1 + b.count - (a.at + 1))) threads'
    ≡ replaced (take (len - 1 + b.count) threads₁) a.at (a.at + 1) (take a.count (drop a.first made))
    → take (len - 2 + (a.count + b.count)) threads' ≡ both_replaced (take len threads) a.at b.at (part_of a made) (part_of b made)
unfolding both_replaced part_of
spliced_two len a b made threads threads₁ threads' h k e f =
    let later : b.at + b.count + (len - (b.at + 1)) ≡ len - 1 + b.count = omega arith in
    let all : a.at + a.count + (len - 1 + b.count - (a.at + 1)) ≡ len - 2 + (a.count + b.count) = omega arith in
    let e' : take (len - 1 + b.count) threads₁ ≡ replaced (take len threads) b.at (b.at + 1) (take b.count (drop b.first made)) = rw later at e in
    rw (all, e') at f

module _ (len : ℕ) (mine theirs : Part) (made threads threads' : List ℕ) where
  pub sender_first : mine.at < theirs.at
      → take (len - 2 + (mine.count + theirs.count)) threads' ≡ both_replaced (take len threads) mine.at theirs.at (part_of mine made) (part_of theirs made)
      → take (len - 2 + (mine.count + theirs.count)) threads' ≡ swapped (take len threads) mine.at theirs.at (part_of mine made) (part_of theirs made)
  unfolding swapped
  sender_first h e = rw (lt-ltb mine.at theirs.at h) e

  pub receiver_first : theirs.at ≤ mine.at
      → take (len - 2 + (theirs.count + mine.count)) threads' ≡ both_replaced (take len threads) theirs.at mine.at (part_of theirs made) (part_of mine made)
      → take (len - 2 + (mine.count + theirs.count)) threads' ≡ swapped (take len threads) mine.at theirs.at (part_of mine made) (part_of theirs made)
  unfolding swapped
  receiver_first h e =
      let turned : theirs.count + mine.count ≡ mine.count + theirs.count = omega arith in
      let e' = rw turned at e in
      rw (le-ltb mine.at theirs.at h) e'

pub ruleset swap_steps = (rules, spliced_two, sender_first, receiver_first)

-- What was made, put in its places.
module _ (z : Sizes) (x : Exchange) (b : BothMade) (made threads : List ℕ) where
  pub put_met : (r : Option Sizes) → (x.sender ≡ x.receiver ⊎ b.sizes.threads < b.mine)
      → (x.sender ≡ x.receiver → ⊥) → b.mine ≤ b.sizes.threads → PutsBoth z x b made threads threads r
  put_met r (inl e) ne h = absurd (ne e)
  put_met r (inr k) ne h = absurd (omega arith)

  pub put_refused : (q : Bool) → q ≡ room_for (z.threads - 2) b.sizes → not q ≡ true
      → (x.sender ≡ x.receiver → ⊥) → b.mine ≤ b.sizes.threads → PutsBoth z x b made threads threads None
  put_refused q e h ne k = record {
    fits = sym (not-true q h) ∙ e;
    sizes = λ s i. let w : ◌≡◌ {A = ℕ} 0 1 = cc in absurd (omega arith);
    placed = λ s i. let w : ◌≡◌ {A = ℕ} 0 1 = cc in absurd (omega arith);
    kept = λ i. refl;
  }

  pub put_done : (q : Bool) (threads' : List ℕ) → q ≡ room_for (z.threads - 2) b.sizes → not q ≡ false
      → take (z.threads - 2 + (b.mine + (b.sizes.threads - b.mine))) threads'
      ≡ swapped (take z.threads threads) x.sender x.receiver
      (part_of (record { at = x.sender; first = 0; count = b.mine }) made)
      (part_of (record { at = x.receiver; first = b.mine; count = b.sizes.threads - b.mine }) made)
      → (x.sender ≡ x.receiver → ⊥) → b.mine ≤ b.sizes.threads → PutsBoth z x b made threads threads'
      (Some (record { threads = z.threads - 2 + b.sizes.threads; names = b.sizes.names; cells = b.sizes.cells }))
  unfolding part_of
  put_done q threads' e h d ne k =
      let same : b.mine + (b.sizes.threads - b.mine) ≡ b.sizes.threads = omega arith in
      record {
        fits = sym (not-false q h) ∙ e;
        sizes = λ s i. cc;
        placed = λ s i. rw same at d;
        kept = λ i. let w : ◌≡◌ {A = ℕ} 0 1 = cc in absurd (omega arith);
      }

pub room_true : (kept : ℕ) (z : Sizes) (q : Bool) → q ≡ room_for kept z → not q ≡ false → room_for kept z ≡ true
room_true kept z q e h = sym e ∙ not-false q h

pub ruleset put_both_steps = (rules, put_met, put_refused, put_done)

-- What both continuations make, put in its places, is the communication.
pub exchange_step : (forms : List ℕ) (x : Exchange) (z z₀ : Sizes) (threads threads' made made' types types' cells cells' : List ℕ) (b : BothMade) (r : Option Sizes)
    → x.sender < z.threads → x.receiver < z.threads → Tables z threads made types cells
    → z₀ ≡ record { threads = 0; names = z.names; cells = z.cells }
    → MakesBoth forms x z₀ made made' types types' cells cells' b
    → ((x.sender ≡ x.receiver → ⊥) → b.mine ≤ b.sizes.threads → PutsBoth z x b made' threads threads' r)
    → Exchanging forms x z threads types cells threads' types' cells' r
unfolding Walks
exchange_step forms x z z₀ threads threads' made made' types types' cells cells' b r si ri tables e both p state c d turns known few kr cn dn ft fu binds small apart holds =
    let mk : MakesBoth forms x (record { threads = 0; names = z.names; cells = z.cells }) made made' types types' cells cells' b = rw e at both in
    let walk = mk.theirs in
    let put = rw mk.result at p in
    communicates forms x z turns threads threads' made mk.made₁ made' types mk.types₁ types' cells mk.cells₁ cells' known state c d mk.first mk.second r
    few kr cn dn ft fu binds small apart si ri tables.thread_room tables.made_room tables.type_room tables.cell_room mk.same_made mk.same_types mk.same_cells holds
    mk.mine
    (λ left. rw (← under_more x.theirs mk.first.cells (omega arith), ← cells_more mk.first (omega (arith, left))) at walk)
    (put apart)
