-- A communication's products, each in its own thread's place.
use Rattle.std.specs.Prelude.{Option, Some, None, is_some, ℕ, ◌+◌, ◌-◌, ◌<◌, ◌≤◌, ◌≡◌, List, [], ◌∷◌, ◌++◌, Bool, cond, length, take, drop, set, ltb}
use Rattle.decoding.specs.Tables.{process_in}
use Rattle.inference.specs.Acts.{Component}
use Rattle.running.specs.State.{State}
use Rattle.running.specs.Products.{news, threads_of}
use Rattle.running.specs.Moves.{has_room, singles, after}
use Rattle.memory.specs.Threads.{replaced}
use Rattle.memory.specs.Chains.{bound, chain}
use Rattle.memory.specs.declared.Thread.{Thread as Place}
use Rattle.products.specs.declared.Sizes.{Sizes}
use Rattle.products.specs.Held.{Holds}
use Rattle.products.specs.Makes.{Ready, Makes}
use Rattle.continuations.specs.declared.BothMade.{BothMade}
use Rattle.continuations.specs.declared.Exchange.{Exchange}
use Rattle.continuations.specs.declared.Part.{Part}
use Rattle.continuations.specs.Places.{Ranged, remaining_at, room_for, Keeps, under_cell, with_cell}

-- The state after a communication: the sender's new names first.
unfoldable pub exchanged : List ℕ → Exchange → List ℕ → State → Component → Component → State
exchanged forms x cells state c d =
    after state
    (set (set (singles state.threads) x.sender
    (threads_of c (chain cells x.mine.names x.mine.env) (length state.types) (remaining_at forms x.mine))) x.receiver
    (threads_of d (chain cells x.theirs.names x.theirs.env ++ (x.sent ∷ []))
    (length state.types + length (news (remaining_at forms x.mine))) (remaining_at forms x.theirs)))
    (news (remaining_at forms x.mine) ++ news (remaining_at forms x.theirs))

pub record Exchanges (forms : List ℕ) (x : Exchange) (z : Sizes) (turns : ℕ) (threads threads' types types' : List ℕ) (known : List Bool)
    (cells cells' : List ℕ) (state : State) (c d : Component) (r : Option Sizes) : Type 0 where
  pub fits : is_some r ≡ has_room (exchanged forms x cells state c d)
  pub taken : (s : Sizes) → r ≡ Some s → Holds forms s (turns + 1) threads' types' known cells' (exchanged forms x cells state c d)
  pub kept : r ≡ None → Keeps forms z threads threads' types types' known cells cells' state

-- The same for every state that memory holds before, with cells for one turn more, whichever names are known.
abbrev pub Exchanging : List ℕ → Exchange → Sizes → List ℕ → List ℕ → List ℕ → List ℕ → List ℕ → List ℕ → Option Sizes → Type 0
Exchanging forms x z threads types cells threads' types' cells' r =
    (state : State) (c d : Component) (turns : ℕ) (known : List Bool) → turns + 1029 ≤ length cells → length known ≡ 1024
    → c.number ≡ x.mine.component → d.number ≡ x.theirs.component → Ranged x.mine z.cells → Ranged x.theirs z.cells
    → x.theirs.names + x.theirs.nest < 128 → x.sent < 65536 → (x.sender ≡ x.receiver → ⊥)
    → Holds forms z turns threads types known cells state
    → Exchanges forms x z turns threads threads' types types' known cells cells' state c d r

-- What one walk makes of the process at a place.
unfoldable pub Walks : List ℕ → Place → Sizes → List ℕ → List ℕ → List ℕ → List ℕ → List ℕ → List ℕ → Sizes → Type 0
Walks forms t z made made' types types' cells cells' r =
    Ready t z made types cells → Makes forms t (process_in t.nest forms t.at) z made made' types types' cells cells' r

-- What both continuations make: the sender's, and then, from the tables that this leaves, the receiver's under the name disclosed.
pub record MakesBoth (forms : List ℕ) (x : Exchange) (z : Sizes) (made made' types types' cells cells' : List ℕ) (r : BothMade) : Type 0 where
  pub first : Sizes
  pub second : Sizes
  pub made₁ : List ℕ
  pub types₁ : List ℕ
  pub cells₁ : List ℕ
  pub same_made : length made₁ ≡ length made
  pub same_types : length types₁ ≡ length types
  pub same_cells : length cells₁ ≡ length cells
  pub mine : Walks forms x.mine z made made₁ types types₁ cells cells₁ first
  pub theirs : Walks forms (under_cell x.theirs first.cells) (with_cell first) made₁ made' types₁ types'
      (bound cells₁ first.cells x.theirs.env x.sent) cells' second
  pub result : r ≡ record { mine = first.threads; sizes = second }

-- The threads of a part.
unfoldable pub part_of : Part → List ℕ → List ℕ
part_of p made = take p.count (drop p.first made)

-- A list with others in place of its items i and j, where i is the earlier one; and whichever is the earlier one.
unfoldable pub both_replaced : {A : Type 0} → List A → ℕ → ℕ → List A → List A → List A
both_replaced l i j mine theirs = replaced (replaced l j (j + 1) theirs) i (i + 1) mine

unfoldable pub swapped : {A : Type 0} → List A → ℕ → ℕ → List A → List A → List A
swapped l i j mine theirs = cond (ltb i j) (both_replaced l i j mine theirs) (both_replaced l j i theirs mine)

-- What was made, put in place of two threads.
pub record PutsBoth (z : Sizes) (x : Exchange) (b : BothMade) (made threads threads' : List ℕ) (r : Option Sizes) : Type 0 where
  pub fits : is_some r ≡ room_for (z.threads - 2) b.sizes
  pub sizes : (s : Sizes) → r ≡ Some s
      → s ≡ record { threads = z.threads - 2 + b.sizes.threads; names = b.sizes.names; cells = b.sizes.cells }
  pub placed : (s : Sizes) → r ≡ Some s → take (z.threads - 2 + b.sizes.threads) threads'
      ≡ swapped (take z.threads threads) x.sender x.receiver (take b.mine made)
      (take (b.sizes.threads - b.mine) (drop b.mine made))
  pub kept : r ≡ None → threads' ≡ threads
