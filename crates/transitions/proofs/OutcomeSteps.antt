-- What a move tells, return by return.
use Prim.Native.Nat.{ℕ, ◌<◌, ◌≤◌}
use mathlib.Core.Path.{◌≡◌, refl, sym, ◌∙◌}
use mathlib.Core.List.{List}
use mathlib.Core.Bool.{Bool, true}
use borrow.Author.Rules.{rules}
use borrow.Author.Tests.{lt-ltb, le-ltb}
use lib.ListN.{set}
use Rattle.std.specs.Prelude.{Option, Some, None, Result as Answer, Ok, Err}
use Rattle.products.specs.declared.Sizes.{Sizes}
use Rattle.script.specs.declared.Record.{Record}
use Rattle.transitions.specs.declared.Moved.{Moved}
use Rattle.transitions.specs.declared.MoveRefusal.{MoveRefusal}
use Rattle.transitions.specs.declared.MoveRefusal.TheVariants.{NoRoom}
use Rattle.transitions.specs.Steps.{number_of, refused_line, refusal, sizes_after, line_of, outcome_of, known_after}

-- A value that is another one.
pub never : {A : Type 0} {r : Option A} {x y : A} → r ≡ Some x → (x ≡ y → ⊥) → r ≡ Some y → ⊥
never {A} {r} {x} {y} e h q = let k : Some x ≡ Some y = sym e ∙ q in let same : x ≡ y = cc in h same

-- A move as it is logged.
pub logged_taken : (z : Sizes) (r : Answer Moved MoveRefusal) (moved : Moved) → r ≡ Ok moved → moved ≡ record { sizes = sizes_after z r; line = line_of r }
unfolding sizes_after line_of
logged_taken z r moved e = rw e refl

pub logged_refused : (z : Sizes) (r : Answer Moved MoveRefusal) (q : MoveRefusal) (n : ℕ) (moved : Moved) → r ≡ Err q → n ≡ number_of q
    → moved ≡ refusal n z → moved ≡ record { sizes = sizes_after z r; line = line_of r }
unfolding sizes_after line_of refused_line refusal
logged_refused z r q n moved e k f = rw (e, f, k) refl

-- The outcome of a move whose products were to be placed.
pub outcome_taken : (p : Option Sizes) (z : Sizes) (line : Record) → p ≡ Some z → Ok (record { sizes = z; line = line }) ≡ outcome_of p line
unfolding outcome_of
outcome_taken p z line e = rw e refl

pub outcome_full : (p : Option Sizes) (line : Record) → ((z : Sizes) → p ≡ Some z → ⊥) → Err NoRoom ≡ outcome_of p line
unfolding outcome_of
outcome_full None line h = refl
outcome_full (Some z) line h = absurd (h z refl)

module _ (z : Sizes) (n : ℕ) (known : List Bool) where
  pub know_late : z.names ≤ n → known ≡ known_after z n known
  unfolding known_after
  know_late k = rw (le-ltb n z.names k) refl

  pub know_now : (known' : List Bool) → n < z.names → known' ≡ set known n true → known' ≡ known_after z n known
  unfolding known_after
  know_now known' k e = rw (lt-ltb n z.names k) e

pub ruleset outcome_steps = (rules, logged_taken, logged_refused, know_late, know_now)
