-- The first uncovered permission (document 02, Q-1): "entries in order; read, write, access, then disclose by group".
use Rattle.std.specs.Prelude.{ℕ, List, [], ◌∷◌, Bool, cond, not}
use Rattle.std.proofs.Math.Option.{Option, some, none}
use Rattle.inference.specs.Interface.{Entry, Permission, disclosing, Required}
use Rattle.policy.specs.Syntax.{Tree}
use Rattle.fit.specs.Satisfies.{Verdict, flag, counts, covering, holds}

-- The first of a list that a test tells.
unfoldable pub first : {A : Type 0} → (A → Bool) → List A → Option A
first p [] = none
first p (x ∷ xs) = cond (p x) (some x) (first p xs)

-- The permission that a verdict is on.
unfoldable pub permission_of : Verdict → Permission
permission_of (flag p granted) = p
permission_of (counts h needed granted) = disclosing h

unfoldable pub or_none : Option Verdict → Option Permission
or_none none = none
or_none (some v) = some (permission_of v)

-- The first permission of an entry that its grant does not cover, read off the covering.
unfoldable pub first_missing : List Tree → Required → Entry → Option Permission
first_missing policy required e = or_none (first (λ v. not (holds v)) (covering policy required e))

-- "path, permission and kind"
pub record Uncovered : Type 0 where
  pub path : List ℕ
  pub permission : Permission
  pub kind : ℕ

-- What an entry lacks; or, where it lacks nothing, what is found further on.
unfoldable pub or_further : Entry → Option Permission → Option Uncovered → Option Uncovered
or_further e (some p) further = some (record { path = e.component.path; permission = p; kind = e.kind })
or_further e none further = further

-- The first uncovered permission of some entries.
unfoldable pub first_uncovered : List Tree → Required → List Entry → Option Uncovered
first_uncovered policy required [] = none
first_uncovered policy required (e ∷ rest) = or_further e (first_missing policy required e) (first_uncovered policy required rest)
