-- An answer as a number, return by return.
use Prim.Native.Nat.{ℕ, ◌+◌, ◌<◌, ◌≤◌}
use mathlib.Core.Path.{◌≡◌, refl, ap, ◌∙◌}
use mathlib.Core.List.{List}
use mathlib.Core.Bool.{Bool, true, false}
use native.Mathlib.Omega.{arith}
use borrow.Author.Rules.{rules}
use borrow.Author.Tests.{lt-ltb, le-ltb}
use Rattle.service.specs.Questions.{passed}
use Rattle.service.specs.Check.{checked}
use Rattle.service.specs.Told.{told, Checked}
use Rattle.std.specs.Prelude.{Result, Ok, Err}
use Rattle.reading.specs.Questions.{number_of}
use Rattle.reading.specs.declared.Question.{Question}
use Rattle.running.specs.Play.{played}
use Rattle.execution.specs.Told.{Played}
use Rattle.explaining.specs.Explain.{explained}
use Rattle.explaining.specs.Told.{Explained}
use Rattle.slack.specs.Told.{Tells}
use Rattle.comparing.specs.NoLooser.{no_looser}
use Rattle.moving.specs.Told.{Upgraded, Downgraded}
use Rattle.velimhaw.specs.Codes.{code_of, CheckedAs, PlayedAs, ExplainedAs, ToldAs, UpgradedAs, DowngradedAs, yes_or_no, ComparedAs}

-- Each question's number is below the bound of `code_of`.
number_small : (q : Question) → number_of q < 63
number_small q = grind arith

-- The number of each answer.
pub code_short : (n : ℕ) → n < 4294967296 → code_of (passed n) ≡ n + 64
unfolding code_of
code_short n h = rw (lt-ltb n 4294967296 h) refl

pub code_long : (n : ℕ) → 4294967296 ≤ n → code_of (passed n) ≡ 63
unfolding code_of
code_long n h = rw (le-ltb n 4294967296 h) refl

pub code_refused : (a : Result ℕ Question) (q : Question) → a ≡ Err q → code_of (told a) ≡ number_of q
unfolding code_of
code_refused a q e = rw (e, lt-ltb (number_of q) 63 (number_small q)) refl

pub ruleset code_steps = (code_short, code_long, code_refused)

pub checked_as : (sheet charter output output' : List ℕ) (a : Result ℕ Question) (r : ℕ) → Checked sheet charter output output' a → r ≡ code_of (told a) → CheckedAs sheet charter output output' r
checked_as sheet charter output output' a r c e = record { answer = e ∙ ap code_of c.answer; lent = c.lent }

pub played_as : (sheet charter script log log' : List ℕ) (a : Result ℕ Question) (r : ℕ) → Played sheet charter script log log' a → r ≡ code_of (told a) → PlayedAs sheet charter script log log' r
played_as sheet charter script log log' a r p e = record { answer = e ∙ ap code_of p.answer; lent = p.lent }

pub explained_as : (sheet charter names line line' : List ℕ) (a : Result ℕ Question) (r : ℕ) → Explained sheet charter names line line' a → r ≡ code_of (told a) → ExplainedAs sheet charter names line line' r
explained_as sheet charter names line line' a r x e = record { answer = e ∙ ap code_of x.answer; lent = x.lent }

pub told_as : (sheet charter output output' : List ℕ) (a : Result ℕ Question) (r : ℕ) → Tells sheet charter output output' a → r ≡ code_of (told a) → ToldAs sheet charter output output' r
told_as sheet charter output output' a r t e = record { answer = e ∙ ap code_of t.answer; lent = t.lent }

pub upgraded_as : (sheet output output' : List ℕ) (a : Result ℕ Question) (r : ℕ) → Upgraded sheet output output' a → r ≡ code_of (told a) → UpgradedAs sheet output output' r
upgraded_as sheet output output' a r u e = record { answer = e ∙ ap code_of u.answer; lent = u.lent }

pub downgraded_as : (sheet output output' : List ℕ) (a : Result ℕ Question) (r : ℕ) → Downgraded sheet output output' a → r ≡ code_of (told a) → DowngradedAs sheet output output' r
downgraded_as sheet output output' a r d e = record { answer = e ∙ ap code_of d.answer; lent = d.lent }

-- Yes and no as a number.
module _ (a b : List ℕ) (t : Bool) (e : t ≡ no_looser a b) where
  pub compared_yes : t ≡ true → ComparedAs a b 1
  compared_yes h = record { answer = unfold yes_or_no in rw (← e, h) }

  pub compared_no : t ≡ false → ComparedAs a b 0
  compared_no h = record { answer = unfold yes_or_no in rw (← e, h) }

pub ruleset answer_steps = (rules, checked_as, played_as, explained_as, told_as, upgraded_as, downgraded_as, compared_yes, compared_no)
