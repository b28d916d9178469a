-- Answers as numbers: below 64 the number of the question that failed, from 64 on 64 more than the length or the number of moves; and of a
-- service that answers yes or no, 1 or 0.
use Rattle.std.specs.Prelude.{ℕ, ◌+◌, ◌≡◌, List, Bool, cond, ltb}
use Rattle.service.specs.Questions.{Asked, passed, failed}
use Rattle.service.specs.Check.{checked}
use Rattle.running.specs.Play.{played}
use Rattle.explaining.specs.Explain.{explained}
use Rattle.slack.specs.Slack.{slack_told}
use Rattle.comparing.specs.NoLooser.{no_looser}
use Rattle.moving.specs.Moving.{upgraded, downgraded}

unfoldable pub code_of : Asked ℕ → ℕ
code_of (passed n) = cond (ltb n 4294967296) (n + 64) 63
code_of (failed q) = cond (ltb q 63) q 63

pub record CheckedAs (sheet charter output output' : List ℕ) (r : ℕ) : Type 0 where
  pub answer : r ≡ code_of (checked sheet charter output).answer
  pub lent : output' ≡ (checked sheet charter output).lent

pub record PlayedAs (sheet charter script log log' : List ℕ) (r : ℕ) : Type 0 where
  pub answer : r ≡ code_of (played sheet charter script log).answer
  pub lent : log' ≡ (played sheet charter script log).lent

pub record ExplainedAs (sheet charter names line line' : List ℕ) (r : ℕ) : Type 0 where
  pub answer : r ≡ code_of (explained sheet charter names line).answer
  pub lent : line' ≡ (explained sheet charter names line).lent

pub record ToldAs (sheet charter output output' : List ℕ) (r : ℕ) : Type 0 where
  pub answer : r ≡ code_of (slack_told sheet charter output).answer
  pub lent : output' ≡ (slack_told sheet charter output).lent

pub record UpgradedAs (sheet output output' : List ℕ) (r : ℕ) : Type 0 where
  pub answer : r ≡ code_of (upgraded sheet output).answer
  pub lent : output' ≡ (upgraded sheet output).lent

pub record DowngradedAs (sheet output output' : List ℕ) (r : ℕ) : Type 0 where
  pub answer : r ≡ code_of (downgraded sheet output).answer
  pub lent : output' ≡ (downgraded sheet output).lent

unfoldable pub yes_or_no : Bool → ℕ
yes_or_no answer = cond answer 1 0

pub record ComparedAs (a b : List ℕ) (r : ℕ) : Type 0 where
  pub answer : r ≡ yes_or_no (no_looser a b)
