-- "Questions, in order": the sheet against the charter, questions 1 to 18.
use Rattle.std.specs.Prelude.{ℕ, List, Bool, true, false, eqb}
use Rattle.reading.specs.Read.{Read, got, refused}
use Rattle.reading.specs.Syntax.{Sheet}
use Rattle.reading.specs.System.{sheet_of}
use Rattle.inference.specs.Lists.{every}
use Rattle.inference.specs.Acts.{Act, sheet_acts}
use Rattle.inference.specs.Typing.{in_scope, on_channel, carries_object, in_path}
use Rattle.inference.specs.Interface.{Required, required_of}
use Rattle.policy.specs.Syntax.{Tree}
use Rattle.policy.specs.Reading.{read_policy}
use Rattle.policy.specs.WellFormed.{kinds_distinct, nodes_fault, fenced}
use Rattle.fit.specs.Satisfies.{has_tree, path_reached, covered}

-- A call that passes with a value, or the number of the first question that fails.
pub data Asked (A : Type 0) : Type 0 where
  passed : A → Asked A
  failed : ℕ → Asked A

-- 'A "no" ends with its number.'
unfoldable pub ask : {A : Type 0} → ℕ → Bool → Asked A → Asked A
ask number true rest = rest
ask number false rest = failed number

-- What a reading answers, and the questions after it.
unfoldable pub after_reading : {A B : Type 0} → Read A → (A → Asked B) → Asked B
after_reading (got a next) rest = rest a
after_reading (refused question at) rest = failed question

-- 7 to 10: "from 7 each question is put to the whole before the next".
unfoldable pub typed : {A : Type 0} → List Act → Asked A → Asked A
typed acts rest =
    ask 7 (every in_scope acts)
    (ask 8 (every on_channel acts)
    (ask 9 (every carries_object acts)
    (ask 10 (every in_path acts) rest)))

-- 12 to 15; 13 and 14 as the nodes are met (document 02, Q-2).
unfoldable pub well_formed : {A : Type 0} → List Tree → Asked A → Asked A
well_formed policy rest =
    ask 12 (kinds_distinct policy)
    (ask (nodes_fault policy) (eqb (nodes_fault policy) 0)
    (ask 15 (fenced policy) rest))

-- 16 to 18.
unfoldable pub satisfied : {A : Type 0} → List Tree → Required → Asked A → Asked A
satisfied policy required rest =
    ask 16 (every (has_tree policy) required.entries)
    (ask 17 (every (path_reached policy) required.entries)
    (ask 18 (every (covered policy required) required.entries) rest))

-- A sheet that its policy accepts.
pub record Accepted : Type 0 where
  pub sheet : Sheet
  pub policy : List Tree

-- Questions 1 to 18, from what the readings of a sheet and of a charter answer.
unfoldable pub judged_from : Read Sheet → Read (List Tree) → Asked Accepted
judged_from sheet_read charter_read =
    after_reading sheet_read (λ sheet.
    typed (sheet_acts sheet)
    (after_reading charter_read (λ policy.
    well_formed policy
    (satisfied policy (required_of sheet) (passed (record { sheet = sheet; policy = policy }))))))

-- Questions 1 to 18.
unfoldable pub judged : List ℕ → List ℕ → Asked Accepted
judged s c = judged_from (sheet_of s c) (read_policy c)
