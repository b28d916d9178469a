-- Which number and values of document 01 each case of an answer is, and what the calls of the services promise. A service answers the
-- length written or the number of moves, or the first question that fails.
use Rattle.std.specs.Prelude.{ℕ, ◌*◌, ◌<◌, ◌≤◌, ◌≡◌, List, length, get_or, Result, Ok, Err}
use Rattle.reading.specs.Read.{got}
use Rattle.reading.specs.Syntax.{Sheet, components}
use Rattle.reading.specs.System.{sheet_of}
use Rattle.reading.specs.Questions.{number_of}
use Rattle.reading.specs.declared.Question.{Question}
use Rattle.inference.specs.Interface.{interface, Required}
use Rattle.inference.specs.Rows.{Orderly, table_entries}
use Rattle.policy.specs.Loads.{Bounded, AllHeld}
use Rattle.policy.specs.Reading.{read_policy}
use Rattle.policy.specs.Syntax.{Tree}
use Rattle.policy.specs.declared.Trees.{Trees}
use Rattle.service.specs.Questions.{Asked, passed, failed, judged}
use Rattle.service.specs.Check.{fitting, written, checked}
use Rattle.service.specs.Later.{later_fault}
use Rattle.service.specs.declared.Judged.{Judged}
pub use Rattle.service.specs.Fault.{fault_number}

abbrev pub told : Result ℕ Question → Asked ℕ
told (Ok n) = passed n
told (Err q) = failed (number_of q)

-- The first question that fails, or 64, a number that no question has, where questions 1 to 18 pass.
unfoldable pub first_failed : {A : Type 0} → Asked A → ℕ
first_failed (passed a) = 64
first_failed (failed n) = n

-- What `check` promises: its answer and the final bytes of the lent output are those of the definition.
pub record Checked (sheet charter output output' : List ℕ) (r : Result ℕ Question) : Type 0 where
  pub answer : told r ≡ (checked sheet charter output).answer
  pub lent : output' ≡ (checked sheet charter output).lent

-- A sheet that passes questions 1 to 6 beside a charter.
pub record Reads (s charter : List ℕ) : Type 0 where
  pub tree : Sheet
  pub end : ℕ
  pub reads : sheet_of s charter ≡ got tree end

-- A sheet that passes questions 1 to 6, and memory without a count that has a row for each of its components.
pub record Ready (s charter table : List ℕ) : Type 0 where
  pub reads : Reads s charter
  pub rows : ℕ
  pub room : components reads.tree.system ≤ rows
  pub long : length table ≡ rows * 211
  pub zeros : (i : ℕ) → get_or table i 0 ≡ 0

-- A charter that reads, and its trees in the table of nodes.
pub record HoldsPolicy (charter nodes : List ℕ) (trees : Trees) : Type 0 where
  pub policy : List Tree
  pub end : ℕ
  pub reads : read_policy charter ≡ got policy end
  pub bounded : Bounded trees
  pub held : AllHeld charter nodes trees 0 policy

-- What questions 11 to 18 come to, and past 11 the charter's trees.
pub record JudgesLater (charter nodes : List ℕ) (required : Required) (components : ℕ) (r : Judged) : Type 0 where
  pub first : fault_number r.fault ≡ later_fault charter required
  pub number : r.components ≡ components
  pub trees_held : 11 < fault_number r.fault → HoldsPolicy charter nodes r.trees

-- What questions 1 to 18 come to; past 10 a table that holds the interface of a sheet that reads, its groups in order; and past 11 the
-- charter's trees.
pub record Judges (sheet charter table nodes : List ℕ) (r : Judged) : Type 0 where
  pub first : fault_number r.fault ≡ first_failed (judged sheet charter)
  pub few : r.components ≤ 32
  pub orderly : 10 < fault_number r.fault → (n : ℕ) → n < r.components → Orderly table n
  pub held : 10 < fault_number r.fault → (tree : Sheet) (end : ℕ) → sheet_of sheet charter ≡ got tree end → table_entries table r.components ≡ interface tree
  pub trees_held : 11 < fault_number r.fault → HoldsPolicy charter nodes r.trees

-- Bytes that are written where there is room for them.
pub record Delivered (bytes output output' : List ℕ) (r : Result ℕ Question) : Type 0 where
  pub answer : told r ≡ (written output (fitting output bytes)).answer
  pub lent : ((i : ℕ) → get_or bytes i 0 < 256) → output' ≡ (written output (fitting output bytes)).lent
