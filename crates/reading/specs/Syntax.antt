-- The syntax of the π-calculus with groups, as document 01 ("Types and sheets") has it. Names are binder levels: free names
-- are 0, 1, ..; each binder on the way in takes the next number. Types are numbers (Types.antt).
use Rattle.std.specs.Prelude.{ℕ, ◌+◌, List}
use Rattle.reading.specs.declared.OwnFields.{OwnFields}

pub data Process : Type 0 where
  nil : Process
  par : Process → Process → Process
  -- restriction: the type of the new name, and its scope
  new : ℕ → Process → Process
  -- input: the channel, the type of the bound name, and its scope
  input : ℕ → ℕ → Process → Process
  -- output: the channel, the name sent, and the continuation
  output : ℕ → ℕ → Process → Process
  -- replication
  repl : Process → Process

pub data System : Type 0 where
  nilₛ : System
  parₛ : System → System → System
  groupₛ : ℕ → System → System
  newₛ : ℕ → System → System
  -- a component (document 01: a post): its own fields and its process
  compₛ : OwnFields → Process → System

-- A sheet: the types of the free names, and one system.
pub record Sheet : Type 0 where
  pub free : List ℕ
  pub system : System

-- How many components a system has. "Posts are numbered from 0 in sheet order."
unfoldable pub components : System → ℕ
components nilₛ = 0
components (parₛ l r) = components l + components r
components (groupₛ g p) = components p
components (newₛ t p) = components p
components (compₛ own p) = 1
