-- The search for the first uncovered permission as the code makes it, over the table of components and the table of nodes.
use Rattle.std.specs.Prelude.{ℕ, ◌≡◌, List, Option as Answer, Some, None}
use Rattle.std.proofs.Math.Option.{Option, some, none}
use Rattle.inference.specs.Acts.{Component}
use Rattle.inference.specs.Lists.{any}
use Rattle.inference.specs.Rows.{path_at}
use Rattle.policy.specs.Syntax.{Tree, has_bit}
use Rattle.fit.specs.Grants.{flag_granted, count_granted}
use Rattle.fit.specs.Givers.{given_at, joined_at}
use Rattle.fit.specs.Uncovered.{Uncovered}
use Rattle.fit.specs.Covers.{permission_in}
use Rattle.fit.specs.declared.Missing.{Missing}

-- Rows that give to a path and a purpose what the policy grants them for data of a kind.
pub record Gives (c nodes : List ℕ) (policy : List Tree) (kind : ℕ) (path : List ℕ) (purpose : ℕ) (rows : List ℕ) : Type 0 where
  pub flag : (v : ℕ) (o : Component) → o.path ≡ path → o.purpose ≡ purpose → flag_granted v policy kind o ≡ any (λ row. has_bit v (given_at c nodes row).map) rows
  pub count : (h : ℕ) (o : Component) → o.path ≡ path → o.purpose ≡ purpose → count_granted h policy kind o ≡ joined_at h c nodes rows

-- The uncovered permission that the code tells of.
unfoldable pub uncovered_at : List ℕ → Answer Missing → Option Uncovered
uncovered_at table None = none
uncovered_at table (Some m) = some (record { path = path_at table m.component; permission = permission_in m.permission; kind = m.kind })
