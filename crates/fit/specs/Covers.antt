-- The covering of an entry of a table as the code finds it, in the rows that give to its path; and questions 17 and 18 as the code asks
-- them. (`covering_rows` of proofs/EntryLaws.antt: it is the definition's.)
use Rattle.std.specs.Prelude.{ℕ, ◌-◌, ◌≡◌, List, [], ◌∷◌, ◌++◌, map, Bool, true, false, cond, not, take, get_or, ltb}
use Rattle.std.proofs.Math.Option.{Option, some, none}
use Rattle.std.specs.Prelude.{Option as Answer, Some, None}
use Rattle.inference.specs.Lists.{every, any, only, rising}
use Rattle.inference.specs.Interface.{Permission, reading, writing, accessing, disclosing}
use Rattle.inference.specs.Rows.{is_set, cell, group_count, group_at, path_at, purpose_at}
use Rattle.sharing.specs.Sums.{needed_at, sum_count}
use Rattle.policy.specs.Syntax.{has_bit}
use Rattle.policy.specs.Loads.{start_of}
use Rattle.policy.specs.declared.Trees.{Trees}
use Rattle.policy.specs.declared.Span.{Span}
use Rattle.fit.specs.Satisfies.{Verdict, flag, counts, holds}
use Rattle.fit.specs.Uncovered.{first, or_none}
use Rattle.fit.specs.declared.Permission.{Permission as Told}
use Rattle.fit.specs.declared.Permission.TheVariants.{Read, Write, Access, Disclose}
use Rattle.fit.specs.Givers.{given_at, joined_at, granting_rows, givers_in, index_of}
use Rattle.fit.specs.declared.Flag.{Flag}
use Rattle.fit.specs.declared.Flag.TheVariants.{Unneeded, Granted, Lacking}
use Rattle.fit.specs.declared.Flags.{Flags}
use Rattle.fit.specs.declared.Sum.{Sum}
use Rattle.fit.specs.declared.Sums.{Sums}
use Rattle.fit.specs.declared.Covering.{Covering}

-- What the code's answers say: no verdict on a flag that is not needed
unfoldable pub flag_verdicts : Permission → Flag → List Verdict
flag_verdicts p Unneeded = []
flag_verdicts p Granted = flag p true ∷ []
flag_verdicts p Lacking = flag p false ∷ []

unfoldable pub is_lacking : Flag → Bool
is_lacking Unneeded = false
is_lacking Granted = false
is_lacking Lacking = true

unfoldable pub flags_then : Flags → List Verdict → List Verdict
flags_then f rest = flag_verdicts reading f.read ++ (flag_verdicts writing f.write ++ (flag_verdicts accessing f.access ++ rest))

unfoldable pub sum_verdict : Sum → Verdict
sum_verdict s = counts s.group (sum_count s.needed) (sum_count s.granted)

unfoldable pub sum_verdicts : Sums → List Verdict
sum_verdicts s = map sum_verdict (take s.len s.items)

unfoldable pub verdicts_of : Covering → List Verdict
verdicts_of r = flags_then r.flags (sum_verdicts r.sums)

-- each group of the path at a reached node
unfoldable pub all_given : List ℕ → Bool
all_given rows = every (λ row. ltb row 64) rows

-- a flag that the rows grant
unfoldable pub flag_given : ℕ → List ℕ → List ℕ → List ℕ → Bool
flag_given value c nodes rows = any (λ row. has_bit value (given_at c nodes row).map) rows

-- the verdict on a flag, where it is needed
unfoldable pub flag_at : Permission → ℕ → List ℕ → List ℕ → List ℕ → ℕ → List Verdict
flag_at p value c nodes rows needed = cond (is_set needed) (flag p (flag_given value c nodes rows) ∷ []) []

unfoldable pub flags_at : List ℕ → List ℕ → List ℕ → List ℕ → ℕ → ℕ → List Verdict → List Verdict
flags_at c nodes rows table component kind rest =
    flag_at reading 1 c nodes rows (cell table component kind 8)
    ++ (flag_at writing 2 c nodes rows (cell table component kind 9)
    ++ (flag_at accessing 4 c nodes rows (cell table component kind 10) ++ rest))

-- the verdict on the group at a place
unfoldable pub place_verdict : List ℕ → List ℕ → List ℕ → List ℕ → List ℕ → ℕ → ℕ → ℕ → Verdict
place_verdict c nodes rows table sums component kind i =
    counts (group_at table component i) (sum_count (needed_at sums table component kind i)) (joined_at (group_at table component i) c nodes rows)

-- those on the groups at n places from one on, where the component's own count is not 0
unfoldable pub places_from : ℕ → ℕ → List ℕ → List ℕ → List ℕ → List ℕ → List ℕ → ℕ → ℕ → List Verdict
places_from start n c nodes rows table sums component kind =
    map (place_verdict c nodes rows table sums component kind) (only (λ i. is_set (cell table component kind i)) (rising start n))

unfoldable pub verdicts_at : List ℕ → List ℕ → List ℕ → List ℕ → List ℕ → ℕ → ℕ → List Verdict
verdicts_at c nodes rows table sums component kind =
    flags_at c nodes rows table component kind (places_from 0 (group_count table component) c nodes rows table sums component kind)

-- the rows of a kind's tree in the table of nodes, where there is such a tree
unfoldable pub tree_rows_of : Trees → ℕ → Answer Span
tree_rows_of trees kind =
    cond (ltb (index_of kind (take trees.len trees.kinds)) trees.len)
    (Some (record {
      from = start_of trees (index_of kind (take trees.len trees.kinds));
      to = get_or trees.ends (index_of kind (take trees.len trees.kinds)) 0;
    })) None

-- the same, none where there is no such tree
unfoldable pub span_for : Trees → ℕ → Span
span_for trees kind =
    cond (ltb (index_of kind (take trees.len trees.kinds)) trees.len)
    (record {
      from = start_of trees (index_of kind (take trees.len trees.kinds));
      to = get_or trees.ends (index_of kind (take trees.len trees.kinds)) 0;
    })
    (record { from = 0; to = 0 })

-- the verdicts that the tree of the kind gives
unfoldable pub verdicts_for : List ℕ → List ℕ → Trees → List ℕ → List ℕ → ℕ → ℕ → List Verdict
verdicts_for c nodes trees table sums component kind =
    verdicts_at c nodes
    (granting_rows (purpose_at table component) nodes
    (givers_in c nodes (path_at table component) (span_for trees kind).from ((span_for trees kind).to - (span_for trees kind).from)))
    table sums component kind

-- what the code answers of an entry, by the rows that its path reaches: is each group of its path at a reached node, and the verdicts on its
-- permissions by those that grant for its purpose
pub record CoveringIs (c nodes rows table sums : List ℕ) (component kind : ℕ) (r : Covering) : Type 0 where
  pub reached : r.reached ≡ all_given rows
  pub verdicts : verdicts_of r ≡ verdicts_at c nodes (granting_rows (purpose_at table component) nodes rows) table sums component kind

-- the permission that the code's value is
abbrev pub permission_in : Told → Permission
permission_in Read = reading
permission_in Write = writing
permission_in Access = accessing
permission_in (Disclose h) = disclosing h

-- what the code tells of a permission that is not covered
abbrev pub told_in : Answer Told → Option Permission
told_in None = none
told_in (Some p) = some (permission_in p)

-- the first permission of some verdicts that is not covered
unfoldable pub lacking_in : List Verdict → Option Permission
lacking_in vs = or_none (first (λ v. not (holds v)) vs)

-- the first of questions 17 and 18 that an entry fails, or 19
unfoldable pub rows_fault : List ℕ → List ℕ → List ℕ → List ℕ → List ℕ → ℕ → ℕ → ℕ
rows_fault c nodes rows table sums component kind =
    cond (all_given rows)
    (cond (every holds (verdicts_at c nodes (granting_rows (purpose_at table component) nodes rows) table sums component kind)) 19 18) 17
