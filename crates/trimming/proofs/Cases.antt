-- Worked cases of the slack and of what it allows, on the definitions: charters as an editor would write them, each beside the policy that
-- lowering makes, and what the questions answer.
use Prim.Native.Nat.{ℕ}
use mathlib.Core.List.{List, [], ◌∷◌, ◌++◌, map}
use mathlib.Core.Path.{◌≡◌, refl}
use Rattle.reading.specs.Read.{Read, got, refused}
use Rattle.reading.specs.Syntax.{Sheet}
use Rattle.reading.specs.System.{sheet_of}
use Rattle.inference.specs.Counts.{Count, fin, unlimited}
use Rattle.inference.specs.Interface.{required_of, interface}
use Rattle.policy.specs.Syntax.{Tree}
use Rattle.policy.specs.Reading.{read_policy}
use Rattle.service.specs.Questions.{Asked, passed, failed, Accepted, judged_from}
use Rattle.service.proofs.Computed.{computed}
use Rattle.trimming.specs.Trim.{lowered, item_then, lower_list, without_list, map_for, lower_permissions, lower_at, lower_nodes, lower_node, lower_tree, lower, left_over, lesser, least, slack_of, slack_in, draws_on, least_slack}

-- Below group 0 a component of group 1 discloses once data of kind 0 and once of kind 1, and one of group 2 three times of kind 0, all into group 0.
abbrev sheet : List ℕ
sheet = 0x04 ∷ 0x02 ∷ 0x00 ∷ 0x00 ∷ 0x00 ∷ 0x01 ∷ 0x00 ∷ 0x00 ∷ 0x02 ∷ 0x00 ∷ 0x00 ∷ 0x01 ∷ 0x01 ∷ 0x00 ∷ 0x01 ∷ 0x02 ∷ 0x00 ∷ 0x01 ∷ 0x04 ∷ 0x01 ∷ 0x00 ∷ 0x06 ∷ 0x00 ∷ 0x01 ∷ 0x06 ∷ 0x02 ∷ 0x03 ∷ 0x00 ∷ 0x04 ∷ 0x02 ∷ 0x00 ∷ 0x06 ∷ 0x00 ∷ 0x01 ∷ 0x06 ∷ 0x00 ∷ 0x01 ∷ 0x06 ∷ 0x00 ∷ 0x01 ∷ 0x00 ∷ []

-- A charter, by the permissions of its groups: 0, 1 and 2 of kind 0, where 1 stands below 0 and again below 2, and 0 of kind 1.
abbrev charter_of : List ℕ → List ℕ → List ℕ → List ℕ → List ℕ
charter_of zero one two other =
    0x02 ∷ 0x00 ∷ 0x00 ∷ (zero ++ (0x02 ∷ 0x01 ∷ (one ++ (0x00 ∷ 0x02 ∷ (two ++ (0x01 ∷ 0x01 ∷ (one ++ (0x00
    ∷ 0x01 ∷ 0x00 ∷ (other ++ (0x01 ∷ 0x01 ∷ 0x00 ∷ 0x00 ∷ []))))))))))

-- A count for group 0, alone; with read; with a count for group 3.
abbrev gives : ℕ → List ℕ
gives count = 0x10 ∷ 0x01 ∷ 0x00 ∷ count ∷ 0x00 ∷ []

abbrev reads : List ℕ
reads = 0x11 ∷ 0x01 ∷ 0x00 ∷ 0x01 ∷ 0x00 ∷ []

abbrev lists : List ℕ
lists = 0x10 ∷ 0x02 ∷ 0x00 ∷ 0x01 ∷ 0x00 ∷ 0x03 ∷ 0x07 ∷ 0x00 ∷ []

-- A count for group 0 and purpose 0.
abbrev gives_for : ℕ → List ℕ
gives_for count = 0x30 ∷ 0x01 ∷ 0x00 ∷ count ∷ 0x00 ∷ 0x01 ∷ 0x00 ∷ []

-- Of kind 0 group 0 gives 4 and groups 1 and 2 give 1 each; of kind 1 group 0 gives 1. And the same with group 0 giving without limit.
abbrev four : List ℕ
four = charter_of (gives 4) reads lists (gives 1)

abbrev free : List ℕ
free = charter_of (0x10 ∷ 0x01 ∷ 0x00 ∷ 0xFF ∷ 0xFF ∷ []) reads lists (gives 1)

-- The first with group 0 giving for purpose 0 alone.
abbrev ordinary : List ℕ
ordinary = charter_of (gives_for 4) reads lists (gives 1)

abbrev trees_of : Read (List Tree) → List Tree
trees_of (got policy next) = policy
trees_of (refused question at) = []

abbrev policy_in : List ℕ → List Tree
policy_in charter = trees_of (read_policy charter)

pub data Row : Type 0 where
  -- charter, kind, group, group disclosed to, by how much; the charter so trimmed, and the question that then fails, or 0
  row : List ℕ → ℕ → ℕ → ℕ → ℕ → List ℕ → ℕ → Row

abbrev trimmed : Row → List Tree
trimmed (row charter kind g h by after number) = lower kind g h by (policy_in charter)

abbrev written : Row → List Tree
written (row charter kind g h by after number) = policy_in after

abbrev number_of : Asked Accepted → ℕ
number_of (passed a) = 0
number_of (failed number) = number

abbrev answered : Row → ℕ
answered (row charter kind g h by after number) = number_of (judged_from (sheet_of sheet charter) (got (lower kind g h by (policy_in charter)) 0))

abbrev wanted : Row → ℕ
wanted (row charter kind g h by after number) = number

pub rows : List Row
rows =
    -- by the slack; by one more; by all that there is, so that the list goes, and bit 4 with it
    row four 0 0 0 2 (charter_of (gives 2) reads lists (gives 1)) 0 ∷
    row four 0 0 0 3 (charter_of (gives 1) reads lists (gives 1)) 18 ∷
    row four 0 0 0 4 (charter_of (0x00 ∷ []) reads lists (gives 1)) 18 ∷
    -- group 1, at its two nodes, by its slack: the count comes to 0, and only read is left
    row four 0 1 0 4 (charter_of (gives 4) (0x01 ∷ []) lists (gives 1)) 0 ∷
    -- group 2: the count for group 0 leaves, and the one for group 3 stays, with its bit
    row four 0 2 0 1 (charter_of (gives 4) reads (0x10 ∷ 0x01 ∷ 0x03 ∷ 0x07 ∷ 0x00 ∷ []) (gives 1)) 0 ∷
    -- the tree of kind 1, without slack
    row four 1 0 0 1 (charter_of (gives 4) reads lists (0x00 ∷ [])) 18 ∷
    -- unlimited stays
    row free 0 0 0 4095 free 0 ∷
    -- group 0 gives for purpose 0 alone: its purposes stay, without the list too
    row ordinary 0 0 0 2 (charter_of (gives_for 2) reads lists (gives 1)) 0 ∷
    row ordinary 0 0 0 4 (charter_of (0x20 ∷ 0x01 ∷ 0x00 ∷ []) reads lists (gives 1)) 18 ∷
    []

lowered_written : map trimmed rows ≡ map written rows
unfolding computed rows lowered item_then lower_list without_list map_for lower_permissions lower_at lower_nodes lower_node lower_tree lower
lowered_written = refl

rows_answered : map answered rows ≡ map wanted rows
unfolding computed rows lowered item_then lower_list without_list map_for lower_permissions lower_at lower_nodes lower_node lower_tree lower
rows_answered = refl

-- The slack of kind, group and group disclosed to: the least of two entries', that of one, no smaller one of another kind, and none told (a group in
-- no path, a group not disclosed to, a count without limit).
abbrev slack : Read Sheet → List Tree → ℕ → ℕ → ℕ → Count
slack (got read next) policy kind g h = least_slack policy (required_of read) kind g h (interface read)
slack (refused question at) policy kind g h = fin 0

abbrev slack_at : List ℕ → ℕ → ℕ → ℕ → Count
slack_at charter kind g h = slack (sheet_of sheet charter) (policy_in charter) kind g h

slacks : slack_at four 0 0 0 ∷ slack_at four 0 1 0 ∷ slack_at four 0 2 0 ∷ slack_at four 1 0 0 ∷ slack_at four 0 3 0 ∷ slack_at four 0 0 3 ∷ slack_at free 0 0 0 ∷ []
    ≡ fin 2 ∷ fin 4 ∷ fin 2 ∷ fin 0 ∷ unlimited ∷ unlimited ∷ unlimited ∷ []
unfolding computed left_over lesser least slack_of slack_in draws_on least_slack
slacks = refl
