-- Trimming a policy (document 02, Q-5): "Editors trim charters and want the slack." One group's count for another is lowered in the
-- tree of a kind; and the slack says by how much it may be.
use Rattle.std.specs.Prelude.{ℕ, ◌-◌, ◌≡◌, List, [], ◌∷◌, map, Bool, true, cond, ◌&&◌, eqb}
use Rattle.reading.specs.Read.{got}
use Rattle.reading.specs.System.{sheet_of}
use Rattle.reading.specs.Forms.{member}
use Rattle.inference.specs.Lists.{only}
use Rattle.inference.specs.Counts.{Count, fin, unlimited, at_most}
use Rattle.inference.specs.Interface.{Entry, Required, is_empty, required_of, interface}
use Rattle.policy.specs.Syntax.{Granted, Permissions, Nodes, none, more, Node, Tree, has_bit}
use Rattle.fit.specs.Satisfies.{Verdict, flag, counts, covering}
use Rattle.service.specs.Questions.{Accepted, passed, judged_from, judged}

-- A stored count, lowered: 65,535, which is unlimited, stays.
unfoldable pub lowered : ℕ → ℕ → ℕ
lowered by n = cond (eqb n 65535) n (n - by)

-- An item before others: one that comes to 0 leaves.
unfoldable pub item_then : Granted → List Granted → List Granted
item_then d rest = cond (eqb d.count 0) rest (d ∷ rest)

-- A list with the count of group h lowered `by` so many; every other item stays.
unfoldable pub lower_list : ℕ → ℕ → List Granted → List Granted
lower_list h by [] = []
lower_list h by (d ∷ rest) =
    cond (eqb d.group h) (item_then (record { group = d.group; count = lowered by d.count }) (lower_list h by rest)) (d ∷ lower_list h by rest)

-- A map without bit 4, "disclose list".
unfoldable pub without_list : ℕ → ℕ
without_list map = cond (has_bit 16 map) (map - 16) map

-- The map for a list: a stored list is never empty, so bit 4 goes with the last item.
unfoldable pub map_for : List Granted → ℕ → ℕ
map_for list map = cond (is_empty list) (without_list map) map

-- A map and its list; the purposes stay.
unfoldable pub lower_permissions : ℕ → ℕ → Permissions → Permissions
lower_permissions h by p = record { map = map_for (lower_list h by p.list) p.map; list = lower_list h by p.list; purposes = p.purposes }

-- What a node of group n has, where the nodes of group g are lowered.
unfoldable pub lower_at : ℕ → ℕ → ℕ → ℕ → Permissions → Permissions
lower_at g h by n p = cond (eqb n g) (lower_permissions h by p) p

-- "no node whose group stands at an earlier node of its tree with another map or list" (14): all nodes of group g alike.
unfoldable pub lower_nodes : ℕ → ℕ → ℕ → Nodes → Nodes
lower_nodes g h by none = none
lower_nodes g h by (more n p below rest) = more n (lower_at g h by n p) (lower_nodes g h by below) (lower_nodes g h by rest)

-- A node with all below it.
unfoldable pub lower_node : ℕ → ℕ → ℕ → Node → Node
lower_node g h by n =
    record { group = n.group; permissions = lower_at g h by n.group n.permissions; below = lower_nodes g h by n.below }

-- A tree of another kind stays.
unfoldable pub lower_tree : ℕ → ℕ → ℕ → ℕ → Tree → Tree
lower_tree kind g h by t = record { kind = t.kind; root = cond (eqb t.kind kind) (lower_node g h by t.root) t.root }

-- A policy with the count for group h of group g lowered in the tree of a kind.
unfoldable pub lower : ℕ → ℕ → ℕ → ℕ → List Tree → List Tree
lower kind g h by policy = map (lower_tree kind g h by) policy

-- What is left of a granted count beside the needed one.
unfoldable pub left_over : Count → Count → Count
left_over (fin n) (fin m) = fin (m - n)
left_over (fin n) unlimited = unlimited
left_over unlimited (fin m) = fin 0
left_over unlimited unlimited = unlimited

-- The smaller of two counts.
unfoldable pub lesser : Count → Count → Count
lesser a b = cond (at_most a b) a b

-- The least count of a list's elements; unlimited where there is none.
unfoldable pub least : {A : Type 0} → (A → Count) → List A → Count
least count [] = unlimited
least count (x ∷ xs) = lesser (count x) (least count xs)

-- The slack that a verdict tells for group h, "the granted sum beside the needed one".
unfoldable pub slack_of : ℕ → Verdict → Count
slack_of h (flag p granted) = unlimited
slack_of h (counts i needed granted) = cond (eqb i h) (left_over needed granted) unlimited

-- The slack that an entry's covering tells for group h.
unfoldable pub slack_in : ℕ → List Verdict → Count
slack_in h verdicts = least (slack_of h) verdicts

-- An entry that a kind's tree gives to through group g.
unfoldable pub draws_on : ℕ → ℕ → Entry → Bool
draws_on kind g e = eqb e.kind kind && member g e.component.path

-- The smallest slack told for group h among the entries that draw on group g.
unfoldable pub least_slack : List Tree → Required → ℕ → ℕ → ℕ → List Entry → Count
least_slack policy required kind g h entries = least (λ e. slack_in h (covering policy required e)) (only (draws_on kind g) entries)

-- The slack is worth telling: lower the count for a group h of one group g, at all its nodes of a kind's tree alike, by at most the
-- smallest slack told for h among the entries of that kind whose path has g, and the sheet is still accepted.
abbrev pub AlwaysAccepted : Type 0
AlwaysAccepted =
    (s c : List ℕ) (a : Accepted) → judged s c ≡ passed a → (kind g h by : ℕ)
    → at_most (fin by) (least_slack a.policy (required_of a.sheet) kind g h (interface a.sheet)) ≡ true
    → (end : ℕ) → judged_from (sheet_of s c) (got (lower kind g h by a.policy) end) ≡ passed (record { sheet = a.sheet; policy = lower kind g h by a.policy })
