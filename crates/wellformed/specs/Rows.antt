-- Questions 13 to 15 over the rows of a tree, as the code asks them.
use Rattle.std.specs.Prelude.{ℕ, zero, suc, List, [], ◌∷◌, ◌++◌, map, Bool, true, false, cond, not, ◌&&◌, ◌||◌, get_or, set, take, ltb}
use Rattle.reading.specs.Forms.{member}
use Rattle.inference.specs.Lists.{every}
use Rattle.policy.specs.Syntax.{Granted, Permissions, Head, has_bit}
use Rattle.policy.specs.WellFormed.{same_permissions, disclosed_to, groups_at, Met, node_fault, first_fault}
use Rattle.policy.specs.Rows.{node_at, permissions_of, Flat}

-- The nodes of a tree's rows as they are met: `above` holds by depth the groups on the way down, `earlier` the nodes before.
unfoldable pub met_rows : List ℕ → List Head → List Flat → List Met
met_rows above earlier [] = []
met_rows above earlier (f ∷ later) =
    record { head = f.head; above = take f.depth above; earlier = earlier }
    ∷ met_rows (set above f.depth f.head.group) (earlier ++ (f.head ∷ [])) later

-- 13 and 14 over rows: the question that the first node with a fault fails, or 0.
unfoldable pub heads_fault : List ℕ → List Head → List Flat → ℕ
heads_fault above earlier fs = first_fault (map node_fault (met_rows above earlier fs))

-- 14 against one node, that of the row before `next`; where `next` is 0 there is none.
unfoldable pub same_as_last : List ℕ → List ℕ → ℕ → Permissions → Bool
same_as_last c nodes zero p = true
same_as_last c nodes (suc row) p = same_permissions (permissions_of c (node_at nodes row).permissions) p

unfoldable pub heads_in : List Flat → List Head
heads_in fs = map (λ f. f.head) fs

-- The nodes below one at a depth: those that follow it, as long as they stand deeper.
unfoldable pub below_in : ℕ → List Flat → List Flat
below_in depth [] = []
below_in depth (f ∷ later) = cond (ltb depth f.depth) (f ∷ below_in depth later) []

-- 15 over a tree's rows.
unfoldable pub kept_in : Flat → List Flat → Bool
kept_in f below =
    not (has_bit 8 f.head.permissions.map)
    || every (λ h. member h (f.head.group ∷ groups_at (heads_in below))) (disclosed_to (heads_in below))

unfoldable pub all_kept : List Flat → Bool
all_kept [] = true
all_kept (f ∷ later) = kept_in f (below_in f.depth later) && all_kept later

-- The groups of the first node and of the nodes below it.
unfoldable pub fence_of : List Flat → List ℕ
fence_of [] = []
fence_of (f ∷ later) = f.head.group ∷ groups_at (heads_in (below_in f.depth later))

unfoldable pub is_marked : List Bool → ℕ → Bool
is_marked marks h = get_or marks h false

-- Are all of these groups marked?
unfoldable pub all_marked : List Bool → List ℕ → Bool
all_marked marks hs = every (λ h. ltb h 64 && is_marked marks h) hs

-- the groups that a list discloses to
unfoldable pub listed_groups : List Granted → List ℕ
listed_groups ds = map (λ d. d.group) ds
