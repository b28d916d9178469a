-- What each list of a policy has, since it was read (question 11): its counts are 1 to 4,095 or 65,535, and its groups strictly rise. Each is
-- tested where an item is read; that every list of the policy then has it is one law, for any such property (`policy_lists`).
use Prim.Native.Nat.{ℕ, zero, suc, ◌+◌}
use mathlib.Core.Bool.{Bool, true, false, ◌&&◌}
use mathlib.Core.List.{List, [], ◌∷◌}
use mathlib.Core.Path.{◌≡◌, refl}
use lib.Dec.{leb, eqb}
use lib.ListN.{length}
use Rattle.inference.specs.Lists.{every}
use Rattle.reading.proofs.Parts.{Every, of_found, every_then, every_cond}
use Rattle.reading.specs.Read.{Read, got, refused, byte_at, below}
use Rattle.reading.specs.System.{to_its_end}
use Rattle.policy.specs.Syntax.{Granted, Permissions, Node, Nodes, none, more, Tree, alone, has_bit, heads}
use Rattle.policy.specs.Reading.{as_eleven, must, two_bytes, is_count, item_at, read_list, counted_list, read_purposes, maps_in, read_permissions_in, read_permissions, children, read_node_in, read_node, read_trees_in, read_trees, read_policy_in, read_policy}

-- Nodes whose lists have a property, and trees of such nodes.
pub data Lists (Q : List Granted → Type 0) : Nodes → Type 0 where
  lists_none : Lists Q none
  lists_more : {g : ℕ} {p : Permissions} {below rest : Nodes} → Q p.list → Lists Q below → Lists Q rest → Lists Q (more g p below rest)

pub data AllLists (Q : List Granted → Type 0) : List Tree → Type 0 where
  all_none : AllLists Q []
  all_more : {t : Tree} {rest : List Tree} → Lists Q (alone t.root) → AllLists Q rest → AllLists Q (t ∷ rest)

-- What must hold holds of what is read.
every_must : {A : Type 0} (P : A → Type 0) (t : Bool) (at : ℕ) (x : Read A) → (t ≡ true → Every P x) → Every P (must t at x)
unfolding Every must
every_must P true at x h = h refl
every_must P false at x h = tt

every_eleven : {A : Type 0} (P : A → Type 0) (x : Read A) → Every P x → Every P (as_eleven x)
unfolding Every as_eleven
every_eleven P (got a k) h = h
every_eleven P (refused q p) h = tt

-- A property that no list has to be asked for, and that each list has where it is read.
module _ (Q : List Granted → Type 0) (empty : Q []) (read_so : (s : List ℕ) (at : ℕ) → Every Q (counted_list s at)) where
  permissions_lists : (s : List ℕ) (at : ℕ) → Every (λ p. Q p.list) (read_permissions s at)
  unfolding Every maps_in read_permissions_in
  permissions_lists s at =
      every_then P (below 64 s at) _ (λ map m _. every_then P _ _ (λ list k e. every_then P (read_purposes map s k) _ (λ purposes i _.
      of_found Q _ (every_cond Q (has_bit 16 map) (counted_list s m) (got [] m) (read_so s m) empty) e)))
    where
      P : Permissions → Type 0
      P p = Q p.list

  -- Nodes and trees.
  beside : (n : Node) (rest : Nodes) → Lists Q (alone n) → Lists Q rest → Lists Q (more n.group n.permissions n.below rest)
  unfolding alone
  beside n rest (lists_more l b z) c = lists_more l b c

  children_lists : (read : ℕ → ℕ → Read Node) → ((used at : ℕ) → Every (λ n. Lists Q (alone n)) (read used at))
      → (n used at : ℕ) → Every (Lists Q) (children read n used at)
  unfolding Every children
  children_lists read h zero used at = lists_none
  children_lists read h (suc n) used at =
      every_then (Lists Q) (read used at) _ (λ first m e. every_then (Lists Q) (children read n (used + length (heads first)) m) _ (λ rest k f.
      beside first rest (of_found _ (read used at) (h used at) e) (of_found (Lists Q) _ (children_lists read h n (used + length (heads first)) m) f)))

  node_lists : (depth : ℕ) (s : List ℕ) (used at : ℕ) → Every (λ n. Lists Q (alone n)) (read_node depth s used at)
  unfolding Every read_node_in alone
  node_lists zero s used at = tt
  node_lists (suc depth) s used at =
      every_must P _ at _ (λ _. every_then P (below 64 s at) _ (λ g m _. every_then P (read_permissions s m) _ (λ p k e.
      every_then P (byte_at s k) _ (λ n i _. every_then P (children (λ u j. read_node depth s u j) n (used + 1) i) _ (λ nodes end f.
      lists_more (of_found _ (read_permissions s m) (permissions_lists s m) e)
      (of_found (Lists Q) _ (children_lists (λ u j. read_node depth s u j) (λ u j. node_lists depth s u j) n (used + 1) i) f) lists_none)))))
    where
      P : Node → Type 0
      P n = Lists Q (alone n)

  trees_lists : (n : ℕ) (s : List ℕ) (used at : ℕ) → Every (AllLists Q) (read_trees n s used at)
  unfolding Every read_trees_in
  trees_lists zero s used at = all_none
  trees_lists (suc n) s used at =
      every_then (AllLists Q) (below 16 s at) _ (λ kind m _. every_then (AllLists Q) (read_node 8 s used m) _ (λ root k e.
      every_then (AllLists Q) (read_trees n s (used + length (heads root)) k) _ (λ rest i f.
      all_more (of_found _ (read_node 8 s used m) (node_lists 8 s used m) e) (of_found (AllLists Q) _ (trees_lists n s (used + length (heads root)) k) f))))

  -- A policy that was read.
  pub policy_lists : (s : List ℕ) → Every (AllLists Q) (read_policy s)
  unfolding Every read_policy_in to_its_end
  policy_lists s =
      every_eleven (AllLists Q) _ (every_then (AllLists Q) (below 17 s 0) _ (λ n m _. every_then (AllLists Q) (read_trees n s 0 m) _ (λ trees k e.
      every_cond (AllLists Q) (eqb k (length s)) (got trees k) (refused 3 k) (of_found (AllLists Q) _ (trees_lists n s 0 m) e) tt)))

-- An item: its count is one, and its group is not below the lowest.
pub record ItemFits (lowest : ℕ) (d : Granted) : Type 0 where
  pub low : leb lowest d.group ≡ true
  pub count : is_count d.count ≡ true

item_fits : (s : List ℕ) (lowest at : ℕ) → Every (ItemFits lowest) (item_at s lowest at)
unfolding Every item_at
item_fits s lowest at =
    every_then P (below 64 s at) _ (λ g m _. every_must P _ at _ (λ l. every_then P (two_bytes s m) _ (λ n k _. every_must P (is_count n) m _ (λ t. record { low = l; count = t }))))
  where
    P : Granted → Type 0
    P = ItemFits lowest

-- A list of such counts, and one whose groups strictly rise, the first not being below the lowest.
unfoldable pub in_counts : List Granted → Bool
in_counts ds = every (λ d. is_count d.count) ds

unfoldable pub rises_from : ℕ → List Granted → Bool
rises_from lowest [] = true
rises_from lowest (d ∷ ds) = leb lowest d.group && rises_from (d.group + 1) ds

pub record ListFits (lowest : ℕ) (ds : List Granted) : Type 0 where
  pub counts : in_counts ds ≡ true
  pub rises : rises_from lowest ds ≡ true

none_fits : (lowest : ℕ) → ListFits lowest []
none_fits lowest = record { counts = unfold in_counts every in refl; rises = unfold rises_from in refl }

one_more : (lowest : ℕ) (d : Granted) (ds : List Granted) → ItemFits lowest d → ListFits (d.group + 1) ds → ListFits lowest (d ∷ ds)
one_more lowest d ds i l = record { counts = unfold in_counts every in rw i.count l.counts; rises = unfold rises_from in rw i.low l.rises }

list_fits : (n : ℕ) (s : List ℕ) (lowest at : ℕ) → Every (ListFits lowest) (read_list n s lowest at)
unfolding Every read_list
list_fits zero s lowest at = none_fits lowest
list_fits (suc n) s lowest at =
    every_then (ListFits lowest) (item_at s lowest at) _ (λ d m e. every_then (ListFits lowest) (read_list n s (d.group + 1) m) _ (λ rest k f.
    one_more lowest d rest (of_found _ (item_at s lowest at) (item_fits s lowest at) e)
    (of_found (ListFits (d.group + 1)) (read_list n s (d.group + 1) m) (list_fits n s (d.group + 1) m) f)))

counted_fits : (s : List ℕ) (at : ℕ) → Every (ListFits 0) (counted_list s at)
unfolding Every counted_list
counted_fits s at = every_then (ListFits 0) (below 65 s at) _ (λ n k _. every_must (ListFits 0) _ at _ (λ _. list_fits n s 0 k))

-- Each list of a policy that was read fits.
pub policy_fits : (s : List ℕ) → Every (AllLists (ListFits 0)) (read_policy s)
policy_fits s = policy_lists (ListFits 0) (none_fits 0) counted_fits s
