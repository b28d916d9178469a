-- A policy in the two dialects: what the old reader reads is what the current one reads, where no node has a purpose map. Nothing but
-- the range of a map differs, and a map below 64 is below 32 exactly where bit 5 does not stand.
use Prim.Native.Nat.{ℕ, zero, suc, ◌+◌, ◌/◌, ◌<◌, ◌≤◌}
use mathlib.Core.Bool.{Bool, true, false, cond, not, ◌&&◌, and_assoc}
use mathlib.Core.List.{List, [], append-nil}
use mathlib.Core.Path.{◌≡◌, refl, sym, ◌∙◌}
use native.Mathlib.Omega.{arith}
use borrow.Author.Tests.{ltb-true, ltb-false}
use lib.Dec.{ltb, eqb}
use lib.ListN.{length}
use Rattle.inference.specs.Lists.{every}
use Rattle.reading.proofs.Parts.{never, Every, every_then, every_cond}
use Rattle.reading.specs.Read.{Read, got, refused, and_then, byte_at, below}
use Rattle.reading.specs.System.{to_its_end}
use Rattle.reading.specs.declared.Dialect.TheVariants.{Old as old, Current as current}
use Rattle.inference.proofs.EveryLaws.{every_append}
use Rattle.policy.specs.Syntax.{Permissions, Node, Nodes, none, more, Tree, has_bit, alone, heads, heads_of}
use Rattle.policy.specs.Reading.{as_eleven, must, counted_list, read_purposes, maps_in, read_permissions_in, read_permissions, children, read_node_in, read_node, read_trees_in, read_trees, read_policy_in, read_policy, unmapped, without_maps}

-- `x` reads what `y` reads where that is `ok`, and nothing else.
data Keeps {A : Type 0} (ok : A → Bool) : Read A → Read A → Type 0 where
  kept : {a : A} {k : ℕ} → ok a ≡ true → Keeps ok (got a k) (got a k)
  dropped : {a : A} {k q p : ℕ} → ok a ≡ false → Keeps ok (refused q p) (got a k)
  neither : {q p i j : ℕ} → Keeps ok (refused q p) (refused i j)

-- Where nothing of `z` is ok, nothing is kept.
none_kept : {A : Type 0} (ok : A → Bool) (z : Read A) {q p : ℕ} → Every (λ a. ok a ≡ false) z → Keeps ok (refused q p) z
unfolding Every
none_kept ok (got a k) e = dropped e
none_kept ok (refused i j) e = neither

-- Where all of `z` is ok, all is kept.
all_kept_lem : {A : Type 0} (ok : A → Bool) (z : Read A) → Every (λ a. ok a ≡ true) z → Keeps ok z z
unfolding Every
all_kept_lem ok (got a k) e = kept e
all_kept_lem ok (refused i j) e = neither

-- One reading after another: where the first is not ok, the whole is not fine.
keeps_then : {A B : Type 0} {ok : A → Bool} {fine : B → Bool} {x y : Read A} {f g : A → ℕ → Read B} → Keeps ok x y
    → ((a : A) (k : ℕ) → ok a ≡ true → Keeps fine (f a k) (g a k)) → ((a : A) (k : ℕ) → ok a ≡ false → Every (λ b. fine b ≡ false) (g a k))
    → Keeps fine (and_then x f) (and_then y g)
unfolding and_then
keeps_then (kept {a} {k} e) h n = h a k e
keeps_then {fine = fine} {g = g} (dropped {a} {k} e) h n = none_kept fine (g a k) (n a k e)
keeps_then neither h n = neither

-- The same, where the first is read alike.
keeps_after : {A B : Type 0} {fine : B → Bool} (x : Read A) {f g : A → ℕ → Read B} → ((a : A) (k : ℕ) → Keeps fine (f a k) (g a k))
    → Keeps fine (and_then x f) (and_then x g)
unfolding and_then
keeps_after (got a k) h = h a k
keeps_after (refused q p) h = neither

keeps_must : {A : Type 0} {ok : A → Bool} (t : Bool) (at : ℕ) {x y : Read A} → Keeps ok x y → Keeps ok (must t at x) (must t at y)
unfolding must
keeps_must true at h = h
keeps_must false at h = neither

-- A map below 64: bit 5 stands exactly where it is not below 32.
low_map : (b : ℕ) → b < 32 → not (has_bit 32 b) ≡ true
unfolding has_bit
low_map b h = let z : b / 32 ≡ 0 = omega arith in rw z

high_map : (b : ℕ) → 32 ≤ b → b < 64 → not (has_bit 32 b) ≡ false
unfolding has_bit
high_map b h l = let z : b / 32 ≡ 1 = omega arith in rw z

byte_kept : (b k at : ℕ) (t u : Bool) → ltb b 32 ≡ t → ltb b 64 ≡ u
    → Keeps (λ map. not (has_bit 32 map)) (cond t (got b k) (refused 4 at)) (cond u (got b k) (refused 4 at))
byte_kept b k at true true e f = kept (low_map b (ltb-true b 32 e))
byte_kept b k at false true e f = dropped (high_map b (ltb-false b 32 e) (ltb-true b 64 f))
byte_kept b k at false false e f = neither
byte_kept b k at true false e f = absurd (omega (arith, ltb-true b 32 e, ltb-false b 64 f))

map_kept : (s : List ℕ) (at : ℕ) → Keeps (λ map. not (has_bit 32 map)) (below (maps_in old) s at) (below (maps_in current) s at)
unfolding below maps_in
map_kept s at = keeps_after (byte_at s at) (λ b k. byte_kept b k at (ltb b 32) (ltb b 64) refl refl)

-- Permissions, by their map alone.
abbrev plain : Permissions → Bool
plain p = not (has_bit 32 p.map)

permissions_kept : (s : List ℕ) (at : ℕ) → Keeps plain (read_permissions_in old s at) (read_permissions s at)
unfolding Every read_permissions_in
permissions_kept s at =
    keeps_then (map_kept s at) (λ map m t. all_kept_lem plain _ (of_map map m true t)) (λ map m t. of_map map m false t)
  where
    of_map : (map m : ℕ) (t : Bool) → not (has_bit 32 map) ≡ t → Every (λ p. plain p ≡ t)
        (and_then (cond (has_bit 16 map) (counted_list s m) (got [] m)) (λ list k.
        and_then (read_purposes map s k) (λ purposes e. got (record { map = map; list = list; purposes = purposes }) e)))
    of_map map m t h = every_then (λ p. plain p ≡ t) _ _ (λ list k _. every_then (λ p. plain p ≡ t) (read_purposes map s k) _ (λ purposes e _. h))

-- A node and the nodes below it, and nodes side by side.
abbrev plain_nodes : Nodes → Bool
plain_nodes ns = every unmapped (heads_of ns)

abbrev plain_node : Node → Bool
plain_node n = every unmapped (heads n)

of_node : (g : ℕ) (p : Permissions) (ns : Nodes) → plain_node (record { group = g; permissions = p; below = ns }) ≡ (plain p && plain_nodes ns)
unfolding heads alone heads_of every unmapped
of_node g p ns = rw (append-nil (heads_of ns))

of_none : plain_nodes none ≡ true
unfolding heads_of every
of_none = refl

of_nodes : (n : Node) (rest : Nodes) → plain_nodes (more n.group n.permissions n.below rest) ≡ (plain_node n && plain_nodes rest)
unfolding heads alone heads_of every unmapped
of_nodes n rest =
    rw (append-nil (heads_of n.below), every_append unmapped (heads_of n.below) (heads_of rest))
    (sym (and_assoc (plain n.permissions) (plain_nodes n.below) (plain_nodes rest)))

children_kept : (before now : ℕ → ℕ → Read Node) → ((used at : ℕ) → Keeps plain_node (before used at) (now used at))
    → (n used at : ℕ) → Keeps plain_nodes (children before n used at) (children now n used at)
unfolding Every children
children_kept before now h zero used at = kept of_none
children_kept before now h (suc n) used at =
    keeps_then (h used at)
    (λ first m t. keeps_then (children_kept before now h n (used + length (heads first)) m)
    (λ rest k u. kept (of_nodes first rest ∙ rw (t, u))) (λ rest k u. of_nodes first rest ∙ rw (t, u)))
    (λ first m t. every_then (λ ns. plain_nodes ns ≡ false) _ _ (λ rest k _. of_nodes first rest ∙ rw t))

node_kept : (depth : ℕ) (s : List ℕ) (used at : ℕ) → Keeps plain_node (read_node_in old depth s used at) (read_node depth s used at)
unfolding Every read_node_in
node_kept zero s used at = neither
node_kept (suc depth) s used at =
    keeps_must (ltb used 64) at (keeps_after (below 64 s at) (λ g m.
    keeps_then (permissions_kept s m)
    (λ p k t. keeps_after (byte_at s k) (λ n e.
    keeps_then (children_kept (λ u i. read_node_in old depth s u i) (λ u i. read_node depth s u i) (λ u i. node_kept depth s u i) n (used + 1) e)
    (λ ns end u. kept (of_node g p ns ∙ rw (t, u))) (λ ns end u. of_node g p ns ∙ rw (t, u))))
    (λ p k t. every_then (λ n. plain_node n ≡ false) (byte_at s k) _ (λ n e _. every_then (λ n. plain_node n ≡ false) _ _ (λ ns end _. of_node g p ns ∙ rw t)))))

-- Trees, and a policy to its end.
trees_kept : (n : ℕ) (s : List ℕ) (used at : ℕ) → Keeps without_maps (read_trees_in old n s used at) (read_trees n s used at)
unfolding Every read_trees_in without_maps every
trees_kept zero s used at = kept refl
trees_kept (suc n) s used at =
    keeps_after (below 16 s at) (λ kind m.
    keeps_then (node_kept 8 s used m)
    (λ root k t. keeps_then (trees_kept n s (used + length (heads root)) k) (λ rest e u. kept (rw (t, u))) (λ rest e u. rw (t, u)))
    (λ root k t. every_then (λ trees. without_maps trees ≡ false) _ _ (λ rest e _. rw t)))

to_its_end_lem : (s : List ℕ) (trees : List Tree) (k : ℕ) (t : Bool) → without_maps trees ≡ t → Every (λ p. without_maps p ≡ t) (to_its_end s trees k)
unfolding Every to_its_end
to_its_end_lem s trees k t h = every_cond (λ p. without_maps p ≡ t) (eqb k (length s)) (got trees k) (refused 3 k) h tt

whole_kept : (s : List ℕ) → Keeps without_maps
    (and_then (below 17 s 0) (λ n m. and_then (read_trees_in old n s 0 m) (λ trees k. to_its_end s trees k)))
    (and_then (below 17 s 0) (λ n m. and_then (read_trees n s 0 m) (λ trees k. to_its_end s trees k)))
whole_kept s =
    keeps_after (below 17 s 0) (λ n m. keeps_then (trees_kept n s 0 m)
    (λ trees k t. all_kept_lem without_maps _ (to_its_end_lem s trees k true t)) (λ trees k t. to_its_end_lem s trees k false t))

never_both : {t : Bool} {P : Type 0} → t ≡ true → t ≡ false → P
never_both e f = let z : ◌≡◌ {A = ℕ} 0 1 = cc in absurd (omega arith)

-- A charter that reads and has no purpose map was read just so before Q-6.
pub now_as_before : (c : List ℕ) {p : List Tree} {k : ℕ} → read_policy c ≡ got p k → without_maps p ≡ true → read_policy_in old c ≡ got p k
unfolding read_policy_in as_eleven
now_as_before c {p} {k} e w = by_kept (whole_kept c) e
  where
    by_kept : {x y : Read (List Tree)} → Keeps without_maps x y → as_eleven y ≡ got p k → as_eleven x ≡ got p k
    by_kept (kept t) f = f
    by_kept (dropped {a} t) f = let z : a ≡ p = cc in never_both w (rw z at t)
    by_kept neither f = never f

-- What was read before Q-6 is read just so now, and has no purpose map.
pub before_as_now : (c : List ℕ) {p : List Tree} {k : ℕ} → read_policy_in old c ≡ got p k → (read_policy c ≡ got p k) × (without_maps p ≡ true)
unfolding read_policy_in as_eleven
before_as_now c {p} {k} e = by_kept (whole_kept c) e
  where
    by_kept : {x y : Read (List Tree)} → Keeps without_maps x y → as_eleven x ≡ got p k → (as_eleven y ≡ got p k) × (without_maps p ≡ true)
    by_kept (kept {a} t) f = let z : a ≡ p = cc in (f, rw z at t)
    by_kept (dropped t) f = never f
    by_kept neither f = never f

-- So a charter that has no purpose map, if it reads at all, is answered alike in both: the same trees, or question 11.
pub data AlikeRead (c : List ℕ) : Type 0 where
  both_read : {p : List Tree} {k : ℕ} → read_policy c ≡ got p k → read_policy_in old c ≡ got p k → AlikeRead c
  neither_read : {i j : ℕ} → read_policy c ≡ refused 11 i → read_policy_in old c ≡ refused 11 j → AlikeRead c

pub alike_read : (c : List ℕ) → Every (λ p. without_maps p ≡ true) (read_policy c) → AlikeRead c
unfolding read_policy_in as_eleven Every
alike_read c h = by_kept (whole_kept c) refl refl h
  where
    by_kept : {x y : Read (List Tree)} → Keeps without_maps x y → read_policy c ≡ as_eleven y → read_policy_in old c ≡ as_eleven x
        → Every (λ p. without_maps p ≡ true) (as_eleven y) → AlikeRead c
    by_kept (kept t) e f w = both_read e f
    by_kept (dropped t) e f w = never_both w t
    by_kept neither e f w = neither_read e f
