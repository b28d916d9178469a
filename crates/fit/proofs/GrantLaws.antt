-- What a path reaches in a tree and what the reached nodes give, read off the tree's rows: the same as the definitions over the
-- tree itself. A subtree's rows stand deeper than those that follow it, so a depth says where what lies below a node ends.
use Prim.Native.Nat.{ℕ, zero, suc, ◌+◌, ◌≤◌, ◌<◌}
use mathlib.Core.Path.{◌≡◌, refl, sym, ap, ◌∙◌}
use mathlib.Core.Bool.{Bool, true, false, cond, ◌||◌}
use mathlib.Core.List.{List, [], ◌∷◌, ◌++◌, map, append_assoc, append-nil}
use native.Mathlib.Nat.{le_refl}
use native.Mathlib.Numerals.{add-one}
use native.Mathlib.Omega.{arith}
use borrow.Author.Tests.{le-ltb, lt-ltb}
use lib.Dec.{ltb, eqb}
use Rattle.reading.specs.Forms.{member}
use Rattle.inference.specs.Lists.{every, any, rising}
use Rattle.policy.specs.Syntax.{Permissions, Node, Nodes, none, more, Head, alone, has_bit, bit_at}
use Rattle.policy.specs.WellFormed.{groups_at}
use Rattle.fit.specs.Grants.{reached_among, reached, no_permissions, only_for, for_purpose, given_by, joined}
use Rattle.policy.specs.Rows.{Flat, node_at, permissions_of, flat_of, flats, flatten}
use Rattle.fit.specs.Givers.{reached_in, giver_in, given_at, granting_row, granting_rows, joined_at, givers_in}

-- Rows that begin at a depth of at most d, or end.
data Within (d : ℕ) : List Flat → Type 0 where
  ends : Within d []
  begins : {f : Flat} {later : List Flat} → f.depth ≤ d → Within d (f ∷ later)

abbrev row_of : ℕ → ℕ → Permissions → Flat
row_of d g p = record { head = record { group = g; permissions = p }; depth = d }

flatten_more : (d g : ℕ) (p : Permissions) (below rest : Nodes) (fs : List Flat)
    → flatten d (more g p below rest) ++ fs ≡ row_of d g p ∷ (flatten (d + 1) below ++ (flatten d rest ++ fs))
unfolding flatten
flatten_more d g p below rest fs = ap (λ (l : List Flat). row_of d g p ∷ l) (append_assoc (flatten (d + 1) below) (flatten d rest) fs)

within : (d : ℕ) (ns : Nodes) (fs : List Flat) → Within d fs → Within d (flatten d ns ++ fs)
unfolding flatten
within d none fs w = w
within d (more g p below rest) fs w = begins {f = row_of d g p} (le_refl d)

deeper : {d : ℕ} {fs : List Flat} → Within d fs → Within (d + 1) fs
deeper ends = ends
deeper (begins {f} h) = begins {f = f} (omega arith)

-- A row below the limit is passed over; at one within it the path goes on or stops.
passes : (path : List ℕ) (limit : ℕ) (f : Flat) (later : List Flat) → limit < f.depth → reached_in path limit (f ∷ later) ≡ reached_in path limit later
unfolding reached_in
passes path limit f later h = rw (lt-ltb limit f.depth h)

meets : (path : List ℕ) (limit : ℕ) (f : Flat) (later : List Flat) → f.depth ≤ limit
    → reached_in path limit (f ∷ later)
    ≡ cond (member f.head.group path) (f.head ∷ reached_in path (f.depth + 1) later) (reached_in path f.depth later)
unfolding reached_in
meets path limit f later h = rw (le-ltb limit f.depth h)

-- At rows that begin at a depth of at most d, every limit of at least d is the same.
one_deeper : (path : List ℕ) (d : ℕ) (fs : List Flat) → Within d fs → reached_in path (d + 1) fs ≡ reached_in path d fs
unfolding reached_in
one_deeper path d [] w = refl
one_deeper path d (f ∷ later) (begins h) = rw (le-ltb (d + 1) f.depth (omega arith), le-ltb d f.depth h)

passed_over : (path : List ℕ) (limit d : ℕ) (ns : Nodes) (fs : List Flat) → limit < d
    → reached_in path limit (flatten d ns ++ fs) ≡ reached_in path limit fs
unfolding flatten
passed_over path limit d none fs h = refl
passed_over path limit d (more g p below rest) fs h =
    ap (reached_in path limit) (flatten_more d g p below rest fs) ∙ passes path limit (row_of d g p) _ h
    ∙ passed_over path limit (d + 1) below (flatten d rest ++ fs) (omega arith) ∙ passed_over path limit d rest fs h

-- After a node, what lies below it and what follows.
with_below : (b : Bool) (h : Head) (x y z : List Head) (u v w : List Head) → u ≡ x ++ w → v ≡ w → w ≡ y ++ z
    → cond b (h ∷ u) v ≡ (cond b (h ∷ x) [] ++ y) ++ z
with_below true h x y z u v w p q r = rw (p, r) (ap (λ (l : List Head). h ∷ l) (sym (append_assoc x y z)))
with_below false h x y z u v w p q r = q ∙ r

reached_rows : (path : List ℕ) (d : ℕ) (ns : Nodes) (fs : List Flat) → Within d fs
    → reached_in path d (flatten d ns ++ fs) ≡ reached_among path ns ++ reached_in path d fs
unfolding flatten reached_among
reached_rows path d none fs w = refl
reached_rows path d (more g p below rest) fs w =
    ap (reached_in path d) (flatten_more d g p below rest fs) ∙ meets path d (row_of d g p) _ (le_refl d)
    ∙ with_below (member g path) (record { group = g; permissions = p }) (reached_among path below) (reached_among path rest) (reached_in path d fs)
    (reached_in path (d + 1) (flatten (d + 1) below ++ (flatten d rest ++ fs))) (reached_in path d (flatten (d + 1) below ++ (flatten d rest ++ fs)))
    (reached_in path d (flatten d rest ++ fs))
    (reached_rows path (d + 1) below (flatten d rest ++ fs) (deeper (within d rest fs w))
    ∙ ap (λ (l : List Head). reached_among path below ++ l) (one_deeper path d (flatten d rest ++ fs) (within d rest fs w)))
    (passed_over path d (d + 1) below (flatten d rest ++ fs) (omega arith))
    (reached_rows path d rest fs w)

-- A tree's rows tell what a path reaches in it.
pub reached_tree : (path : List ℕ) (root : Node) → reached_in path 0 (flatten 0 (alone root)) ≡ reached path root
unfolding reached reached_in
reached_tree path root =
    ap (reached_in path 0) (sym (append-nil (flatten 0 (alone root)))) ∙ reached_rows path 0 (alone root) [] ends ∙ append-nil (reached_among path (alone root))

flats_suc : (c nodes : List ℕ) (start n : ℕ) → flats c nodes start (suc n) ≡ flat_of c (node_at nodes start) ∷ flats c nodes (start + 1) n
unfolding flats rising
flats_suc c nodes start n = rw add-one

or_cond : (a b : Bool) → a || b ≡ cond a true b
or_cond true b = refl
or_cond false b = refl

-- Two choices by one test.
cond_both : {A B C : Type 0} (f : A → C) (k : B → C) (b : Bool) (x y : A) (u v : B) → f x ≡ k u → f y ≡ k v → f (cond b x y) ≡ k (cond b u v)
cond_both f k true x y u v p q = p
cond_both f k false x y u v p q = q

-- A reading of the giver's row and one of the reached nodes agree, where they agree at a node of the group and where there is none.
module _ {C : Type 0} (c nodes path : List ℕ) (g : ℕ) (at : ℕ → C) (of : List Head → C) (one : Head → C) (at_none : at 64 ≡ of [])
    (of_more : (h : Head) (hs : List Head) → of (h ∷ hs) ≡ cond (eqb h.group g) (one h) (of hs))
    (at_row : (row : ℕ) → row < 64 → at row ≡ one (flat_of c (node_at nodes row)).head) where
  one_row : (f : Flat) (later : List Flat) (row limit : ℕ) → at row ≡ one f.head
      → ((l : ℕ) → at (giver_in path g l (row + 1) later) ≡ of (reached_in path l later))
      → at (giver_in path g limit row (f ∷ later)) ≡ of (reached_in path limit (f ∷ later))
  unfolding giver_in reached_in
  one_row f later row limit p rest =
      cond_both at of (ltb limit f.depth) _ _ _ _ (rest limit)
      (cond_both at of (member f.head.group path) _ _ _ _
      (cond_both at (λ x. x) (eqb f.head.group g) _ _ _ _ p (rest (f.depth + 1)) ∙ sym (of_more f.head (reached_in path (f.depth + 1) later)))
      (rest f.depth))

  no_row : (start limit : ℕ) → at (giver_in path g limit start (flats c nodes start 0)) ≡ of (reached_in path limit (flats c nodes start 0))
  unfolding giver_in reached_in flats rising
  no_row start limit = at_none

  giver_tells : (n start limit : ℕ) → start + n ≤ 64
      → at (giver_in path g limit start (flats c nodes start n)) ≡ of (reached_in path limit (flats c nodes start n))
  giver_tells zero start limit h = no_row start limit
  giver_tells (suc n) start limit h =
      rw (flats_suc c nodes start n)
      (one_row (flat_of c (node_at nodes start)) (flats c nodes (start + 1) n) start limit (at_row start (omega arith))
      (λ l. giver_tells n (start + 1) l (omega arith)))

-- The same asked of each group, through its giver or of the group itself.
pub every_map : {A B : Type 0} (f : A → B) (p : B → Bool) (q : A → Bool) → ((x : A) → p (f x) ≡ q x) → (xs : List A) → every p (map f xs) ≡ every q xs
unfolding every
every_map f p q h [] = refl
every_map f p q h (g ∷ gs) = rw (h g, every_map f p q h gs)

any_map : (f : ℕ → ℕ) (p q : ℕ → Bool) → ((g : ℕ) → p (f g) ≡ q g) → (gs : List ℕ) → any p (map f gs) ≡ any q gs
unfolding any
any_map f p q h [] = refl
any_map f p q h (g ∷ gs) = rw (h g, any_map f p q h gs)

-- What a row gives for a purpose, and what a group gives.
none_for : (purpose : ℕ) → only_for purpose no_permissions ≡ no_permissions
unfolding only_for
none_for purpose = go (bit_at purpose 0)
  where
    go : (b : Bool) → cond b no_permissions no_permissions ≡ no_permissions
    go true = refl
    go false = refl

row_for : (c nodes : List ℕ) (purpose row : ℕ) → given_at c nodes (granting_row purpose nodes row) ≡ only_for purpose (given_at c nodes row)
unfolding given_at granting_row
row_for c nodes purpose row = go (ltb row 64) refl
  where
    go : (b : Bool) → ltb row 64 ≡ b
        → given_at c nodes (cond b (cond (bit_at purpose (node_at nodes row).permissions.purposes) row 64) 64)
        ≡ only_for purpose (cond b (permissions_of c (node_at nodes row).permissions) no_permissions)
    go true e = unfold only_for permissions_of in split (bit_at purpose (node_at nodes row).permissions.purposes)
      where
        split : (t : Bool) → given_at c nodes (cond t row 64) ≡ cond t (permissions_of c (node_at nodes row).permissions) no_permissions
        split true = unfold given_at in rw e
        split false = unfold given_at in refl
    go false e = unfold given_at in sym (none_for purpose)

pub given_for : (purpose g : ℕ) (hs : List Head) → given_by g (map (for_purpose purpose) hs) ≡ only_for purpose (given_by g hs)
unfolding given_by for_purpose
given_for purpose g [] = sym (none_for purpose)
given_for purpose g (h ∷ hs) = go (eqb h.group g) (given_for purpose g hs)
  where
    go : (b : Bool) → given_by g (map (for_purpose purpose) hs) ≡ only_for purpose (given_by g hs)
        → cond b (only_for purpose h.permissions) (given_by g (map (for_purpose purpose) hs)) ≡ only_for purpose (cond b h.permissions (given_by g hs))
    go true rest = refl
    go false rest = rest

map_twice : (f h : ℕ → ℕ) (xs : List ℕ) → map f (map h xs) ≡ map (λ x. f (h x)) xs
map_twice f h [] = refl
map_twice f h (x ∷ xs) = ap (λ (l : List ℕ). f (h x) ∷ l) (map_twice f h xs)

joined_map : (h : ℕ) (c nodes : List ℕ) (hs : List Head) (f : ℕ → ℕ) → ((g : ℕ) → given_at c nodes (f g) ≡ given_by g hs)
    → (gs : List ℕ) → joined_at h c nodes (map f gs) ≡ joined h hs gs
unfolding joined_at joined
joined_map h c nodes hs f e [] = refl
joined_map h c nodes hs f e (g ∷ gs) = rw (e g, joined_map h c nodes hs f e gs)

module _ (c nodes path : List ℕ) (start n : ℕ) (root : Node) (fits : start + n ≤ 64) (rows : flats c nodes start n ≡ flatten 0 (alone root)) where
  reached_here : reached_in path 0 (flats c nodes start n) ≡ reached path root
  reached_here = ap (reached_in path 0) rows ∙ reached_tree path root

  pub giver_gives : (g : ℕ) → given_at c nodes (giver_in path g 0 start (flats c nodes start n)) ≡ given_by g (reached path root)
  unfolding given_at given_by flat_of
  giver_gives g =
      giver_tells c nodes path g (given_at c nodes) (given_by g) (λ h. h.permissions) refl (λ h hs. refl) (λ row h. rw (lt-ltb row 64 h)) n start 0 fits
      ∙ ap (given_by g) reached_here

  pub giver_found : (g : ℕ) → ltb (giver_in path g 0 start (flats c nodes start n)) 64 ≡ member g (groups_at (reached path root))
  unfolding member groups_at
  giver_found g =
      giver_tells c nodes path g (λ row. ltb row 64) (λ hs. member g (groups_at hs)) (λ h. true) refl (λ h hs. or_cond (eqb h.group g) _)
      (λ row h. lt-ltb row 64 h) n start 0 fits
      ∙ ap (λ hs. member g (groups_at hs)) reached_here

  pub all_found : every (λ row. ltb row 64) (givers_in c nodes path start n) ≡ every (λ g. member g (groups_at (reached path root))) path
  all_found = every_map (λ g. giver_in path g 0 start (flats c nodes start n)) (λ row. ltb row 64) (λ g. member g (groups_at (reached path root))) giver_found path

  -- and for a purpose
  giver_grants : (purpose g : ℕ) → given_at c nodes (granting_row purpose nodes (giver_in path g 0 start (flats c nodes start n)))
      ≡ given_by g (map (for_purpose purpose) (reached path root))
  giver_grants purpose g =
      row_for c nodes purpose (giver_in path g 0 start (flats c nodes start n)) ∙ ap (only_for purpose) (giver_gives g) ∙ sym (given_for purpose g (reached path root))

  abbrev granter : ℕ → ℕ → ℕ
  granter purpose g = granting_row purpose nodes (giver_in path g 0 start (flats c nodes start n))

  pub flag_given_lem : (purpose v : ℕ) → any (λ row. has_bit v (given_at c nodes row).map) (granting_rows purpose nodes (givers_in c nodes path start n))
      ≡ any (λ g. has_bit v (given_by g (map (for_purpose purpose) (reached path root))).map) path
  flag_given_lem purpose v =
      ap (any (λ row. has_bit v (given_at c nodes row).map)) (map_twice (granting_row purpose nodes) (λ g. giver_in path g 0 start (flats c nodes start n)) path)
      ∙ any_map (granter purpose) (λ row. has_bit v (given_at c nodes row).map) (λ g. has_bit v (given_by g (map (for_purpose purpose) (reached path root))).map)
      (λ g. ap (λ p. has_bit v p.map) (giver_grants purpose g)) path

  pub counts_given : (purpose h : ℕ) → joined_at h c nodes (granting_rows purpose nodes (givers_in c nodes path start n))
      ≡ joined h (map (for_purpose purpose) (reached path root)) path
  counts_given purpose h =
      ap (joined_at h c nodes) (map_twice (granting_row purpose nodes) (λ g. giver_in path g 0 start (flats c nodes start n)) path)
      ∙ joined_map h c nodes (map (for_purpose purpose) (reached path root)) (granter purpose) (giver_grants purpose) path
