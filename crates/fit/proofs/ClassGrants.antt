-- A grant depends only on the purpose and on which groups stand in a path, not on their order: components that share a count are granted
-- the same.
use Prim.Native.Nat.{ℕ}
use mathlib.Core.Bool.{Bool, true, false, cond, ◌||◌}
use mathlib.Core.List.{List, [], ◌∷◌, map}
use mathlib.Core.Option.{Option, some, none as nothing}
use mathlib.Core.Path.{◌≡◌, refl, sym, ap, ap₂, ◌∙◌}
use native.Mathlib.Omega.{arith}
use lib.Dec.{eqb}
use borrow.Author.Tests.{eqb-true, eqb-false, eq-eqb, ne_eqb}
use Rattle.reading.specs.Forms.{member}
use Rattle.inference.specs.Acts.{Component}
use Rattle.inference.specs.Classes.{shares}
use Rattle.inference.specs.Counts.{Count, ◌⊕◌}
use Rattle.inference.specs.Lists.{any}
use Rattle.inference.proofs.ClassLaws.{or_first, or_second, same_truth, shares_member, shares_purpose}
use Rattle.inference.proofs.CountLaws.{join_comm, join_assoc}
use Rattle.interface.proofs.TableLaws.{NoneTwice, twice_none, twice_more}
use Rattle.policy.specs.Syntax.{Nodes, none, more, Tree, Node, Head, has_bit, alone}
use Rattle.fit.specs.Grants.{reached_among, reached, tree_for, reached_in, reached_for, for_purpose, granting_to, given_by, flag_granted, listed, joined, count_granted}

-- Two paths in which the same groups stand reach the same nodes.
module _ (xs ys : List ℕ) (same : (g : ℕ) → member g xs ≡ member g ys) where
  reached_among_lem : (nodes : Nodes) → reached_among xs nodes ≡ reached_among ys nodes
  unfolding reached_among
  reached_among_lem none = refl
  reached_among_lem (more g p below rest) = rw (same g, reached_among_lem below, reached_among_lem rest) refl

  reached_in_lem : (root : Option Node) → reached_in xs root ≡ reached_in ys root
  unfolding reached_in reached
  reached_in_lem nothing = refl
  reached_in_lem (some root) = reached_among_lem (alone root)

  pub reached_for_lem : (policy : List Tree) (kind : ℕ) → reached_for policy kind xs ≡ reached_for policy kind ys
  unfolding reached_for
  reached_for_lem policy kind = reached_in_lem (tree_for kind policy)

-- So the same nodes grant to components that share.
granting_class : (policy : List Tree) (kind : ℕ) (c d : Component) → shares c d ≡ true → granting_to policy kind c ≡ granting_to policy kind d
unfolding granting_to
granting_class policy kind c d h =
    ap₂ (λ (purpose : ℕ) (hs : List Head). map (for_purpose purpose) hs) (shares_purpose c d h)
    (reached_for_lem c.path d.path (shares_member c d h) policy kind)

-- What is true of a group in a path is true of some group in it.
any_at : (p : ℕ → Bool) (g : ℕ) (ys : List ℕ) → member g ys ≡ true → p g ≡ true → any p ys ≡ true
unfolding member any
any_at p g [] m h = let z : ◌≡◌ {A = ℕ} 0 1 = cc in absurd (omega arith)
any_at p g (y ∷ ys) m h = go (eqb y g) refl m (λ k. any_at p g ys k h)
  where
    go : (b : Bool) → eqb y g ≡ b → (b || member g ys) ≡ true → (member g ys ≡ true → any p ys ≡ true) → (p y || any p ys) ≡ true
    go true e k rest = or_first (p y) (any p ys) (rw (eqb-true y g e) h)
    go false e k rest = or_second (p y) (any p ys) (rest k)

any_among : (p : ℕ → Bool) (xs ys : List ℕ) → ((g : ℕ) → member g xs ≡ true → member g ys ≡ true) → any p xs ≡ true → any p ys ≡ true
unfolding member any
any_among p [] ys f h = let z : ◌≡◌ {A = ℕ} 0 1 = cc in absurd (omega arith)
any_among p (x ∷ xs) ys f h = go (p x) refl h (any_among p xs ys (λ g m. f g (or_second (eqb x g) (member g xs) m)))
  where
    go : (b : Bool) → p x ≡ b → (b || any p xs) ≡ true → (any p xs ≡ true → any p ys ≡ true) → any p ys ≡ true
    go true e k rest = any_at p x ys (f x (rw (eq-eqb x x refl) refl)) e
    go false e k rest = rest k

pub flag_class : (v : ℕ) (policy : List Tree) (kind : ℕ) (c d : Component) → shares c d ≡ true → flag_granted v policy kind c ≡ flag_granted v policy kind d
unfolding flag_granted
flag_class v policy kind c d h =
    let same : (g : ℕ) → member g c.path ≡ member g d.path = shares_member c d h in
    let has : ℕ → Bool = λ g. has_bit v (given_by g (granting_to policy kind d)).map in
    rw (granting_class policy kind c d h)
    (same_truth (any has c.path) (any has d.path)
    (any_among has c.path d.path (λ g m. sym (same g) ∙ m)) (any_among has d.path c.path (λ g m. same g ∙ m)))

-- A path without a group of it.
unfoldable without : ℕ → List ℕ → List ℕ
without g [] = []
without g (y ∷ ys) = cond (eqb y g) ys (y ∷ without g ys)

without_other : (x g : ℕ) → (x ≡ g → ⊥) → (ys : List ℕ) → member x (without g ys) ≡ member x ys
unfolding without member
without_other x g ne [] = refl
without_other x g ne (y ∷ ys) = go (eqb y g) refl (without_other x g ne ys)
  where
    go : (b : Bool) → eqb y g ≡ b → member x (without g ys) ≡ member x ys → member x (cond b ys (y ∷ without g ys)) ≡ (eqb y x || member x ys)
    go true e rest = let z : y ≡ g = eqb-true y g e in rw (ne_eqb y x (λ q. ne (sym q ∙ z))) refl
    go false e rest = ap (λ (b : Bool). eqb y x || b) rest

without_itself : (g : ℕ) {ys : List ℕ} → NoneTwice ys → member g (without g ys) ≡ false
unfolding without member
without_itself g twice_none = refl
without_itself g (twice_more {g = y} {rest = ys} e once) = go (eqb y g) refl (without_itself g once)
  where
    go : (b : Bool) → eqb y g ≡ b → member g (without g ys) ≡ false → member g (cond b ys (y ∷ without g ys)) ≡ false
    go true q rest = rw (eqb-true y g q) at e
    go false q rest = rw (q, rest) refl

without_twice : (g : ℕ) {ys : List ℕ} → NoneTwice ys → NoneTwice (without g ys)
unfolding without
without_twice g twice_none = twice_none
without_twice g (twice_more {g = y} {rest = ys} e once) = go (eqb y g) refl (without_twice g once)
  where
    go : (b : Bool) → eqb y g ≡ b → NoneTwice (without g ys) → NoneTwice (cond b ys (y ∷ without g ys))
    go true q rest = once
    go false q rest = twice_more (without_other y g (eqb-false y g q) ys ∙ e) rest

-- The counts that the groups of a path join, without regard to their order.
module _ (h : ℕ) (hs : List Head) where
  abbrev one : ℕ → Count
  one g = listed h (given_by g hs).list

  joined_taken : (g : ℕ) (ys : List ℕ) → member g ys ≡ true → joined h hs ys ≡ one g ⊕ joined h hs (without g ys)
  unfolding joined without member
  joined_taken g [] m = let z : ◌≡◌ {A = ℕ} 0 1 = cc in absurd (omega arith)
  joined_taken g (y ∷ ys) m = go (eqb y g) refl m (joined_taken g ys)
    where
      go : (b : Bool) → eqb y g ≡ b → (b || member g ys) ≡ true → (member g ys ≡ true → joined h hs ys ≡ one g ⊕ joined h hs (without g ys))
          → one y ⊕ joined h hs ys ≡ one g ⊕ joined h hs (cond b ys (y ∷ without g ys))
      go true q k rest = rw (eqb-true y g q) refl
      go false q k rest =
          rw (rest k)
          (cc (join_assoc (one y) (one g) (joined h hs (without g ys)), join_comm (one y) (one g), join_assoc (one g) (one y) (joined h hs (without g ys))))

  joined_same : {xs : List ℕ} → NoneTwice xs → (ys : List ℕ) → NoneTwice ys → ((g : ℕ) → member g xs ≡ member g ys) → joined h hs xs ≡ joined h hs ys
  unfolding joined member
  joined_same twice_none [] t same = refl
  joined_same twice_none (y ∷ ys) t same =
      let a : false ≡ (eqb y y || member y ys) = same y in
      let b : (eqb y y || member y ys) ≡ true = rw (eq-eqb y y refl) refl in
      let z : ◌≡◌ {A = ℕ} 0 1 = cc in absurd (omega arith)
  joined_same (twice_more {g = x} {rest = xs} e once) ys t same =
      ap (λ (c : Count). one x ⊕ c) (joined_same once (without x ys) (without_twice x t) (λ g. left g (eqb x g) refl))
      ∙ sym (joined_taken x ys (sym (same x) ∙ rw (eq-eqb x x refl) refl))
    where
      left : (g : ℕ) (b : Bool) → eqb x g ≡ b → member g xs ≡ member g (without x ys)
      left g true q = rw (← eqb-true x g q) (e ∙ sym (without_itself x t))
      left g false q =
          let a : (eqb x g || member g xs) ≡ member g ys = same g in
          let b : member g xs ≡ member g ys = rw q at a in
          b ∙ sym (without_other g x (λ k. eqb-false x g q (sym k)) ys)

pub count_class : (h : ℕ) (policy : List Tree) (kind : ℕ) (c d : Component) → NoneTwice c.path → NoneTwice d.path → shares c d ≡ true
    → count_granted h policy kind c ≡ count_granted h policy kind d
unfolding count_granted
count_class h policy kind c d once other e =
    rw (granting_class policy kind c d e)
    (joined_same h (granting_to policy kind d) once d.path other (shares_member c d e))
