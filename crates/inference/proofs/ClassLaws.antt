-- Components that share one count: sharing asks only which groups stand in two paths, and the purposes, and so is an equivalence; and what the
-- components of a class need together is a sum over their entries, which splits where the class does.
use Prim.Native.Nat.{ℕ}
use mathlib.Core.Bool.{Bool, true, false, cond, not, ◌&&◌, ◌||◌}
use mathlib.Core.List.{List, [], ◌∷◌, ◌++◌}
use mathlib.Core.Path.{◌≡◌, refl, sym, ap₂, ◌∙◌}
use native.Mathlib.Omega.{arith}
use lib.Dec.{eqb}
use borrow.Author.Tests.{eqb-true, eq-eqb}
use Rattle.reading.specs.Forms.{member}
use Rattle.reading.proofs.TotalLaws.{both_left, both_right}
use Rattle.inference.proofs.CountLaws.{join_comm, join_assoc, join_nothing, nothing_join}
use Rattle.inference.specs.Acts.{Component}
use Rattle.inference.specs.Classes.{all_in, same_set, shares}
use Rattle.inference.specs.Counts.{Count, fin, ◌⊕◌}
use Rattle.inference.specs.Interface.{Entry, count_in, needed_by}
use Rattle.inference.specs.Lists.{every}

-- A test of two parts.
pub or_first : (a b : Bool) → a ≡ true → (a || b) ≡ true
or_first true b h = refl
or_first false b h = let z : ◌≡◌ {A = ℕ} 0 1 = cc in absurd (omega arith)

pub or_second : (a b : Bool) → b ≡ true → (a || b) ≡ true
or_second true b h = refl
or_second false b h = h

-- Each group of a path is in another: so is what is in the path.
in_member : (path other : List ℕ) → all_in path other ≡ true → (g : ℕ) → member g path ≡ true → member g other ≡ true
unfolding all_in every member
in_member [] other h g m = let z : ◌≡◌ {A = ℕ} 0 1 = cc in absurd (omega arith)
in_member (x ∷ path) other h g m = go (eqb x g) refl m (in_member path other (both_right (member x other) (all_in path other) h) g)
  where
    go : (b : Bool) → eqb x g ≡ b → (b || member g path) ≡ true → (member g path ≡ true → member g other ≡ true) → member g other ≡ true
    go true e k rest = rw (eqb-true x g e) at (both_left (member x other) (all_in path other) h)
    go false e k rest = rest k

member_in : (path other : List ℕ) → ((g : ℕ) → member g path ≡ true → member g other ≡ true) → all_in path other ≡ true
unfolding all_in every member
member_in [] other h = refl
member_in (x ∷ path) other h = go (member x other) (h x (rw (eq-eqb x x refl) refl)) (member_in path other (λ g m. h g (or_second (eqb x g) (member g path) m)))
  where
    go : (b : Bool) → b ≡ true → all_in path other ≡ true → (b && all_in path other) ≡ true
    go true e k = k
    go false e k = e

-- Two tests that imply one another are the same.
pub same_truth : (a b : Bool) → (a ≡ true → b ≡ true) → (b ≡ true → a ≡ true) → a ≡ b
same_truth true b f g = sym (f refl)
same_truth false true f g = g refl
same_truth false false f g = refl

-- Components share exactly if the same groups stand in their paths and they have one purpose.
pub shares_member : (c d : Component) → shares c d ≡ true → (g : ℕ) → member g c.path ≡ member g d.path
unfolding shares same_set
shares_member c d h g =
    let groups = both_left (same_set c.path d.path) (eqb c.purpose d.purpose) h in
    same_truth (member g c.path) (member g d.path)
    (in_member c.path d.path (both_left (all_in c.path d.path) (all_in d.path c.path) groups) g)
    (in_member d.path c.path (both_right (all_in c.path d.path) (all_in d.path c.path) groups) g)

pub shares_purpose : (c d : Component) → shares c d ≡ true → c.purpose ≡ d.purpose
unfolding shares
shares_purpose c d h =
    eqb-true c.purpose d.purpose (both_right (same_set c.path d.path) (eqb c.purpose d.purpose) h)

pub member_shares : (c d : Component) → ((g : ℕ) → member g c.path ≡ member g d.path) → c.purpose ≡ d.purpose → shares c d ≡ true
unfolding shares same_set
member_shares c d h p = rw (
  member_in c.path d.path (λ g m. sym (h g) ∙ m),
  member_in d.path c.path (λ g m. h g ∙ m),
  eq-eqb c.purpose d.purpose p,
) refl

pub shares_self : (c : Component) → shares c c ≡ true
shares_self c = member_shares c c (λ g. refl) refl

pub shares_sym : (c d : Component) → shares c d ≡ true → shares d c ≡ true
shares_sym c d h = member_shares d c (λ g. sym (shares_member c d h g)) (sym (shares_purpose c d h))

pub shares_trans : (c d e : Component) → shares c d ≡ true → shares d e ≡ true → shares c e ≡ true
shares_trans c d e h k =
    member_shares c e (λ g. shares_member c d h g ∙ shares_member d e k g) (shares_purpose c d h ∙ shares_purpose d e k)

-- Components that share have one class.
pub shares_class : (c d : Component) → shares c d ≡ true → (e : Component) → shares c e ≡ shares d e
shares_class c d h e =
    same_truth (shares c e) (shares d e) (λ k. shares_trans d c e (shares_sym c d h) k) (λ k. shares_trans c d e h k)

-- What one entry adds to the sum.
abbrev adds : (Component → Bool) → ℕ → ℕ → Entry → Count
adds among k h e = cond (among e.component && eqb e.kind k) (count_in h e.disclose) (fin 0)

-- Entries that follow one another.
pub needed_append : (among : Component → Bool) (k h : ℕ) (xs ys : List Entry)
    → needed_by among k h (xs ++ ys) ≡ needed_by among k h xs ⊕ needed_by among k h ys
unfolding needed_by
needed_append among k h [] ys = sym (nothing_join (needed_by among k h ys))
needed_append among k h (e ∷ xs) ys =
    rw (needed_append among k h xs ys) (sym (join_assoc (adds among k h e) (needed_by among k h xs) (needed_by among k h ys)))

join_crossed : (a b c d : Count) → a ⊕ b ⊕ (c ⊕ d) ≡ a ⊕ c ⊕ (b ⊕ d)
join_crossed a b c d = cc (join_assoc a b (c ⊕ d), join_assoc b c d, join_comm b c, join_assoc c b d, join_assoc a c (b ⊕ d))

-- A class that a further test parts.
pub needed_parts : (among p : Component → Bool) (k h : ℕ) (xs : List Entry)
    → needed_by among k h xs ≡ needed_by (λ c. among c && p c) k h xs ⊕ needed_by (λ c. among c && not (p c)) k h xs
unfolding needed_by
needed_parts among p k h [] = sym (nothing_join (fin 0))
needed_parts among p k h (e ∷ xs) =
    ap₂ ◌⊕◌ (parted (among e.component) (p e.component) (eqb e.kind k) (count_in h e.disclose)) (needed_parts among p k h xs)
    ∙ join_crossed _ _ _ _
  where
    parted : (a b t : Bool) (x : Count) → cond (a && t) x (fin 0) ≡ cond ((a && b) && t) x (fin 0) ⊕ cond ((a && not b) && t) x (fin 0)
    parted true true true x = sym (join_nothing x)
    parted true true false x = sym (nothing_join (fin 0))
    parted true false true x = sym (nothing_join x)
    parted true false false x = sym (nothing_join (fin 0))
    parted false b t x = sym (nothing_join (fin 0))

-- Two tests that tell the same components.
pub needed_where : (p q : Component → Bool) → ((c : Component) → p c ≡ q c) → (k h : ℕ) (xs : List Entry) → needed_by p k h xs ≡ needed_by q k h xs
unfolding needed_by
needed_where p q same k h [] = refl
needed_where p q same k h (e ∷ xs) = rw (same e.component, needed_where p q same k h xs) refl

-- The components of a class need the same together, whichever of them it is told by.
pub needed_class : (c d : Component) → shares c d ≡ true → (k h : ℕ) (xs : List Entry) → needed_by (shares c) k h xs ≡ needed_by (shares d) k h xs
needed_class c d e k h xs = needed_where (shares c) (shares d) (shares_class c d e) k h xs
