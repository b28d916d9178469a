-- Questions 13 and 14 over the rows of a tree, row by row: the groups on the way down are kept by depth, and for each group the row
-- after its last node. To compare a node with the last of its group is to compare it with all before it, since those are all the same.
use Prim.Native.Nat.{ℕ, zero, suc, ◌+◌, ◌-◌, ◌<◌, ◌≤◌}
use mathlib.Core.Bool.{Bool, true, false, cond, not, ◌&&◌, ◌||◌, and-true}
use mathlib.Core.List.{List, [], ◌∷◌, ◌++◌}
use mathlib.Core.Path.{◌≡◌, refl, sym, ◌∙◌}
use native.Mathlib.Numerals.{add-one, sub-one}
use native.Mathlib.Omega.{arith}
use borrow.Author.Tests.{not-true, not-false, eq-eqb, ne_eqb, eqb-true, eqb-false}
use lib.Dec.{eqb}
use lib.ListN.{length, get_or, take, set, replicate, length-set, get_or-replicate}
use lib.Seq.{get_or-set_same, get_or-set_other}
use Rattle.std.specs.Prelude.{Option, None, Some}
use Rattle.std.specs.Option.{is_some}
use Rattle.std.specs.List.{list_any}
use Rattle.reading.specs.Questions.{number_of}
use Rattle.reading.specs.Told.{numbered}
use Rattle.reading.specs.declared.Question.{Question}
use Rattle.reading.specs.Forms.{member}
use Rattle.inference.specs.Lists.{every}
use Rattle.policy.proofs.NodeLaws.{node_steps, group_small}
use Rattle.policy.proofs.RowLaws.{flats_more, flats_none}
use Rattle.policy.specs.Syntax.{Permissions, Head}
use Rattle.policy.specs.WellFormed.{same_permissions, agree, is_new, is_same, fault_of, node_fault, first_fault}
use Rattle.policy.specs.Rows.{node_at, permissions_of, flat_of, flats}
use Rattle.policy.specs.declared.Node.{Node}
use Rattle.wellformed.specs.Rows.{met_rows, heads_fault, same_as_last}
use Rattle.wellformed.specs.Faults.{failed}
use Rattle.wellformed.proofs.AgreeSteps.{permissions_equal}
use Rattle.wellformed.proofs.KindSteps.{found_among}
use Rattle.inference.proofs.EveryLaws.{every_append}

-- 14 against the last node.
pub none_before : (c nodes : List ℕ) (next : ℕ) (p : Permissions) → next ≡ 0 → true ≡ same_as_last c nodes next p
unfolding same_as_last
none_before c nodes next p e = rw e

pub one_before : (c nodes : List ℕ) (next : ℕ) (p : Permissions) (n : Node) (r : Bool) → (next ≡ 0 → ⊥) → n ≡ node_at nodes (next - 1)
    → r ≡ same_permissions (permissions_of c n.permissions) p → r ≡ same_as_last c nodes next p
unfolding same_as_last
one_before c nodes zero p n r h e k = absurd (h refl)
one_before c nodes (suc row) p n r h e k = k ∙ rw (e, sub-one (suc row))

-- At one node.
pub fault_14 : (same fresh : Bool) → not same ≡ true → Some 14 ≡ failed (fault_of same fresh)
unfolding fault_of failed
fault_14 same fresh h = rw (not-true same h)

pub fault_none : (same fresh : Bool) → not same ≡ false → fresh ≡ true → None ≡ failed (fault_of same fresh)
unfolding fault_of failed
fault_none same fresh h k = rw (not-false same h, k)

pub fault_13 : (same fresh : Bool) → not same ≡ false → fresh ≡ false → Some 13 ≡ failed (fault_of same fresh)
unfolding fault_of failed
fault_13 same fresh h k = rw (not-false same h, k)

-- Whether a question fails is whether its number is not 0.
pub some_fails : (fault : Option Question) (n : ℕ) → numbered fault ≡ failed n → is_some fault ≡ true → n ≡ 0 → ⊥
unfolding failed
some_fails None n e h k = let z : ◌≡◌ {A = ℕ} 0 1 = cc in omega arith
some_fails (Some q) n e h k = let y : Some (number_of q) ≡ None = rw k at e in let z : ◌≡◌ {A = ℕ} 0 1 = cc in omega arith

pub none_fails : (fault : Option Question) (n : ℕ) → numbered fault ≡ failed n → is_some fault ≡ false → n ≡ 0
unfolding failed
none_fails (Some q) n e h = let z : ◌≡◌ {A = ℕ} 0 1 = cc in absurd (omega arith)
none_fails None n e h = go (eqb n 0) refl e
  where
    go : (t : Bool) → eqb n 0 ≡ t → ◌≡◌ {A = Option ℕ} None (cond t None (Some n)) → n ≡ 0
    go true k l = eqb-true n 0 k
    go false k l = let z : ◌≡◌ {A = ℕ} 0 1 = cc in absurd (omega arith)

-- All nodes before are answered for by `last`.
abbrev pub Answers : List ℕ → List ℕ → List Head → List ℕ → Type 0
Answers c nodes earlier last = (g : ℕ) (p : Permissions) → g < 64
    → every (λ e. agree e (record { group = g; permissions = p })) earlier ≡ same_as_last c nodes (get_or last g 0) p

-- One node more, which is the same as those of its group before it.
module _ (c nodes : List ℕ) (earlier : List Head) (last : List ℕ) (i : ℕ) (l : length last ≡ 64) (s : Answers c nodes earlier last)
    (same : every (λ e. agree e (flat_of c (node_at nodes i)).head) earlier ≡ true) where
  abbrev own : Permissions
  own = permissions_of c (node_at nodes i).permissions

  abbrev before : ℕ → Permissions → Bool
  before g p = every (λ e. agree e (record { group = g; permissions = p })) earlier

  all_same_lem : (p : Permissions) (t : Bool) → same_permissions own p ≡ t → (before (node_at nodes i).group p && (t && true)) ≡ t
  unfolding flat_of
  all_same_lem p true e = rw (← permissions_equal own p e, same)
  all_same_lem p false e = no_and (before (node_at nodes i).group p)
    where
      no_and : (b : Bool) → (b && false) ≡ false
      no_and true = refl
      no_and false = refl

  answers_next : Answers c nodes (earlier ++ ((flat_of c (node_at nodes i)).head ∷ [])) (set last (node_at nodes i).group (i + 1))
  unfolding flat_of every agree same_as_last
  answers_next g p h =
      every_append (λ e. agree e (record { group = g; permissions = p })) earlier ((flat_of c (node_at nodes i)).head ∷ [])
      ∙ go (eqb (node_at nodes i).group g) refl
    where
      go : (t : Bool) → eqb (node_at nodes i).group g ≡ t
          → (before g p && ((not t || same_permissions own p) && true)) ≡ same_as_last c nodes (get_or (set last (node_at nodes i).group (i + 1)) g 0) p
      go true e =
          rw (← eqb-true (node_at nodes i).group g e, get_or-set_same last (node_at nodes i).group (i + 1) 0 (omega (arith, group_small nodes i (node_at nodes i) refl)), add-one i)
          (all_same_lem p (same_permissions own p) refl)
      go false e = rw (get_or-set_other last (node_at nodes i).group g (i + 1) 0 (λ z. eqb-false (node_at nodes i).group g e (sym z))) (and-true (before g p) ∙ s g p h)

-- Where the pass stands at row i: the nodes before it, which `last` answers for, and the first fault of the rows that are left.
pub record HeadsLeft (c nodes : List ℕ) (start to : ℕ) (last groups : List ℕ) (i : ℕ) : Type 0 where
  pub long : length last ≡ 64
  pub earlier : List Head
  pub answers : Answers c nodes earlier last
  pub rows : (g : ℕ) → g < 64 → get_or last g 0 ≤ i
  pub same : heads_fault (replicate 8 0) [] (flats c nodes start (to - start))
      ≡ heads_fault groups earlier (flats c nodes i (to - i))

pub heads_start : (c nodes : List ℕ) (start to : ℕ) → HeadsLeft c nodes start to (replicate 64 0) (replicate 8 0) start
unfolding every same_as_last
heads_start c nodes start to = record {
  long = refl;
  earlier = [];
  answers = λ g p h. rw (get_or-replicate {A = ℕ} 64 g 0 0 h);
  rows = λ g h. rw (get_or-replicate {A = ℕ} 64 g 0 0 h) (omega arith);
  same = refl;
}

module _ (c nodes : List ℕ) (start to : ℕ) (last groups : List ℕ) (i : ℕ) (s : HeadsLeft c nodes start to last groups i) where
  pub heads_end : to ≤ i → None ≡ failed (heads_fault (replicate 8 0) [] (flats c nodes start (to - start)))
  unfolding heads_fault met_rows first_fault failed
  heads_end h =
      let z : heads_fault (replicate 8 0) [] (flats c nodes start (to - start)) ≡ 0 = rw (flats_none c nodes i to h) at s.same in rw z

  pub last_row : (g : ℕ) → g < 64 → i < to → to ≤ 64 → get_or last g 0 ≤ 64
  last_row g h k l = omega (arith, s.rows g h)

  module _ (h : i < to) (n : Node) (e : n ≡ node_at nodes i) (r : Bool) (a : r ≡ same_as_last c nodes (get_or last n.group 0) (permissions_of c n.permissions)) where
    same_is : every (λ x. agree x (flat_of c (node_at nodes i)).head) s.earlier ≡ r
    unfolding flat_of
    same_is =
        s.answers (node_at nodes i).group (permissions_of c (node_at nodes i).permissions) (group_small nodes i (node_at nodes i) refl)
        ∙ sym (rw e at a)

    module _ (b : Bool) (k : b ≡ list_any (λ y. eqb y n.group) (take n.depth groups)) (fault : Option Question) (f : numbered fault ≡ failed (fault_of r (not b))) where
      fault_is : heads_fault (replicate 8 0) [] (flats c nodes start (to - start))
          ≡ cond (eqb (fault_of r (not b)) 0)
          (heads_fault (set groups n.depth n.group) (s.earlier ++ ((flat_of c n).head ∷ [])) (flats c nodes (i + 1) (to - (i + 1)))) (fault_of r (not b))
      unfolding heads_fault met_rows first_fault node_fault is_same is_new flat_of
      fault_is = let m : b ≡ member n.group (take n.depth groups) = k ∙ found_among n.group (take n.depth groups) in
          rw (flats_more c nodes i to h, same_is, ← e, ← m) at s.same

      pub heads_fail : (d : Bool) → d ≡ is_some fault → d ≡ true → numbered fault ≡ failed (heads_fault (replicate 8 0) [] (flats c nodes start (to - start)))
      heads_fail d o l = rw (rw (ne_eqb (fault_of r (not b)) 0 (some_fails fault (fault_of r (not b)) f (sym o ∙ l))) at fault_is) f

      same_here : (t u : Bool) → fault_of t u ≡ 0 → t ≡ true
      unfolding fault_of
      same_here true u l = refl
      same_here false u l = absurd (omega arith)

      rows_next : (g : ℕ) → g < 64 → get_or (set last n.group (i + 1)) g 0 ≤ i + 1
      rows_next g x = go (eqb n.group g) refl
        where
          go : (t : Bool) → eqb n.group g ≡ t → get_or (set last n.group (i + 1)) g 0 ≤ i + 1
          go true z = rw (← eqb-true n.group g z, get_or-set_same last n.group (i + 1) 0 (omega (arith, group_small nodes i n e, s.long))) (omega arith)
          go false z = rw (get_or-set_other last n.group g (i + 1) 0 (λ y. eqb-false n.group g z (sym y))) (omega (arith, s.rows g x))

      pub heads_next : (d : Bool) → d ≡ is_some fault → d ≡ false → HeadsLeft c nodes start to (set last n.group (i + 1)) (set groups n.depth n.group) (i + 1)
      heads_next d o l = record {
        long = length-set last n.group (i + 1) ∙ s.long;
        earlier = s.earlier ++ ((flat_of c n).head ∷ []);
        answers = rw e (answers_next c nodes s.earlier last i s.long s.answers (same_is ∙ same_here r (not b) passes));
        rows = rows_next;
        same = rw (eq-eqb (fault_of r (not b)) 0 passes) at fault_is;
      }
        where
          passes : fault_of r (not b) ≡ 0
          passes = none_fails fault (fault_of r (not b)) f (sym o ∙ l)

pub ruleset head_steps = (node_steps, none_before, one_before, heads_start, heads_end, last_row, fault_14, fault_none, fault_13, heads_fail, heads_next)
