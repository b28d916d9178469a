-- What the components that a test tells need by the entries of a sheet is what their acts disclose.
use Prim.Native.Nat.{ℕ, zero, suc, ◌+◌, ◌<◌}
use native.Mathlib.Omega.{arith}
use mathlib.Core.Bool.{Bool, true, false, cond}
use mathlib.Core.List.{List, [], ◌∷◌, ◌++◌, Memᴰ}
use mathlib.Core.Path.{◌≡◌, refl, sym, ap, ap₂, ◌∙◌}
use Rattle.reading.specs.Syntax.{Sheet}
use Rattle.inference.specs.Lists.{only, gather}
use Rattle.inference.specs.Counts.{Count, fin, unlimited, ◌⊕◌, at_most, is_zero}
use Rattle.inference.specs.Acts.{Component, Act, Located, located, acts_of, sheet_acts}
use Rattle.inference.specs.Needs.{need_of, disclosures, total, disclosed}
use Rattle.inference.specs.Interface.{entry_of, entries_of, interface, count_in, needed_by}
use Rattle.inference.proofs.ActLaws.{total_append}
use Rattle.inference.proofs.ClassLaws.{needed_append}
use Rattle.inference.proofs.CountLaws.{join_comm, nothing_join, at_most_trans, at_most_joined}
use Rattle.inference.proofs.KindLaws.{all_kinds_needed}
use Rattle.inference.proofs.RequiredLaws.{listed_acts}
use Rattle.running.specs.Guarantees.{acts_where}
use Rattle.running.proofs.Alls.{All, done, also}
use Rattle.running.proofs.Components.{where_own, where_other, where_append}

-- The acts that a test tells, of acts that follow one another.
where_joined : (among : Component → Bool) (k h : ℕ) (xs ys : List Act)
    → disclosed k h (acts_where among (xs ++ ys)) ≡ disclosed k h (acts_where among xs) ⊕ disclosed k h (acts_where among ys)
unfolding disclosed
where_joined among k h xs ys =
    ap (disclosed k h) (where_append among xs ys) ∙ total_append (λ a. disclosures k h (need_of a)) (acts_where among xs) (acts_where among ys)

module _ (among : Component → Bool) (k h : ℕ) where
  -- The entries of one component, and of a list of components.
  component_needed : k < 16 → h < 64 → (l : Located) → needed_by among k h (entries_of l) ≡ disclosed k h (acts_where among (acts_of l))
  unfolding entries_of disclosed total
  component_needed i j l =
      all_kinds_needed among k h (entry_of l.component (acts_of l)) l.component (λ q. unfold entry_of in refl) (λ q. unfold entry_of in refl) i
      ∙ go (among l.component) refl
    where
      go : (b : Bool) → among l.component ≡ b
          → cond b (count_in h (entry_of l.component (acts_of l) k).disclose) (fin 0) ≡ disclosed k h (acts_where among (acts_of l))
      go true e = listed_acts l.component (acts_of l) k h j ∙ ap (disclosed k h) (sym (where_own among l e))
      go false e = ap (disclosed k h) (sym (where_other among l e))

  all_needed : k < 16 → h < 64 → (ls : List Located) → needed_by among k h (gather entries_of ls) ≡ disclosed k h (acts_where among (gather acts_of ls))
  unfolding gather needed_by disclosed total acts_where only
  all_needed i j [] = refl
  all_needed i j (l ∷ ls) =
      needed_append among k h (entries_of l) (gather entries_of ls)
      ∙ ap₂ ◌⊕◌ (component_needed i j l) (all_needed i j ls)
      ∙ sym (where_joined among k h (acts_of l) (gather acts_of ls))

  pub needed_disclosed : k < 16 → h < 64 → (sheet : Sheet) → needed_by among k h (interface sheet) ≡ disclosed k h (acts_where among (sheet_acts sheet))
  unfolding interface sheet_acts
  needed_disclosed i j sheet = all_needed i j (located sheet)

  -- Where no component that is told discloses, they disclose nothing together.
  pub none_disclosed : {ls : List Located} → All (λ l. among l.component ≡ true → is_zero (disclosed k h (acts_of l)) ≡ true) ls
      → is_zero (disclosed k h (acts_where among (gather acts_of ls))) ≡ true
  unfolding gather disclosed total acts_where only is_zero ◌⊕◌
  none_disclosed done = refl
  none_disclosed (also {x = l} {xs = ls} f fs) =
      rw (where_joined among k h (acts_of l) (gather acts_of ls))
      (both (disclosed k h (acts_where among (acts_of l))) (disclosed k h (acts_where among (gather acts_of ls))) (go (among l.component) refl) (none_disclosed fs))
    where
      both : (x y : Count) → is_zero x ≡ true → is_zero y ≡ true → is_zero (x ⊕ y) ≡ true
      both (fin zero) y p q = rw (nothing_join y) q
      both (fin (suc m)) y p q = let z : ◌≡◌ {A = ℕ} 0 1 = cc in absurd (omega arith)
      both unlimited y p q = let z : ◌≡◌ {A = ℕ} 0 1 = cc in absurd (omega arith)

      go : (b : Bool) → among l.component ≡ b → is_zero (disclosed k h (acts_where among (acts_of l))) ≡ true
      go true e = rw (where_own among l e) (f e)
      go false e = rw (where_other among l e) refl

  -- One that is told discloses at most what they disclose together.
  pub one_disclosed : (l : Located) → among l.component ≡ true → {ls : List Located} → Memᴰ l ls
      → at_most (disclosed k h (acts_of l)) (disclosed k h (acts_where among (gather acts_of ls))) ≡ true
  unfolding gather
  one_disclosed l t (Memᴰ.head {x = x} {xs = ls} e) =
      rw (← e, where_joined among k h (acts_of l) (gather acts_of ls), where_own among l t)
      (at_most_joined (disclosed k h (acts_of l)) (disclosed k h (acts_where among (gather acts_of ls))))
  one_disclosed l t (Memᴰ.tail {x = x} {xs = ls} m) =
      rw (where_joined among k h (acts_of x) (gather acts_of ls), join_comm (disclosed k h (acts_where among (acts_of x))) (disclosed k h (acts_where among (gather acts_of ls))))
      (at_most_trans (disclosed k h (acts_of l)) (disclosed k h (acts_where among (gather acts_of ls))) _ (one_disclosed l t m)
      (at_most_joined (disclosed k h (acts_where among (gather acts_of ls))) (disclosed k h (acts_where among (acts_of x)))))
