-- The mark of a kind: where it is not set, no act of the component needs anything of the kind.
use Prim.Native.Nat.{ℕ, ◌*◌, ◌<◌}
use mathlib.Core.Path.{◌≡◌, refl, sym, ap, ◌∙◌}
use mathlib.Core.List.{List}
use mathlib.Core.Bool.{Bool, true, false, cond, ◌&&◌}
use native.Mathlib.Omega.{arith}
use native.Mathlib.Decide.{ℕ_discrete}
use lib.ListN.{length, get_or, set}
use lib.Seq.{get_or-set_same, get_or-set_other}
use lib.Dec.{ltb}
use borrow.Author.Tests.{lt-ltb, ltb-true}
use Rattle.needs.specs.declared.Need.{Need}
use Rattle.needs.specs.declared.Need.TheVariants.{Nothing, Read, Write, Access, Disclose}
use Rattle.inference.specs.Counts.{fin}
use Rattle.inference.proofs.CountLaws.{nothing_join}
use Rattle.inference.specs.Acts.{Act}
use Rattle.inference.specs.Needs.{need_of, total}
use Rattle.inference.specs.Rows.{bumped, charge_at, cell_of, charge_cell, marked, charge_column, group_count, place_from, charge}
use Rattle.inference.specs.Walks.{charged}
use Rattle.interface.proofs.PathLaws.{weighs_nothing}
use Rattle.interface.proofs.CellLaws.{
  lands_in,
  lands,
  lands_off_kind,
  cell_inj_kind,
  cell_inj_column,
  cell_below,
  mark_other,
  AllOf,
  of_none,
  of_more,
  length_charge,
}

-- The mark of a kind in a component's row.
abbrev mark : List ℕ → ℕ → ℕ → ℕ
mark table n k = get_or table (cell_of n k 11) 0

-- Counting leaves the marks as they are.
count_mark : (table : List ℕ) (n kind column : ℕ) (repeated : Bool) (k : ℕ) → mark (charge_cell table n kind column repeated) n k ≡ mark table n k
unfolding charge_cell charge_at
count_mark table n kind column repeated k = go (ltb kind 16) (ltb column 11) refl
  where
    other : column < 11 → cell_of n k 11 ≡ cell_of n kind column → ⊥
    other h e =
        let f : k ≡ kind = cell_inj_kind n k kind 11 column (omega arith) (omega arith) e in
        omega (arith, cell_inj_column n k 11 column (e ∙ ap (λ (x : ℕ). cell_of n x column) (sym f)))

    go : (a b : Bool) → ltb column 11 ≡ b
        → get_or (cond (a && b) (set table (cell_of n kind column) (bumped (get_or table (cell_of n kind column) 0) repeated)) table) (cell_of n k 11) 0
        ≡ get_or table (cell_of n k 11) 0
    go true true e =
        get_or-set_other table (cell_of n kind column) (cell_of n k 11) (bumped (get_or table (cell_of n kind column) 0) repeated) 0 (other (ltb-true column 11 e))
    go true false e = refl
    go false b e = refl

module _ {rows : ℕ} (table : List ℕ) (n : ℕ) (small : n < rows) (long : length table ≡ rows * 211) (k : ℕ) (kind : k < 16) where
  mark_set : mark (marked table n k) n k ≡ 1
  unfolding marked
  mark_set = rw (lt-ltb k 16 kind) (get_or-set_same table (cell_of n k 11) 1 0 (rw long (cell_below n k 11 small kind (omega arith))))

  -- a charge that leaves the kind unmarked is of another kind
  column_mark : (t column : ℕ) (repeated : Bool) → mark (charge_column table n t column repeated) n k ≡ 0 → (t ≡ k → ⊥) × (mark table n k ≡ 0)
  unfolding charge_column
  column_mark t column repeated e = go (ℕ_discrete t k) (sym (count_mark (marked table n t) n t column repeated k) ∙ e)
    where
      go : Dec (t ≡ k) → mark (marked table n t) n k ≡ 0 → (t ≡ k → ⊥) × (mark table n k ≡ 0)
      go (yes f) e = absurd (omega (arith, mark_set, rw f at e))
      go (no f) e = (f, sym (mark_other table n t (cell_of n k 11) (λ p h. f (sym (cell_inj_kind n k t 11 11 (omega arith) (omega arith) h)))) ∙ e)

  off_kind : (t column c : ℕ) (repeated : Bool) (charged_column : ℕ) → mark (charge_column table n t charged_column repeated) n k ≡ 0
      → (lands_in t column k c ≡ 0) × (mark table n k ≡ 0)
  off_kind t column c repeated charged_column e =
      let h = column_mark t charged_column repeated e in
      (lands_off_kind t column k c h.0, h.1)

  charge_mark : (at : ℕ → ℕ) (need : Need) (repeated : Bool) (c : ℕ) → mark (charge table n need repeated) n k ≡ 0
      → (lands at k c need ≡ 0) × (mark table n k ≡ 0)
  unfolding charge lands
  charge_mark at Nothing r c e = (refl, e)
  charge_mark at (Read t) r c e = off_kind t 8 c r 8 e
  charge_mark at (Write t) r c e = off_kind t 9 c r 9 e
  charge_mark at (Access t) r c e = off_kind t 10 c r 10 e
  charge_mark at (Disclose t g) r c e = off_kind t (at g) c r (place_from table n g 0 (group_count table n)) e

-- Acts of one component that leave a kind unmarked need nothing of it.
pub charged_mark : {rows : ℕ} (n : ℕ) → n < rows → (k : ℕ) → k < 16 → (at : ℕ → ℕ) (c : ℕ) (table : List ℕ) → length table ≡ rows * 211
    → {acts : List Act} → AllOf n acts → mark (charged table acts) n k ≡ 0 → (total (λ a. lands at k c (need_of a)) acts ≡ fin 0) × (mark table n k ≡ 0)
unfolding charged total
charged_mark n small k kind at c table long of_none e = (refl, e)
charged_mark n small k kind at c table long (of_more {a = a} {rest = rest} f more) e =
    let after : List ℕ = charge table n (need_of a) a.repeated in
    let later = charged_mark n small k kind at c after (length_charge table n (need_of a) a.repeated ∙ long) more
    (sym (ap (λ (m : ℕ). mark (charged (charge table m (need_of a) a.repeated) rest) n k) f) ∙ e) in
    let here = charge_mark table n small long k kind at (need_of a) a.repeated c later.1 in
    (rw (here.0, later.0, weighs_nothing a.repeated) (nothing_join (fin 0)), here.1)
