-- The table's cells: which cell a charge changes, and that acts charged one after another leave in each cell of their
-- component's row the count that they need together.
use Prim.Native.Nat.{ℕ, zero, suc, ◌+◌, ◌*◌, ◌<◌, ◌≤◌}
use mathlib.Core.Path.{◌≡◌, refl, sym, ap, ◌∙◌}
use mathlib.Core.List.{List, [], ◌∷◌}
use mathlib.Core.Bool.{Bool, true, false, cond, ◌&&◌}
use mathlib.Core.Logic.{◌⊎◌, inl, inr, ⊎_elim}
use native.Mathlib.Omega.{arith}
use native.Mathlib.Decide.{ℕ_discrete}
use lib.ListN.{length, get_or, set, length-set}
use lib.Seq.{get_or-set_same, get_or-set_other}
use lib.Dec.{ltb, eqb}
use borrow.Author.Tests.{lt-ltb, eq-eqb, ne_eqb, ltb-true, ltb-false}
use Rattle.needs.specs.declared.Need.{Need}
use Rattle.needs.specs.declared.Need.TheVariants.{Nothing, Read, Write, Access, Disclose}
use Rattle.inference.specs.Counts.{Count, fin, unlimited, ◌⊕◌, repeatedly, count_number}
use Rattle.inference.specs.Acts.{Act}
use Rattle.inference.specs.Needs.{need_of, weigh, total}
use Rattle.inference.specs.Rows.{bumped, charge_at, cell_of, charge_cell, marked, charge_column, group_count, group_at, place_from, charge}
use Rattle.inference.specs.Walks.{charged}
use Rattle.inference.proofs.CountLaws.{join_assoc, join_nothing}

-- How often a need lands in the cell of a kind and a column: once or not at all.
unfoldable pub lands_in : ℕ → ℕ → ℕ → ℕ → ℕ
lands_in kind column k c = cond (eqb kind k && eqb column c) 1 0

-- `at` tells the column of a group.
unfoldable pub lands : (ℕ → ℕ) → ℕ → ℕ → Need → ℕ
lands at k c Nothing = 0
lands at k c (Read t) = lands_in t 8 k c
lands at k c (Write t) = lands_in t 9 k c
lands at k c (Access t) = lands_in t 10 k c
lands at k c (Disclose t g) = lands_in t (at g) k c

-- The columns of groups in a component's row.
unfoldable pub Places : List ℕ → ℕ → (ℕ → ℕ) → Type 0
Places table n at = (g : ℕ) → place_from table n g 0 (group_count table n) ≡ at g

-- `times` more in a cell: not at all, or once
unfoldable pub raised : ℕ → ℕ → Bool → ℕ
raised v zero repeated = v
raised v (suc n) repeated = bumped v repeated

pub cell_inj_kind : (n k j c d : ℕ) → c < 12 → d < 12 → cell_of n k c ≡ cell_of n j d → k ≡ j
unfolding cell_of
cell_inj_kind n k j c d r s e = omega arith

pub cell_inj_column : (n k c d : ℕ) → cell_of n k c ≡ cell_of n k d → c ≡ d
unfolding cell_of
cell_inj_column n k c d e = omega arith

pub cell_below : {rows : ℕ} (n k c : ℕ) → n < rows → k < 16 → c < 12 → cell_of n k c < rows * 211
unfolding cell_of
cell_below n k c p q r = omega arith

lands_here : (kind column k c : ℕ) → kind ≡ k → column ≡ c → lands_in kind column k c ≡ 1
unfolding lands_in
lands_here kind column k c p q = rw (eq-eqb kind k p, eq-eqb column c q) refl

pub lands_off_kind : (kind column k c : ℕ) → (kind ≡ k → ⊥) → lands_in kind column k c ≡ 0
unfolding lands_in
lands_off_kind kind column k c p = rw (ne_eqb kind k p) refl

pub lands_off_column : (kind column k c : ℕ) → (column ≡ c → ⊥) → lands_in kind column k c ≡ 0
unfolding lands_in
lands_off_column kind column k c p = rw (ne_eqb column c p) (go (eqb kind k))
  where
    go : (b : Bool) → ◌≡◌ {A = ℕ} (cond (b && false) 1 0) 0
    go true = refl
    go false = refl

-- Marking a kind changes no other cell, nor the table's length.
pub mark_other : (table : List ℕ) (n kind i : ℕ) → (kind < 16 → i ≡ cell_of n kind 11 → ⊥) → get_or (marked table n kind) i 0 ≡ get_or table i 0
unfolding marked
mark_other table n kind i off = go (ltb kind 16) refl
  where
    go : (a : Bool) → ltb kind 16 ≡ a → get_or (cond a (set table (cell_of n kind 11) 1) table) i 0 ≡ get_or table i 0
    go true e = get_or-set_other table (cell_of n kind 11) i 1 0 (off (ltb-true kind 16 e))
    go false e = refl

length_marked : (table : List ℕ) (n kind : ℕ) → length (marked table n kind) ≡ length table
unfolding marked
length_marked table n kind = go (ltb kind 16)
  where
    go : (a : Bool) → length (cond a (set table (cell_of n kind 11) 1) table) ≡ length table
    go true = length-set table (cell_of n kind 11) 1
    go false = refl

mark_count : (table : List ℕ) (n kind k c : ℕ) → c < 11 → get_or (marked table n kind) (cell_of n k c) 0 ≡ get_or table (cell_of n k c) 0
mark_count table n kind k c q =
    mark_other table n kind (cell_of n k c) (λ p e. not_mark (cell_inj_kind n k kind c 11 (omega arith) (omega arith) e) e)
  where
    not_mark : k ≡ kind → cell_of n k c ≡ cell_of n kind 11 → ⊥
    not_mark f e = omega (arith, cell_inj_column n k c 11 (e ∙ ap (λ (x : ℕ). cell_of n x 11) (sym f)))

module _ {rows : ℕ} (table : List ℕ) (n : ℕ) (small : n < rows) (long : length table ≡ rows * 211) (repeated : Bool) where
  charge_in : (kind column k c : ℕ) → k < 16 → c < 11 → kind < 16 → column < 11
      → get_or (charge_at table (cell_of n kind column) repeated) (cell_of n k c) 0
      ≡ raised (get_or table (cell_of n k c) 0) (lands_in kind column k c) repeated
  unfolding charge_at raised
  charge_in kind column k c p q r s = go (ℕ_discrete kind k) (ℕ_discrete column c)
    where
      go : Dec (kind ≡ k) → Dec (column ≡ c)
          → get_or (set table (cell_of n kind column) (bumped (get_or table (cell_of n kind column) 0) repeated)) (cell_of n k c) 0
          ≡ raised (get_or table (cell_of n k c) 0) (lands_in kind column k c) repeated
      go (yes e) (yes f) =
          rw (lands_here kind column k c e f, e, f)
          (get_or-set_same table (cell_of n k c) (bumped (get_or table (cell_of n k c) 0) repeated) 0 (rw long (cell_below n k c small p (omega arith))))
      go (yes e) (no f) =
          rw (lands_off_column kind column k c f)
          (get_or-set_other table (cell_of n kind column) (cell_of n k c) (bumped (get_or table (cell_of n kind column) 0) repeated) 0
          (λ h. f (sym (cell_inj_column n k c column (h ∙ ap (λ (x : ℕ). cell_of n x column) e)))))
      go (no e) f =
          rw (lands_off_kind kind column k c e)
          (get_or-set_other table (cell_of n kind column) (cell_of n k c) (bumped (get_or table (cell_of n kind column) 0) repeated) 0
          (λ h. e (sym (cell_inj_kind n k kind c column (omega arith) (omega arith) h))))

  charge_cell_lem : (kind column k c : ℕ) → k < 16 → c < 11
      → get_or (charge_cell table n kind column repeated) (cell_of n k c) 0
      ≡ raised (get_or table (cell_of n k c) 0) (lands_in kind column k c) repeated
  unfolding charge_cell raised
  charge_cell_lem kind column k c p q = go (ltb kind 16) (ltb column 11) refl refl
    where
      go : (a b : Bool) → ltb kind 16 ≡ a → ltb column 11 ≡ b
          → get_or (cond (a && b) (charge_at table (cell_of n kind column) repeated) table) (cell_of n k c) 0
          ≡ raised (get_or table (cell_of n k c) 0) (lands_in kind column k c) repeated
      go true true e f = charge_in kind column k c p q (ltb-true kind 16 e) (ltb-true column 11 f)
      go true false e f = rw (lands_off_column kind column k c (λ h. absurd (omega (arith, ltb-false column 11 f)))) refl
      go false b e f = rw (lands_off_kind kind column k c (λ h. absurd (omega (arith, ltb-false kind 16 e)))) refl

module _ {rows : ℕ} (table : List ℕ) (n : ℕ) (small : n < rows) (long : length table ≡ rows * 211) (repeated : Bool) where
  charge_column_lem : (kind column k c : ℕ) → k < 16 → c < 11
      → get_or (charge_column table n kind column repeated) (cell_of n k c) 0
      ≡ raised (get_or table (cell_of n k c) 0) (lands_in kind column k c) repeated
  unfolding charge_column
  charge_column_lem kind column k c p q =
      charge_cell_lem (marked table n kind) n small (length_marked table n kind ∙ long) repeated kind column k c p q
      ∙ ap (λ (v : ℕ). raised v (lands_in kind column k c) repeated) (mark_count table n kind k c q)

  -- a charge raises the cell of the component's row in which it lands
  pub charge_lands : (at : ℕ → ℕ) → Places table n at → (need : Need) (k c : ℕ) → k < 16 → c < 11
      → get_or (charge table n need repeated) (cell_of n k c) 0 ≡ raised (get_or table (cell_of n k c) 0) (lands at k c need) repeated
  unfolding charge lands raised Places
  charge_lands at places Nothing k c p q = refl
  charge_lands at places (Read t) k c p q = charge_column_lem t 8 k c p q
  charge_lands at places (Write t) k c p q = charge_column_lem t 9 k c p q
  charge_lands at places (Access t) k c p q = charge_column_lem t 10 k c p q
  charge_lands at places (Disclose t g) k c p q = rw (places g) (charge_column_lem t (at g) k c p q)

-- outside the cells of a component's row from the nineteenth on
unfoldable pub Outside : ℕ → ℕ → Type 0
Outside n i = (i < n * 211 + 18) ⊎ (n * 211 + 210 ≤ i)

outside_cell : (n kind column i : ℕ) → kind < 16 → column < 12 → Outside n i → i ≡ cell_of n kind column → ⊥
unfolding Outside cell_of
outside_cell n kind column i p q o e = ⊎_elim (λ h. omega arith) (λ h. omega arith) o

module _ (n : ℕ) (repeated : Bool) (i : ℕ) (out : Outside n i) (table : List ℕ) where
  charge_cell_kept : (kind column : ℕ) → get_or (charge_cell table n kind column repeated) i 0 ≡ get_or table i 0
  unfolding charge_cell charge_at
  charge_cell_kept kind column = go (ltb kind 16) (ltb column 11) refl refl
    where
      go : (a b : Bool) → ltb kind 16 ≡ a → ltb column 11 ≡ b
          → get_or (cond (a && b) (set table (cell_of n kind column) (bumped (get_or table (cell_of n kind column) 0) repeated)) table) i 0
          ≡ get_or table i 0
      go true true e f =
          get_or-set_other table (cell_of n kind column) i (bumped (get_or table (cell_of n kind column) 0) repeated) 0
          (outside_cell n kind column i (ltb-true kind 16 e) (omega (arith, ltb-true column 11 f)) out)
      go true false e f = refl
      go false b e f = refl

module _ (n : ℕ) (repeated : Bool) (i : ℕ) (out : Outside n i) (table : List ℕ) where
  charge_column_kept : (kind column : ℕ) → get_or (charge_column table n kind column repeated) i 0 ≡ get_or table i 0
  unfolding charge_column
  charge_column_kept kind column =
      charge_cell_kept n repeated i out (marked table n kind) kind column
      ∙ mark_other table n kind i (λ p. outside_cell n kind 11 i p (omega arith) out)

  pub charge_kept : (need : Need) → get_or (charge table n need repeated) i 0 ≡ get_or table i 0
  unfolding charge
  charge_kept Nothing = refl
  charge_kept (Read t) = charge_column_kept t 8
  charge_kept (Write t) = charge_column_kept t 9
  charge_kept (Access t) = charge_column_kept t 10
  charge_kept (Disclose t g) = charge_column_kept t (place_from table n g 0 (group_count table n))

-- tables that agree on a row's groups agree on the groups' columns
pub same_places : (table table' : List ℕ) (n : ℕ) → ((i : ℕ) → n * 211 ≤ i → i < n * 211 + 18 → get_or table' i 0 ≡ get_or table i 0)
    → (g place left : ℕ) → place + left ≤ 8 → place_from table' n g place left ≡ place_from table n g place left
unfolding place_from group_at
same_places table table' n same g place zero h = refl
same_places table table' n same g place (suc left) h =
    rw (same (n * 211 + (10 + place)) (omega arith) (omega arith), same_places table table' n same g (suc place) left (omega arith))

pub same_count : (table table' : List ℕ) (n : ℕ) → ((i : ℕ) → n * 211 ≤ i → i < n * 211 + 18 → get_or table' i 0 ≡ get_or table i 0)
    → group_count table' n ≡ group_count table n
unfolding group_count
same_count table table' n same = rw (same (n * 211 + 9) (omega arith) (omega arith))

pub count_few : (table : List ℕ) (n : ℕ) → group_count table n ≤ 8
unfolding group_count
count_few table n = omega arith

places_kept : (table : List ℕ) (n : ℕ) (need : Need) (repeated : Bool) (at : ℕ → ℕ) → Places table n at → Places (charge table n need repeated) n at
unfolding Places
places_kept table n need repeated at places g =
    rw (same_count table (charge table n need repeated) n same)
    (same_places table (charge table n need repeated) n same g 0 (group_count table n) (omega (arith, count_few table n)) ∙ places g)
  where
    same : (i : ℕ) → n * 211 ≤ i → i < n * 211 + 18 → get_or (charge table n need repeated) i 0 ≡ get_or table i 0
    same i p q = charge_kept n repeated i (unfold Outside in inl q) table need

length_charge_cell : (table : List ℕ) (n kind column : ℕ) (repeated : Bool) → length (charge_cell table n kind column repeated) ≡ length table
unfolding charge_cell charge_at
length_charge_cell table n kind column repeated = go (ltb kind 16 && ltb column 11)
  where
    go : (b : Bool) → length (cond b (set table (cell_of n kind column) (bumped (get_or table (cell_of n kind column) 0) repeated)) table) ≡ length table
    go true = length-set table (cell_of n kind column) (bumped (get_or table (cell_of n kind column) 0) repeated)
    go false = refl

length_charge_column : (table : List ℕ) (n kind column : ℕ) (repeated : Bool) → length (charge_column table n kind column repeated) ≡ length table
unfolding charge_column
length_charge_column table n kind column repeated =
    length_charge_cell (marked table n kind) n kind column repeated ∙ length_marked table n kind

pub length_charge : (table : List ℕ) (n : ℕ) (need : Need) (repeated : Bool) → length (charge table n need repeated) ≡ length table
unfolding charge
length_charge table n Nothing repeated = refl
length_charge table n (Read t) repeated = length_charge_column table n t 8 repeated
length_charge table n (Write t) repeated = length_charge_column table n t 9 repeated
length_charge table n (Access t) repeated = length_charge_column table n t 10 repeated
length_charge table n (Disclose t g) repeated = length_charge_column table n t (place_from table n g 0 (group_count table n)) repeated

-- All acts are of one component.
pub data AllOf (n : ℕ) : List Act → Type 0 where
  of_none : AllOf n []
  of_more : {a : Act} {rest : List Act} → a.component.number ≡ n → AllOf n rest → AllOf n (a ∷ rest)

pub length_charged : (table : List ℕ) (acts : List Act) → length (charged table acts) ≡ length table
unfolding charged
length_charged table [] = refl
length_charged table (a ∷ rest) =
    length_charged (charge table a.component.number (need_of a) a.repeated) rest
    ∙ length_charge table a.component.number (need_of a) a.repeated

-- the acts of one component change nothing outside its row
pub charged_kept : (n i : ℕ) → Outside n i → (table : List ℕ) {acts : List Act} → AllOf n acts → get_or (charged table acts) i 0 ≡ get_or table i 0
unfolding charged
charged_kept n i out table of_none = refl
charged_kept n i out table (of_more {a = a} {rest = rest} e more) =
    charged_kept n i out (charge table a.component.number (need_of a) a.repeated) more
    ∙ ap (λ (m : ℕ). get_or (charge table m (need_of a) a.repeated) i 0) e
    ∙ charge_kept n a.repeated i out table (need_of a)

-- a count with a few more to come is no 65,535
unfoldable pub Few : Count → ℕ → Type 0
Few (fin m) more = m + more ≤ 65000
Few unlimited more = Unit {0}

raise_once : (x : Count) (more : ℕ) (repeated : Bool) → Few x (suc more)
    → bumped (count_number x) repeated ≡ count_number (x ⊕ weigh repeated 1)
unfolding bumped count_number ◌⊕◌ weigh repeatedly Few
raise_once (fin m) more true h = refl
raise_once unlimited more true h = refl
raise_once (fin m) more false h = rw (lt-ltb m 65534 (omega arith)) refl
raise_once unlimited more false h = refl

plus_none : (x : Count) (repeated : Bool) → x ⊕ weigh repeated 0 ≡ x
unfolding ◌⊕◌ weigh repeatedly
plus_none (fin m) true = ap fin (omega arith)
plus_none (fin m) false = ap fin (omega arith)
plus_none unlimited true = refl
plus_none unlimited false = refl

lands_in_few : (kind column k c : ℕ) → (lands_in kind column k c ≡ 0) ⊎ (lands_in kind column k c ≡ 1)
unfolding lands_in
lands_in_few kind column k c = go (eqb kind k && eqb column c)
  where
    go : (b : Bool) → (◌≡◌ {A = ℕ} (cond b 1 0) 0) ⊎ (◌≡◌ {A = ℕ} (cond b 1 0) 1)
    go true = inr refl
    go false = inl refl

pub lands_few : (at : ℕ → ℕ) (k c : ℕ) (need : Need) → (lands at k c need ≡ 0) ⊎ (lands at k c need ≡ 1)
unfolding lands
lands_few at k c Nothing = inl refl
lands_few at k c (Read t) = lands_in_few t 8 k c
lands_few at k c (Write t) = lands_in_few t 9 k c
lands_few at k c (Access t) = lands_in_few t 10 k c
lands_few at k c (Disclose t g) = lands_in_few t (at g) k c

-- a cell that holds x, raised by a weight of 0 or 1, holds x joined with it
raise : (x : Count) (more w : ℕ) (repeated : Bool) → (w ≡ 0) ⊎ (w ≡ 1) → Few x (suc more)
    → raised (count_number x) w repeated ≡ count_number (x ⊕ weigh repeated w)
unfolding raised
raise x more w repeated few h =
    ⊎_elim
    (λ e. ap (λ (v : ℕ). raised (count_number x) v repeated) e ∙ ap count_number (sym (plus_none x repeated))
    ∙ ap (λ (v : ℕ). count_number (x ⊕ weigh repeated v)) (sym e))
    (λ e. ap (λ (v : ℕ). raised (count_number x) v repeated) e ∙ raise_once x more repeated h
    ∙ ap (λ (v : ℕ). count_number (x ⊕ weigh repeated v)) (sym e))
    few

pub few_weigh : (x : Count) (more w : ℕ) (repeated : Bool) → (w ≡ 0) ⊎ (w ≡ 1) → Few x (suc more) → Few (x ⊕ weigh repeated w) more
unfolding Few ◌⊕◌ weigh repeatedly
few_weigh (fin m) more zero true few h = omega arith
few_weigh (fin m) more (suc w) true few h = tt
few_weigh (fin m) more w false few h = ⊎_elim (λ e. omega arith) (λ e. omega arith) few
few_weigh unlimited more zero true few h = tt
few_weigh unlimited more (suc w) true few h = tt
few_weigh unlimited more w false few h = tt

-- Acts of one component leave in each cell of its row what stood there joined with what they need.
pub charged_count : {rows : ℕ} (n : ℕ) → n < rows → (at : ℕ → ℕ) (k c : ℕ) → k < 16 → c < 11 → (table : List ℕ) → length table ≡ rows * 211
    → Places table n at → (x : Count) → get_or table (cell_of n k c) 0 ≡ count_number x → {acts : List Act} → AllOf n acts → Few x (length acts)
    → get_or (charged table acts) (cell_of n k c) 0 ≡ count_number (x ⊕ total (λ a. lands at k c (need_of a)) acts)
unfolding charged total
charged_count n small at k c p q table long places x e of_none few = rw (join_nothing x) e
charged_count n small at k c p q table long places x e (of_more {a = a} {rest = rest} f more) few =
    ap (λ (m : ℕ). get_or (charged (charge table m (need_of a) a.repeated) rest) (cell_of n k c) 0) f
    ∙ charged_count n small at k c p q (charge table n (need_of a) a.repeated)
    (length_charge table n (need_of a) a.repeated ∙ long)
    (places_kept table n (need_of a) a.repeated at places)
    (x ⊕ weigh a.repeated (lands at k c (need_of a)))
    (charge_lands table n small long a.repeated at places (need_of a) k c p q
    ∙ ap (λ (v : ℕ). raised v (lands at k c (need_of a)) a.repeated) e
    ∙ raise x (length rest) (lands at k c (need_of a)) a.repeated (lands_few at k c (need_of a)) few)
    more
    (few_weigh x (length rest) (lands at k c (need_of a)) a.repeated (lands_few at k c (need_of a)) few)
    ∙ ap count_number (join_assoc x (weigh a.repeated (lands at k c (need_of a))) (total (λ b. lands at k c (need_of b)) rest))
