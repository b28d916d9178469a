-- Reading past a sheet: the free names' types one by one, then the system, then the end; each part's answer decides the whole.
use Prim.Native.Nat.{ℕ, zero, suc, ◌+◌, ◌-◌, ◌<◌, ◌≤◌}
use mathlib.Core.List.{List, [], ◌∷◌}
use mathlib.Core.Path.{◌≡◌, refl, sym, ap, ◌∙◌}
use native.Mathlib.Numerals.{sub-one}
use native.Mathlib.Omega.{arith}
use borrow.Author.Rules.{rules}
use borrow.Author.Tests.{eq-eqb, ne_eqb}
use lib.ListN.{length}
use Rattle.reading.proofs.Parts.{never}
use Rattle.reading.proofs.ProcessSteps.{ended_map}
use Rattle.reading.proofs.TreeLaws.{free_count_lem}
use Rattle.std.specs.Prelude.{Result, Ok, Err}
use Rattle.reading.specs.Read.{Read, got, refused, and_then, below}
use Rattle.reading.specs.Types.{type_at_in}
use Rattle.reading.specs.Syntax.{System, components}
use Rattle.reading.specs.System.{read_system_in, free_types_in, header_in, to_its_end, read_sheet_in}
use Rattle.reading.specs.Questions.{number_of}
use Rattle.reading.specs.Told.{number, ending, ended, counted, counted_in, path_of}
use Rattle.reading.specs.declared.Dialect.{Dialect}
use Rattle.reading.specs.declared.Number.{Number}
use Rattle.reading.specs.declared.Path.{Path}
use Rattle.reading.specs.declared.Refusal.{Refusal}

-- What was read, where only the place after it was kept, or the number of components.
pub record Kept {A : Type 0} (x : Read A) (m : ℕ) : Type 0 where
  pub value : A
  pub is : x ≡ got value m

ended_got : {A : Type 0} (x : Read A) {m : ℕ} → got tt m ≡ ended x → Kept x m
unfolding ended
ended_got (got a k) {m} h = let z : k ≡ m = cc in record { value = a; is = ap (λ (n : ℕ). got a n) z }
ended_got (refused q p) h = never (sym h)

ended_refused : {A : Type 0} (x : Read A) {q p : ℕ} → refused q p ≡ ended x → x ≡ refused q p
unfolding ended
ended_refused (got a k) h = never h
ended_refused (refused a b) {q} {p} h = let v : a ≡ q = cc in let w : b ≡ p = cc in rw (v, w)

-- a system of which the number of components and the place after it were kept
record Numbered (x : Read System) (v m : ℕ) : Type 0 where
  system : System
  is : x ≡ got system m
  number_is : v ≡ components system

counted_got : (x : Read System) {v m : ℕ} → got v m ≡ counted 0 x → Numbered x v m
unfolding counted
counted_got (got a k) {v} {m} h =
    let z : k ≡ m = cc in
    let w : v ≡ 0 + components a = cc in
    record { system = a; is = ap (λ (i : ℕ). got a i) z; number_is = omega (arith, w) }
counted_got (refused q p) h = never (sym h)

counted_refused : (n : ℕ) (x : Read System) {q p : ℕ} → refused q p ≡ counted n x → x ≡ refused q p
unfolding counted
counted_refused n (got a k) h = never h
counted_refused n (refused a b) {q} {p} h = let v : a ≡ q = cc in let w : b ≡ p = cc in rw (v, w)

-- One type, then the rest.
types_step : (d : Dialect) (n : ℕ) (s : List ℕ) (at : ℕ) → 0 < n
    → free_types_in d n s at ≡ and_then (type_at_in d s at) (λ t next. and_then (free_types_in d (n - 1) s next) (λ ts m. got (t ∷ ts) m))
unfolding free_types_in
types_step d zero s at h = absurd (omega arith)
types_step d (suc n) s at h = rw (sub-one (suc n))

-- The loop over the free names' types: `left` of them are still to be read, from `next` on.
pub record TypesLeft (d : Dialect) (s : List ℕ) (at count next left : ℕ) : Type 0 where
  pub same : ended (free_types_in d count s at) ≡ ended (free_types_in d left s next)

pub all_left : (d : Dialect) (s : List ℕ) (at count : ℕ) → TypesLeft d s at count at count
all_left d s at count = record { same = refl }

module _ (d : Dialect) (s : List ℕ) (at count next left : ℕ) (t : TypesLeft d s at count next left) where
  pub none_left : left ≤ 0 → got tt next ≡ ended (free_types_in d count s at)
  unfolding free_types_in ended
  none_left h = let z : left ≡ 0 = omega arith in rw (t.same, z)

  pub type_refused : (r : Result Number Refusal) (w : Refusal) → 0 < left → r ≡ Err w → number r ≡ type_at_in d s next
      → refused (number_of w.question) w.at ≡ ended (free_types_in d count s at)
  unfolding and_then ended
  type_refused r w h f e = let z = sym (rw f at e) in rw (t.same, types_step d left s next h, z)

  pub type_read : (r : Result Number Refusal) (n : Number) (m : ℕ) → m + 1 ≡ left → r ≡ Ok n → number r ≡ type_at_in d s next
      → TypesLeft d s at count n.next m
  unfolding and_then
  type_read r n m h f e =
      let z = sym (rw f at e) in
      let k : m ≡ left - 1 = omega arith in
      record { same = rw (t.same, types_step d left s next (omega arith), z, k) (ended_map (free_types_in d (left - 1) s n.next) (λ ts. n.value ∷ ts)) }

pub ruleset types_left = (rules, all_left, none_left, type_refused, type_read)

-- The parts of a sheet, as the code has them: the count of free names, their types, the system.
record Header (d : Dialect) (s : List ℕ) (n at : ℕ) : Type 0 where
  free : List ℕ
  is : header_in d s ≡ got free at
  count : length free ≡ n

module _ (d : Dialect) (s : List ℕ) (c : Result Number Refusal) where
  pub count_refused : (q : Refusal) → c ≡ Err q → number c ≡ below 33 s 0 → number c ≡ counted_in (read_sheet_in d s)
  unfolding and_then counted_in read_sheet_in header_in
  count_refused q f e = let z = sym (rw f at e) in rw (z, f)

  module _ (n : Number) (f : c ≡ Ok n) (e : number c ≡ below 33 s 0) (t : Result ℕ Refusal) (h : ending t ≡ ended (free_types_in d n.value s n.next)) where
    types_are : header_in d s ≡ free_types_in d n.value s n.next
    unfolding and_then header_in
    types_are = let z = sym (rw f at e) in rw z

    pub types_refused : (w : Refusal) → t ≡ Err w → refused (number_of w.question) w.at ≡ counted_in (read_sheet_in d s)
    unfolding and_then counted_in read_sheet_in
    types_refused w k = rw (types_are, ended_refused (free_types_in d n.value s n.next) {q = number_of w.question} {p = w.at} (rw k at h))

    module _ (at : ℕ) (k : t ≡ Ok at) (p : Path) (i : path_of p ≡ []) (r : Result Number Refusal) (j : number r ≡ counted 0 (read_system_in d 64 s n.value (path_of p) 0 at)) where
      head : Header d s n.value at
      head =
          let z = ended_got (free_types_in d n.value s n.next) {m = at} (rw k at h) in
          record { free = z.value; is = types_are ∙ z.is; count = free_count_lem d n.value s n.next z.is }

      sheet_is : read_sheet_in d s ≡ and_then (read_system_in d 64 s n.value [] 0 at) (λ system next. to_its_end s (record { free = head.free; system = system }) next)
      unfolding and_then read_sheet_in
      sheet_is = rw (head.is, head.count)

      told : number r ≡ counted 0 (read_system_in d 64 s n.value [] 0 at)
      told = rw i at j

      pub system_refused : (q : Refusal) → r ≡ Err q → number r ≡ counted_in (read_sheet_in d s)
      unfolding and_then counted_in
      system_refused q l = rw (sheet_is, counted_refused 0 (read_system_in d 64 s n.value [] 0 at) {q = number_of q.question} {p = q.at} (rw l at told), l)

      module _ (v : Number) (l : r ≡ Ok v) where
        found : Numbered (read_system_in d 64 s n.value [] 0 at) v.value v.next
        found = counted_got (read_system_in d 64 s n.value [] 0 at) {v = v.value} {m = v.next} (rw l at told)

        pub to_its_end_lem : v.next ≡ length s → got v.value v.next ≡ counted_in (read_sheet_in d s)
        unfolding and_then counted_in to_its_end
        to_its_end_lem m = rw (sheet_is, found.is, eq-eqb v.next (length s) m) (ap (λ (n : ℕ). got n v.next) found.number_is)

        pub left_over_lem : (v.next ≡ length s → ⊥) → refused 3 v.next ≡ counted_in (read_sheet_in d s)
        unfolding and_then counted_in to_its_end
        left_over_lem m = rw (sheet_is, found.is, ne_eqb v.next (length s) m)

pub ruleset sheet_steps = (rules, count_refused, types_refused, system_refused, to_its_end_lem, left_over_lem)
