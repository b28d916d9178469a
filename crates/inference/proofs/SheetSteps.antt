-- A whole sheet: the loop that binds the free names' types, and what the walk over the system tells of the sheet that was read.
use Prim.Native.Nat.{ℕ, zero, suc, ◌+◌, ◌-◌, ◌<◌, ◌≤◌}
use mathlib.Core.List.{List, [], ◌∷◌, ◌++◌, append_assoc, append-nil}
use mathlib.Core.Path.{◌≡◌, refl, sym, ◌∙◌}
use native.Mathlib.Numerals.{sub-one}
use native.Mathlib.Omega.{arith}
use borrow.Author.Rules.{rules}
use lib.Dec.{eqb}
use lib.ListN.{length, take, set, length-set}
use Rattle.std.specs.Prelude.{None, Result, Ok, Err}
use Rattle.reading.proofs.Parts.{parts, passed, never, below_found}
use Rattle.reading.proofs.TotalLaws.{system_total}
use Rattle.reading.proofs.TreeLaws.{free_count_lem}
use Rattle.reading.specs.declared.Dialect.TheVariants.{Current as current}
use Rattle.reading.specs.Read.{Read, got, refused, and_then, below}
use Rattle.reading.specs.Syntax.{Sheet, components}
use Rattle.reading.specs.System.{free_types_in, free_types, header_in, header, read_system, to_its_end, read_sheet_in, read_sheet}
use Rattle.reading.specs.Questions.{number_of}
use Rattle.reading.specs.Told.{number}
use Rattle.reading.specs.Total.{system_tree}
use Rattle.reading.specs.Types.{type_at}
use Rattle.reading.specs.declared.Number.{Number}
use Rattle.reading.specs.declared.Refusal.{Refusal}
use Rattle.inference.proofs.WalkLaws.{bound}
use Rattle.inference.specs.Acts.{located}
use Rattle.inference.specs.Told.{sooner}
use Rattle.inference.specs.Walks.{WalkedAt, InferredSheet, LoadedTypes, LoadedFree}
use Rattle.inference.specs.declared.Walker.{Walker}

-- The types bound so far, followed by those that are still to be read, are those that there are in all.
pub record Loading (count : ℕ) (s : List ℕ) (at : ℕ) (scope : List ℕ) (next names : ℕ) : Type 0 where
  pub few : names ≤ count
  pub long : length scope ≡ 64
  pub whole : count ≤ 64 → free_types count s at ≡ and_then (free_types (count - names) s next) (λ us k. got (take names scope ++ us) k)

again : (r : Read (List ℕ)) → r ≡ and_then r (λ us k. got us k)
unfolding and_then
again (got us k) = refl
again (refused q p) = refl

pub load_first : (count : ℕ) (s : List ℕ) (at : ℕ) (scope : List ℕ) → length scope ≡ 64 → Loading count s at scope at 0
load_first count s at scope h = record {
  few = omega arith;
  long = h;
  whole = λ k. let z : count - 0 ≡ count = omega arith in rw z (again (free_types count s at));
}

-- One type more.
one_read : (n : ℕ) (s : List ℕ) (at v next : ℕ) → 0 < n → type_at s at ≡ got v next
    → free_types n s at ≡ and_then (free_types (n - 1) s next) (λ ts m. got (v ∷ ts) m)
unfolding free_types_in and_then
one_read zero s at v next h e = absurd (omega arith)
one_read (suc n) s at v next h e = rw (e, sub-one (suc n))

none_read : (n : ℕ) (s : List ℕ) (at q p : ℕ) → 0 < n → type_at s at ≡ refused q p → free_types n s at ≡ refused q p
unfolding free_types_in and_then
none_read zero s at q p h e = absurd (omega arith)
none_read (suc n) s at q p h e = rw e

joined : (r : Read (List ℕ)) (l : List ℕ) (v : ℕ)
    → and_then (and_then r (λ ts m. got (v ∷ ts) m)) (λ us k. got (l ++ us) k) ≡ and_then r (λ us k. got ((l ++ (v ∷ [])) ++ us) k)
unfolding and_then
joined (got us k) l v = rw append_assoc
joined (refused q p) l v = refl

module _ (count : ℕ) (s : List ℕ) (at : ℕ) (scope : List ℕ) (next names : ℕ) (o : Loading count s at scope next names)
    (r : Result Number Refusal) (e : number r ≡ type_at s next) (h : names < count) where
  pub load_next : (t : Number) (scope₁ : List ℕ) → r ≡ Ok t → scope₁ ≡ set scope names t.value
      → Loading count s at scope₁ t.next (names + 1)
  load_next t scope₁ f b = record {
    few = omega arith;
    long = rw b (length-set scope names t.value ∙ o.long);
    whole = λ k. o.whole k ∙ rw (step) (joined (free_types (count - names - 1) s t.next) (take names scope) t.value) ∙ more k;
  }
    where
      step : free_types (count - names) s next ≡ and_then (free_types (count - names - 1) s t.next) (λ ts m. got (t.value ∷ ts) m)
      step = one_read (count - names) s next t.value t.next (omega arith) (sym (rw f at e))

      more : count ≤ 64 → and_then (free_types (count - names - 1) s t.next) (λ us k. got ((take names scope ++ (t.value ∷ [])) ++ us) k)
          ≡ and_then (free_types (count - (names + 1)) s t.next) (λ us k. got (take (names + 1) scope₁ ++ us) k)
      more k =
          let z : count - (names + 1) ≡ count - names - 1 = omega arith in
          rw (z, b, bound scope names t.value (omega (arith, o.long)))

  pub load_stop : (q : Refusal) → r ≡ Err q → LoadedTypes count s at scope (record { value = names; next = next })
  unfolding and_then
  load_stop q f = record { loaded = λ ts k c g. never (sym (stopped c) ∙ g) }
    where
      none : free_types (count - names) s next ≡ refused (number_of q.question) q.at
      none = none_read (count - names) s next (number_of q.question) q.at (omega arith) (sym (rw f at e))

      stopped : count ≤ 64 → free_types count s at ≡ refused (number_of q.question) q.at
      stopped c = rw none at (o.whole c)

pub load_last : (count : ℕ) (s : List ℕ) (at : ℕ) (scope : List ℕ) (next names : ℕ) → Loading count s at scope next names → count ≤ names
    → LoadedTypes count s at scope (record { value = names; next = next })
unfolding and_then free_types_in
load_last count s at scope next names o h = record { loaded = λ ts k c g. told ts k (sym (all c) ∙ g) }
  where
    all : count ≤ 64 → free_types count s at ≡ got (take names scope ++ []) next
    all c = let z : count - names ≡ 0 = omega arith in rw z at (o.whole c)

    told : (ts : List ℕ) (k : ℕ) → got (take names scope ++ []) next ≡ got ts k → (names ≡ count) × (next ≡ k) × (take count scope ≡ ts)
    told ts k g =
        let l : take names scope ++ [] ≡ ts = cc in
        let n : names ≡ count = omega (arith, o.few) in
        (n, (cc), rw (← n) (sym (append-nil (take names scope)) ∙ l))

-- The header: as many types as its count.
module _ (s scope : List ℕ) (r : Result Number Refusal) (e : number r ≡ below 33 s 0) where
  pub no_header : (q : Refusal) → r ≡ Err q → LoadedFree s scope (record { value = 0; next = 0 })
  unfolding header_in and_then
  no_header q f = record { loaded = λ free at g. never (rw (← e, f) at g) }

  pub header_loaded : (c w : Number) → r ≡ Ok c → LoadedTypes c.value s c.next scope w → LoadedFree s scope w
  unfolding header_in and_then
  header_loaded c w f l = record { loaded = told }
    where
      small : c.value ≤ 64
      small = omega (arith, below_found 33 s 0 {b = c.value} {k = c.next} (sym (rw f at e)))

      told : (free : List ℕ) (at : ℕ) → header s ≡ got free at → (w.value ≡ length free) × (w.next ≡ at) × (take (length free) scope ≡ free)
      told free at g =
          let types : free_types c.value s c.next ≡ got free at = rw (← e, f) at g in
          rw (free_count_lem current c.value s c.next types) (l.loaded free at small types)

-- The two parts of a sheet that was read.
pub record SheetParts (s : List ℕ) (sheet : Sheet) : Type 0 where
  pub at : ℕ
  pub end : ℕ
  pub free_types_lem : header s ≡ got sheet.free at
  pub body : read_system 64 s (length sheet.free) [] 0 at ≡ got sheet.system end

pub sheet_parts : (s : List ℕ) (sheet : Sheet) (end : ℕ) → read_sheet s ≡ got sheet end → SheetParts s sheet
unfolding read_sheet_in to_its_end
sheet_parts s sheet end e =
    let h = parts (header s) (λ free at. and_then (read_system 64 s (length free) [] 0 at) (λ system next. to_its_end s (record { free = free; system = system }) next)) e in
    let i = parts (read_system 64 s (length h.value) [] 0 h.place) (λ system next. to_its_end s (record { free = h.value; system = system }) next) h.rest in
    let j = passed (eqb i.place (length s)) (got (record { free = h.value; system = i.value }) i.place) 3 i.place i.rest in
    let q : record { free = h.value; system = i.value } ≡ sheet = cc in
    rw (← q) (record { at = h.place; end = i.place; free_types_lem = h.first; body = i.first })

pub sheet_inferred : (w w' : Walker) (path table' : List ℕ) (r : Number) (k : ℕ)
    → WalkedAt path (system_tree 64 w.sheet.now r.value path w.components r.next) r.value w w' k
    → path ≡ [] → LoadedFree w.sheet.now w.scope r → w.components ≡ 0 → w.fault ≡ None → table' ≡ w'.table.now
    → (sheet : Sheet) (end : ℕ) → read_sheet w.sheet.now ≡ got sheet end
    → InferredSheet sheet w.table.now table' (record { fault = w'.fault; components = w'.components })
unfolding located sooner
sheet_inferred w w' path table' r k h e f z n q sheet end g =
    let p = sheet_parts w.sheet.now sheet end g in
    let l = f.loaded sheet.free p.at p.free_types_lem in
    let t = system_total 64 w.sheet.now (length sheet.free) [] 0 p.at sheet.system p.end p.body in
    record {
      first = rw (e, z, n, l.0, l.1, l.2, t) at h.first;
      number = let m : w'.components ≡ 0 + components sheet.system = rw (e, z, l.0, l.1, t) at h.number in omega arith;
      counted = q ∙ (rw (e, z, l.0, l.1, l.2, t) at h.counted);
    }

pub ruleset sheet_steps = (rules, load_first, load_next, load_stop, load_last, no_header, header_loaded)
