-- The start of a run, return by return: the loops that give the free names and make them known, and what the walk over the
-- system tells of the sheet that was read.
use Prim.Native.Nat.{ℕ, zero, suc, ◌+◌, ◌-◌, ◌<◌, ◌≤◌}
use mathlib.Core.Bool.{Bool, true, false}
use mathlib.Core.Path.{◌≡◌, refl, sym, ap, ◌∙◌}
use mathlib.Core.List.{List, [], ◌∷◌, ◌++◌, append_assoc, append-nil}
use native.Mathlib.Numerals.{add-one, sub-one}
use native.Mathlib.Omega.{arith}
use borrow.Author.Rules.{rules}
use lib.ListN.{length, get_or, take, set, replicate, length-append, length-set}
use lib.Seq.{take-suc-set}
use Rattle.reading.proofs.Parts.{parts, never, below_found}
use Rattle.reading.proofs.TreeLaws.{free_count_lem, components_few}
use Rattle.reading.specs.declared.Dialect.TheVariants.{Current as current}
use Rattle.reading.specs.Read.{got, refused, and_then, below}
use Rattle.reading.specs.Syntax.{Sheet, components}
use Rattle.reading.specs.System.{free_types_in, free_types, header_in, read_system, read_sheet}
use Rattle.reading.specs.Questions.{number_of}
use Rattle.reading.specs.Told.{number}
use Rattle.std.specs.Prelude.{Result, Ok, Err}
use Rattle.reading.specs.Types.{type_at}
use Rattle.reading.specs.declared.Number.{Number}
use Rattle.reading.specs.declared.Refusal.{Refusal}
use Rattle.decoding.specs.Notes.{SystemNoted}
use Rattle.decoding.specs.Tables.{system_in}
use Rattle.decoding.proofs.FormFacts.{small_type}
use Rattle.decoding.proofs.NoteSteps.{system_in_lem}
use Rattle.inference.specs.Lists.{rising}
use Rattle.inference.proofs.SheetSteps.{SheetParts, sheet_parts}
use Rattle.running.specs.Products.{start, system_news}
use Rattle.memory.specs.Chains.{bound, chain}
use Rattle.memory.specs.declared.Thread.{Thread as Place}
use Rattle.memory.proofs.ChainLaws.{chain_bound, bound_length}
use Rattle.products.specs.declared.Sizes.{Sizes}
use Rattle.products.specs.declared.Made.{Made}
use Rattle.products.specs.declared.MadeSystem.{MadeSystem}
use Rattle.products.specs.Pairs.{none}
use Rattle.products.specs.Makes.{Ready, MakesSystem, Gives}
use Rattle.products.specs.Begins.{or_zero, free_count, first_known, Room, Named, GivenTypes, GivenFree, MadeSheet}
use Rattle.products.specs.Starts.{Blank, Starts}
use Rattle.products.proofs.GrowLaws.{system_crowd_counts}
use Rattle.products.proofs.GiveLaws.{given_small}

-- The number of free names.
module _ (s : List ℕ) (r : Result Number Refusal) (e : number r ≡ below 33 s 0) where
  pub count_none : (q : Refusal) → r ≡ Err q → record { value = 0; next = 0 } ≡ free_count s
  unfolding free_count or_zero
  count_none q f = rw (← e, f)

  pub count_found : (n : Number) → r ≡ Ok n → n ≡ free_count s
  unfolding free_count or_zero
  count_found n f = rw (← e, f)

-- The first names become known, one after another.
known_next : (n : ℕ) (known : List Bool) → set (first_known n known) n true ≡ first_known (n + 1) known
unfolding first_known
known_next n known = rw (add-one n) (go n known)
  where
    go : (n : ℕ) (known : List Bool) → set (first_known n known) n true ≡ first_known (suc n) known
    go zero [] = refl
    go zero (k ∷ known) = refl
    go (suc n) [] = refl
    go (suc n) (k ∷ known) = ap (λ l. true ∷ l) (go n known)

pub record Knowing (count : ℕ) (known₀ : List Bool) (i : ℕ) (known : List Bool) : Type 0 where
  pub few : i ≤ count
  pub same : length known ≡ length known₀
  pub so_far : known ≡ first_known i known₀

pub know_none : (count : ℕ) (known : List Bool) → Knowing count known 0 known
unfolding first_known
know_none count known = record { few = omega arith; same = refl; so_far = refl }

pub know_next : (count : ℕ) (known₀ : List Bool) (i : ℕ) (known known₁ : List Bool) → Knowing count known₀ i known → i < count
    → known₁ ≡ set known i true → Knowing count known₀ (i + 1) known₁
know_next count known₀ i known known₁ o h e = record {
  few = omega arith;
  same = rw e (length-set known i true ∙ o.same);
  so_far = e ∙ (rw o.so_far (known_next i known₀));
}

pub know_last : (count : ℕ) (known₀ : List Bool) (i : ℕ) (known : List Bool) → Knowing count known₀ i known → count ≤ i → known ≡ first_known count known₀
know_last count known₀ i known o h = let n : i ≡ count = omega (arith, o.few) in rw n at o.so_far

all_unknown : (n : ℕ) (known : List Bool) → ((i : ℕ) → get_or known i false ≡ false) → n ≤ length known → take n known ≡ replicate n false
all_unknown zero known h k = refl
all_unknown (suc n) [] h k = absurd (omega arith)
all_unknown (suc n) (x ∷ known) h k = rw (h 0) (ap (λ l. false ∷ l) (all_unknown n known (λ i. h (suc i)) (omega arith)))

known_first : (n all : ℕ) (known : List Bool) → ((i : ℕ) → get_or known i false ≡ false) → n ≤ all → all ≤ length known
    → take all (first_known n known) ≡ replicate n true ++ replicate (all - n) false
unfolding first_known
known_first zero all known h k l = let z : all - 0 ≡ all = omega arith in rw z (all_unknown all known h l)
known_first (suc n) zero known h k l = absurd (omega arith)
known_first (suc n) (suc all) [] h k l = absurd (omega arith)
known_first (suc n) (suc all) (x ∷ known) h k l =
    let z : suc all - suc n ≡ all - n = omega arith in
    rw z (ap (λ m. true ∷ m) (known_first n all known (λ i. h (suc i)) (omega arith) (omega arith)))

known_after_lem : (n i : ℕ) (known : List Bool) → ((j : ℕ) → get_or known j false ≡ false) → n ≤ i → get_or (first_known n known) i false ≡ false
unfolding first_known
known_after_lem zero i known h k = h i
known_after_lem (suc n) i [] h k = h i
known_after_lem (suc n) zero (x ∷ known) h k = absurd (omega arith)
known_after_lem (suc n) (suc i) (x ∷ known) h k = known_after_lem n i known (λ j. h (suc j)) (omega arith)

-- The run names of the free names.
rising_last : (from n : ℕ) → rising from n ++ ((from + n) ∷ []) ≡ rising from (n + 1)
unfolding rising
rising_last from n = rw (add-one n) (go from n)
  where
    go : (from n : ℕ) → rising from n ++ ((from + n) ∷ []) ≡ rising from (suc n)
    go from zero = let z : from + 0 ≡ from = omega arith in rw z
    go from (suc n) = let z : from + suc n ≡ suc from + n = omega arith in rw z (ap (λ l. from ∷ l) (go (suc from) n))

-- One type more.
record FirstType (n : ℕ) (s : List ℕ) (ts : List ℕ) (end v next : ℕ) : Type 0 where
  others : List ℕ
  split : ts ≡ v ∷ others
  left : free_types (n - 1) s next ≡ got others end

first_type : (n : ℕ) (s : List ℕ) (at : ℕ) (ts : List ℕ) (end v next : ℕ) → 0 < n → type_at s at ≡ got v next → free_types n s at ≡ got ts end
    → FirstType n s ts end v next
unfolding free_types_in and_then
first_type zero s at ts end v next h e f = absurd (omega arith)
first_type (suc n) s at ts end v next h e f =
    let p = parts (free_types n s next) (λ us m. got (v ∷ us) m) (rw e at f) in
    record { others = p.value; split = cc; left = rw (sub-one (suc n)) (p.first ∙ cc) }

no_type : (n : ℕ) (s : List ℕ) (at : ℕ) (ts : List ℕ) (end q p : ℕ) {P : Type 0} → 0 < n → type_at s at ≡ refused q p → free_types n s at ≡ got ts end → P
unfolding free_types_in and_then
no_type zero s at ts end q p h e f = absurd (omega arith)
no_type (suc n) s at ts end q p h e f = never (rw e at f)

-- The names given so far, with the types that are still to be read, are those that there are in all.
pub record SoFar (count : ℕ) (s ts : List ℕ) (end next given : ℕ) (types cells : List ℕ) (z : Sizes) : Type 0 where
  pub others : List ℕ
  pub left : free_types (count - given) s next ≡ got others end
  pub whole : take given types ++ others ≡ ts
  pub named : Named given (take given types) types cells z

pub record Giving (count : ℕ) (s : List ℕ) (at : ℕ) (types₀ cells₀ : List ℕ) (next given : ℕ) (types cells : List ℕ) (z : Sizes) : Type 0 where
  pub few : given ≤ count
  pub same_types : length types ≡ length types₀
  pub same_cells : length cells ≡ length cells₀
  pub so_far : Room types₀ cells₀ → count ≤ 64 → (ts : List ℕ) (end : ℕ) → free_types count s at ≡ got ts end
      → SoFar count s ts end next given types cells z

pub give_first : (count : ℕ) (s : List ℕ) (at : ℕ) (types cells : List ℕ)
    → Giving count s at types cells at 0 types cells (record { threads = 0; names = 0; cells = 1 })
unfolding chain rising
give_first count s at types cells = record {
  few = omega arith;
  same_types = refl;
  same_cells = refl;
  so_far = λ room c ts end h.
      let z : count - 0 ≡ count = omega arith in
      record {
        others = ts;
        left = rw z h;
        whole = refl;
        named = record { room = room; sizes = refl; typed = refl; chained = refl };
      };
}

-- One name more.
module _ (given u : ℕ) (types types₁ cells cells₁ : List ℕ) (z z₁ : Sizes) (h : given < 64) (n : Named given (take given types) types cells z)
    (g : Gives z u given types types₁ cells cells₁ z₁) where
  one_named : (take (given + 1) types₁ ≡ take given types ++ (u ∷ [])) × Named (given + 1) (take (given + 1) types₁) types₁ cells₁ z₁
  one_named =
      let names_are : z.names ≡ given = ap (λ x. x.names) n.sizes in
      let cells_are : z.cells ≡ given + 1 = ap (λ x. x.cells) n.sizes in
      let k = given_small z z₁ u given types types₁ cells cells₁ (omega (arith, names_are)) (omega (arith, cells_are)) g in
      let types_are : types₁ ≡ set types given u = rw names_are at k.1 in
      let bound_are : cells₁ ≡ bound cells (given + 1) given given = rw (names_are, cells_are) at k.2 in
      let length_types : length types₁ ≡ 1024 = rw types_are (length-set types given u ∙ n.room.type_room) in
      let length_cells : length cells₁ ≡ length cells = rw bound_are (bound_length cells (given + 1) given given) in (
        rw (types_are, add-one given) (take-suc-set types given u (omega (arith, n.room.type_room))),
        record {
          room = record {
            type_room = length_types;
            cell_room = omega (arith, length_cells, n.room.cell_room);
            cell_few = omega (arith, length_cells, n.room.cell_few);
          };
          sizes = k.0 ∙ rw n.sizes refl;
          typed = refl;
          chained =
              rw (bound_are, chain_bound cells given (given + 1) given given (omega arith) (omega (arith, n.room.cell_room)) (omega arith) (omega arith), n.chained)
              (let zero_more : 0 + given ≡ given = omega arith in rw zero_more at (rising_last 0 given));
        },
      )

module _ (count : ℕ) (s : List ℕ) (at : ℕ) (types₀ cells₀ : List ℕ) (next given : ℕ) (types cells : List ℕ) (z : Sizes)
    (o : Giving count s at types₀ cells₀ next given types cells z) (r : Result Number Refusal) (e : number r ≡ type_at s next) (h : given < count) where
  pub type_fits : (t : Number) → r ≡ Ok t → t.value < 4294967296
  type_fits t f = let k = small_type s next (sym e ∙ ap number f) in omega arith

  pub give_next : (t : Number) (types₁ cells₁ : List ℕ) (z₁ : Sizes) → r ≡ Ok t → length types₁ ≡ length types → length cells₁ ≡ length cells
      → Gives z t.value given types types₁ cells cells₁ z₁ → Giving count s at types₀ cells₀ t.next (given + 1) types₁ cells₁ z₁
  give_next t types₁ cells₁ z₁ f i j g = record {
    few = omega arith;
    same_types = i ∙ o.same_types;
    same_cells = j ∙ o.same_cells;
    so_far = λ room c ts end all.
        let b = o.so_far room c ts end all in
        let p = first_type (count - given) s next b.others end t.value t.next (omega arith) (sym (rw f at e)) b.left in
        let n = one_named given t.value types types₁ cells cells₁ z z₁ (omega arith) b.named g in
        let k : count - given - 1 ≡ count - (given + 1) = omega arith in
        record {
          others = p.others;
          left = rw k at p.left;
          whole = rw (n.0, append_assoc (take given types) (t.value ∷ []) p.others, ← p.split) b.whole;
          named = n.1;
        };
  }

  pub give_stop : (q : Refusal) → r ≡ Err q → GivenTypes count s at types₀ types cells₀ cells (record { next = next; sizes = z })
  give_stop q f = record {
    given = λ room c ts end all.
        let b = o.so_far room c ts end all in
        no_type (count - given) s next b.others end (number_of q.question) q.at (omega arith) (sym (rw f at e)) b.left;
  }

pub give_last : (count : ℕ) (s : List ℕ) (at : ℕ) (types₀ cells₀ : List ℕ) (next given : ℕ) (types cells : List ℕ) (z : Sizes)
    → Giving count s at types₀ cells₀ next given types cells z → count ≤ given
    → GivenTypes count s at types₀ types cells₀ cells (record { next = next; sizes = z })
unfolding free_types_in
give_last count s at types₀ cells₀ next given types cells z o h = record {
  given = λ room c ts end all.
      let b = o.so_far room c ts end all in
      let n : given ≡ count = omega (arith, o.few) in
      let k : count - given ≡ 0 = omega arith in
      let last : got [] next ≡ got b.others end = rw k at b.left in
      let empty : [] ≡ b.others = cc in
      let whole : take given types ≡ ts = sym (append-nil (take given types)) ∙ rw (← empty) at b.whole in
      (cc, rw (whole, n) at b.named);
}

-- The header.
pub header_given : (s : List ℕ) (c : Number) (types types' cells cells' : List ℕ) (r : Made) → c ≡ free_count s
    → GivenTypes c.value s c.next types types' cells cells' r → GivenFree s types types' cells cells' r
unfolding free_count or_zero header_in
header_given s c types types' cells cells' r e g = record {
  given = λ room free at h.
      let p = parts (below 33 s 0) (λ n next. free_types n s next) h in
      let is : c ≡ record { value = p.value; next = p.place } = rw p.first at e in
      let number : length free ≡ p.value = free_count_lem current p.value s p.place p.rest in
      let few : p.value ≤ 64 = omega (arith, below_found 33 s 0 p.first) in
      rw (← number) at ((rw is at g).given room few free at p.rest);
}

-- As many names are free as the header counts.
free_counted : (s : List ℕ) (sheet : Sheet) → SheetParts s sheet → ((free_count s).value ≡ length sheet.free) × (length sheet.free ≤ 32)
unfolding free_count or_zero header_in
free_counted s sheet h =
    let p = parts (below 33 s 0) (λ n next. free_types n s next) h.free_types_lem in
    let number : length sheet.free ≡ p.value = free_count_lem current p.value s p.place p.rest in
    (rw p.first (sym number), omega (arith, below_found 33 s 0 p.first))

-- What the walk over the system makes of the sheet, from the forms that were noted.
module _ (s forms₀ forms threads threads₁ threads' types types₁ types' cells cells₁ cells' : List ℕ) (g : Made) (noted : ℕ) (m : MadeSystem)
    (same : length threads₁ ≡ length threads) where
  abbrev place : Place
  place = record { component = 0; env = g.sizes.names; names = g.sizes.names; nest = 64; at = g.next }

  pub sheet_made : GivenFree s types types₁ cells cells₁ g → SystemNoted s g.next 64 forms₀ forms noted
      → (0 + components (system_in 64 forms g.next) ≤ 32 → Ready place g.sizes threads₁ types₁ cells₁
      → MakesSystem forms place (system_in 64 forms g.next) g.sizes threads₁ threads' types₁ types' cells₁ cells' m)
      → length s ≤ length forms₀ → 64 ≤ length threads → Room types cells → (sheet : Sheet) (end : ℕ) → length s ≤ 4096 → read_sheet s ≡ got sheet end
      → MadeSheet forms sheet threads' types' cells' m.sizes
  unfolding start
  sheet_made f notes makes wide long room sheet end short read =
      let p = sheet_parts s sheet end read in
      let free = sheet.free in
      let count = length sheet.free in
      let few : count ≤ 32 = (free_counted s sheet p).1 in
      let b = f.given room free p.at p.free_types_lem in
      let n = b.1 in
      let threads_are : g.sizes.threads ≡ 0 = ap (λ x. x.threads) n.sizes in
      let names_are : g.sizes.names ≡ count = ap (λ x. x.names) n.sizes in
      let cells_are : g.sizes.cells ≡ count + 1 = ap (λ x. x.cells) n.sizes in
      let body : read_system 64 s count [] 0 g.next ≡ got sheet.system p.end = rw b.0 p.body in
      let ready : Ready place g.sizes threads₁ types₁ cells₁ = record {
        component = omega arith;
        scope = omega (arith, names_are);
        deep = omega arith;
        place = omega (arith, short, system_in_lem s g.next 64 count [] 0 body);
        env = omega (arith, names_are, cells_are);
        few = omega (arith, threads_are);
        given = omega (arith, names_are);
        slack = omega (arith, names_are, cells_are, n.room.cell_room);
        made_room = omega (arith, long, same);
        types_room = n.room.type_room;
        cells_room = n.room.cell_few;
      } in
      let n_forms = notes (record { short = short; long = wide }) count [] 0 sheet.system p.end body in
      let tree : system_in 64 forms g.next ≡ sheet.system = n_forms.decoded forms (λ i h k. refl) in
      let few_components : components sheet.system ≤ 32 = (let f = components_few current 64 s count [] 0 g.next (omega arith) body in omega arith) in
      let w = rw tree at (makes (rw tree (omega (arith, few_components))) ready) in
      let scope : chain cells₁ g.sizes.names g.sizes.names ≡ rising 0 count = rw names_are n.chained in
      let types_are : take g.sizes.names types₁ ≡ free = rw names_are n.typed in
      record {
        crowded = omega (arith, w.grows.threads, threads_are, system_crowd_counts 0 [] (rising 0 count) count sheet.system);
        named = omega (arith, w.grows.names, names_are, length-append free (system_news sheet.system));
        slack = omega (arith, w.grows.slack, names_are, cells_are);
        types = λ fits. rw types_are at (w.given fits);
        threads = λ fit fits.
            let q = w.products fit fits [] [] (rw threads_are none) in
            rw (scope, names_are) at q;
      }

-- The whole start.
pub started : (s forms₀ forms threads threads' types types' : List ℕ) (known known' : List Bool) (cells cells' : List ℕ) (c : Number) (z : Sizes)
    → Blank s forms₀ threads types known cells → c ≡ free_count s → known' ≡ first_known c.value known
    → (length s ≤ length forms₀ → 64 ≤ length threads → Room types cells → (sheet : Sheet) (end : ℕ) → length s ≤ 4096 → read_sheet s ≡ got sheet end
    → MadeSheet forms sheet threads' types' cells' z)
    → (sheet : Sheet) (end : ℕ) → length s ≤ 4096 → read_sheet s ≡ got sheet end → Starts forms sheet threads' types' known' cells' z
unfolding start
started s forms₀ forms threads threads' types types' known known' cells cells' c z blank e f makes sheet end short read =
    let count = free_counted s sheet (sheet_parts s sheet end read) in
    let m = makes blank.form_room (omega (arith, blank.thread_room)) (record { type_room = blank.type_room; cell_room = blank.cell_room; cell_few = blank.cell_few }) sheet end short read in
    let known_are : known' ≡ first_known (length sheet.free) known = rw (e, count.0) at f in
    record {
      crowded = m.crowded;
      named = m.named;
      holds = λ fit fits.
          let all : z.names ≡ length sheet.free + length (system_news sheet.system)
          = omega (arith, m.named, length-append sheet.free (system_news sheet.system)) in
          let others : z.names - length sheet.free ≡ length (system_news sheet.system) = omega arith in
          record {
            few = fit;
            given = fits;
            slack = m.slack;
            threads = m.threads fit fits;
            types = m.types fits;
            known = rw (known_are, ← others) (known_first (length sheet.free) z.names known blank.unknown (omega arith) (omega (arith, blank.known_room)));
            quiet = λ i h. rw known_are (known_after_lem (length sheet.free) i known blank.unknown (omega arith));
          };
    }

pub ruleset start_steps = (
  rules,
  count_none,
  count_found,
  know_none,
  know_next,
  know_last,
  give_first,
  type_fits,
  give_next,
  give_stop,
  give_last,
  header_given,
  sheet_made,
  started,
)
