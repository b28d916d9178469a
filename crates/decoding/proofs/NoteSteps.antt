-- The walks that decode a sheet into a table, return by return and turn by turn: a form's number and its parts' numbers hold the tree
-- that the form begins.
use Prim.Native.Nat.{ℕ, suc, ◌+◌, ◌-◌, ◌*◌, ◌<◌, ◌≤◌}
use mathlib.Core.List.{List, [], ◌∷◌, ◌++◌}
use mathlib.Core.Path.{◌≡◌, refl, sym, ◌∙◌}
use native.Mathlib.Omega.{arith}
use borrow.Author.Rules.{rules}
use lib.Dec.{lit<}
use lib.ListN.{length, get_or, set, length-set}
use Rattle.std.specs.Prelude.{Result, Ok, Err}
use Rattle.std.proofs.Common.{◌⊎◌, inl, inr}
use Rattle.reading.specs.declared.Dialect.TheVariants.{Current as current}
use Rattle.reading.specs.Read.{Read, got, refused, and_then}
use Rattle.reading.specs.Syntax.{Process, nil, par, new, input, output, repl, System, nilₛ, parₛ, groupₛ, newₛ, compₛ, components}
use Rattle.reading.specs.Types.{type_at}
use Rattle.reading.specs.Forms.{process_at, system_at}
use Rattle.reading.specs.System.{process_from, read_process_in, read_process, component, system_from, read_system_in, read_system}
use Rattle.reading.specs.Told.{number, form, path_of}
use Rattle.reading.specs.declared.Act.{Act}
use Rattle.reading.specs.declared.Form.{Form}
use Rattle.reading.specs.declared.Form.TheVariants.{Nil, Par, Group, New, Component, Input, Output, Replicate}
use Rattle.reading.specs.declared.Number.{Number}
use Rattle.reading.specs.declared.OwnFields.{OwnFields}
use Rattle.reading.specs.declared.Path.{Path}
use Rattle.reading.specs.declared.Place.{Place}
use Rattle.reading.specs.declared.Refusal.{Refusal}
use Rattle.reading.proofs.Parts.{parts, never}
use Rattle.reading.proofs.TreeLaws.{process_begins, system_begins}
use Rattle.reading.proofs.ReadLaws.{read_process_local, read_system_local}
use Rattle.reading.proofs.Local.{place_after_lem}
use Rattle.decoding.specs.declared.Item.{Item}
use Rattle.decoding.specs.Words.{digits, packed_form, packed, item_at}
use Rattle.decoding.specs.Tables.{process_of, process_in, system_of, system_in}
use Rattle.decoding.specs.Notes.{Noted, Headed, Fitted, ProcessNoted, PartNoted, SystemNoted, SystemFormNoted, SystemPartNoted, SystemPartsNoted}
use Rattle.decoding.proofs.WordLaws.{FormFits, process_back, system_back}
use Rattle.decoding.proofs.NoteLaws.{noted_alone, headed, noted_under, noted_parts}
use Rattle.decoding.proofs.FormFacts.{small_type, process_here, process_after, nil_stands, par_stands, new_stands, input_stands, output_stands, repl_stands, none_stands, system_fits, system_here, system_after, system_any}

-- Where a tree that was read ends.
process_later : (nest : ℕ) (s : List ℕ) (names at : ℕ) {p : Process} {k : ℕ} → read_process nest s names at ≡ got p k → at < k
process_later nest s names at e =
    omega (arith, place_after_lem (at + 1) (λ b. read_process nest b names at) (read_process_local current nest names at) s e)

system_later : (nest : ℕ) (s : List ℕ) (names : ℕ) (path : List ℕ) (preceding at : ℕ) {p : System} {k : ℕ}
    → read_system nest s names path preceding at ≡ got p k → at < k
system_later nest s names path preceding at e =
    omega (arith, place_after_lem (at + 1) (λ b. read_system nest b names path preceding at) (read_system_local current nest names path preceding at) s e)

-- The number at a place gives the process that stands there.
process_head : (nest : ℕ) (forms : List ℕ) (at : ℕ) (f : Form) (next second : ℕ) → FormFits f → next < 8192 → second < 8192
    → get_or forms at 0 ≡ packed_form f next second
    → process_in (suc nest) forms at ≡ process_of (λ m. process_in nest forms m) f next second
unfolding process_in item_at
process_head nest forms at f next second fits n m e = rw e (process_back next second n m (λ i. process_in nest forms i) f fits)

system_head : (nest : ℕ) (forms : List ℕ) (at : ℕ) (f : Form) (next second : ℕ) → FormFits f → next < 8192 → second < 8192
    → get_or forms at 0 ≡ packed_form f next second
    → system_in (suc nest) forms at ≡ system_of (λ m. system_in nest forms m) (λ m. process_in nest forms m) f next second
unfolding system_in item_at
system_head nest forms at f next second fits n m e =
    rw e (system_back next second n m (λ i. system_in nest forms i) (λ i. process_in nest forms i) f fits)

process_two : (nest : ℕ) (forms : List ℕ) (at next second : ℕ) → next < 8192 → second < 8192 → get_or forms at 0 ≡ packed_form Par next second
    → process_in (suc nest) forms at ≡ par (process_in nest forms next) (process_in nest forms second)
unfolding process_of
process_two nest forms at next second n m e = process_head nest forms at Par next second (unfold FormFits in tt) n m e

-- A form over one part, whatever is read there.
under_any : {A B : Type 0} (inner : List ℕ → A) (outer : List ℕ → B) (c : A → B) (read : Read A) (at next word : ℕ) (before after : List ℕ) (r : ℕ)
    → at < next → ((a : A) (k : ℕ) → read ≡ got a k → next < k) → ((forms : List ℕ) → get_or forms at 0 ≡ word → outer forms ≡ c (inner forms))
    → ((a : A) (k : ℕ) → read ≡ got a k → Headed inner a word at k before after r)
    → (b : B) (end : ℕ) → and_then read (λ a k. got (c a) k) ≡ got b end → Noted outer b at end before after r
under_any inner outer c read at next word before after r lt later h n b end e =
    let p = parts read (λ a k. got (c a) k) e in
    let v : c p.value ≡ b = let w = p.rest in cc in
    let k : p.place ≡ end = let w = p.rest in cc in
    let m = noted_under inner outer c p.value at p.place word before after r (omega (arith, later p.value p.place p.first)) h
    (n p.value p.place p.first) in
    rw (v, k) at m

-- What was read stands within the sheet.
process_in_lem : (s : List ℕ) (at nest names : ℕ) {p : Process} {k : ℕ} → read_process nest s names at ≡ got p k → at < length s
process_in_lem s at nest names e = let b = process_begins current nest s names at e in process_here s at nest names b.stands

pub system_in_lem : (s : List ℕ) (at nest names : ℕ) (path : List ℕ) (preceding : ℕ) {p : System} {k : ℕ} → read_system nest s names path preceding at ≡ got p k
    → at < length s
system_in_lem s at nest names path preceding e =
    let b = system_begins current nest s names path preceding at e in system_here s at nest names path preceding b.stands

-- A table after a number was stored in it.
fitted_set : (s before between : List ℕ) (at word : ℕ) → between ≡ set before at word → Fitted s before → Fitted s between
fitted_set s before between at word e h = rw e (record { short = h.short; long = rw (length-set before at word) h.long })

-- A form over one process.
pub part_noted : (s : List ℕ) (at nest : ℕ) (item : Item) (before between after : List ℕ) (r : ℕ) → between ≡ set before at (packed item)
    → ProcessNoted s item.next nest between after r → PartNoted s at nest item before after r
part_noted s at nest item before between after r e n fitted here lt names p end f =
    headed (λ forms. process_in nest forms item.next) p at item.next end (packed item) before between after r e (omega (arith, fitted.long)) lt
    (omega (arith, process_later nest s names item.next f))
    (n (fitted_set s before between at (packed item) e fitted) names p end f)

-- Each process that is read at a place begins with this form and goes on at this place.
abbrev Begins : List ℕ → ℕ → ℕ → Form → ℕ → Type 0
Begins s at nest f next = (names : ℕ) (g : Form) (k : ℕ) → process_at s at nest names ≡ got g k → got f next ≡ got g k

-- The process that begins with a form.
module _ (s : List ℕ) (at nest : ℕ) (some : 0 < nest) (f : Form) (next : ℕ) (begins : Begins s at nest f next) (before after : List ℕ) (r : ℕ) where
  begun : (at < length s → at < next → Fitted s before → (names : ℕ) (p : Process) (end : ℕ)
      → process_from (λ ns m. read_process (nest - 1) s ns m) at names f next ≡ got p end
      → Noted (λ forms. process_in (suc (nest - 1)) forms at) p at end before after r)
      → ProcessNoted s at nest before after r
  begun n fitted names p end e =
      let b = process_begins current nest s names at e in
      let same = begins names b.form b.next b.stands in
      let g : b.form ≡ f = cc in
      let k : b.next ≡ next = cc in
      let m : suc (nest - 1) ≡ nest = omega arith in
      rw m at (n (process_here s at nest names b.stands) (rw k at (process_after s at nest names b.stands)) fitted names p end
      (rw (g, k) at b.after))

  -- Over one part: `c` makes the process of its part, which is read with `bound names` names in scope.
  over_part : (bound : ℕ → ℕ) (c : Process → Process) → FormFits f → ((part : ℕ → Process) → process_of part f next 0 ≡ c (part next))
      → ((read : ℕ → ℕ → Read Process) (names : ℕ)
      → process_from read at names f next ≡ and_then (read (bound names) next) (λ q k. got (c q) k))
      → (between : List ℕ) → between ≡ set before at (packed_form f next 0) → ProcessNoted s next (nest - 1) between after r
      → ProcessNoted s at nest before after r
  over_part bound c fits h g between e n = begun (λ here lt fitted names p end i.
      let read = read_process (nest - 1) s (bound names) next in
      let j : and_then read (λ q k. got (c q) k) ≡ got p end = sym (g (λ ns m. read_process (nest - 1) s ns m) names) ∙ i in
      let small : next < length s = process_in_lem s next (nest - 1) (bound names) (parts read (λ q k. got (c q) k) j).first in
      under_any (λ forms. process_in (nest - 1) forms next) (λ forms. process_in (suc (nest - 1)) forms at) c read at next (packed_form f next 0)
      before after r lt
      (λ a k l. process_later (nest - 1) s (bound names) next l)
      (λ forms l. process_head (nest - 1) forms at f next 0 fits (omega (arith, fitted.short)) (lit< tt) l ∙ h (λ m. process_in (nest - 1) forms m))
      (λ a k l. part_noted s at (nest - 1) (record { form = f; next = next; second = 0 }) before between after r e n fitted here lt (bound names) a k l)
      p end j)

nil_begun : (s : List ℕ) (at nest : ℕ) → 0 < nest → Begins s at nest Nil (at + 1) → (before after : List ℕ) → after ≡ set before at 0
    → ProcessNoted s at nest before after (at + 1)
unfolding process_from process_of packed_form digits
nil_begun s at nest some begins before after e = begun s at nest some Nil (at + 1) begins before after (at + 1) (λ here lt fitted names p end i.
    let v : nil ≡ p = cc in
    let w : at + 1 ≡ end = cc in
    rw (← v, ← w) (noted_alone (λ forms. process_in (suc (nest - 1)) forms at) nil at (at + 1) 0 before after (at + 1) refl e
    (omega (arith, fitted.long)) lt
    (λ forms g. process_head (nest - 1) forms at Nil 0 0 (unfold FormFits in tt) (lit< tt) (lit< tt) g)))

-- Over two parts, the first of them noted.
par_begun : (s : List ℕ) (at nest : ℕ) → 0 < nest → (next : ℕ) → Begins s at nest Par next → (second : ℕ) (before left between after : List ℕ) (r : ℕ)
    → length left ≡ length before → ProcessNoted s next (nest - 1) before left second → between ≡ set left at (packed_form Par next second)
    → ProcessNoted s second (nest - 1) between after r → ProcessNoted s at nest before after r
unfolding process_from
par_begun s at nest some next begins second before left between after r same n e k =
    begun s at nest some Par next begins before after r (λ here lt fitted names p end h.
    let down = nest - 1 in
    let a = parts (read_process down s names next) (λ x m. and_then (read_process down s names m) (λ y k. got (par x y) k)) h in
    let b = parts (read_process down s names a.place) (λ y k. got (par a.value y) k) a.rest in
    let v : par a.value b.value ≡ p = let z = b.rest in cc in
    let w : b.place ≡ end = let z = b.rest in cc in
    let left_noted = n fitted names a.value a.place a.first in
    let m : second ≡ a.place = left_noted.next in
    let wide : Fitted s left = record { short = fitted.short; long = omega (arith, fitted.long) } in
    let right_noted = k (fitted_set s left between at (packed_form Par next second) e wide) names b.value b.place (rw m b.first) in
    rw (v, w) at (noted_parts (λ forms. process_in down forms next) (λ forms. process_in down forms a.place) (λ forms. process_in (suc down) forms at)
    par a.value b.value at next a.place b.place (packed_form Par next a.place) before left between after second r
    (omega (arith, fitted.long)) same lt
    (omega (arith, process_later down s names next a.first)) (omega (arith, process_later down s names a.place b.first))
    (λ forms i. process_two down forms at next a.place (omega (arith, fitted.short, process_in_lem s next down names a.first))
    (omega (arith, fitted.short, process_in_lem s a.place down names b.first)) i)
    left_noted (rw m at e) (rw m at right_noted)))

-- Where the walk over a process stands, on its way from `from` on: once the process at `at` is noted, so is the whole.
pub record Walking (s : List ℕ) (from levels : ℕ) (forms₀ : List ℕ) (at nest : ℕ) (forms : List ℕ) : Type 0 where
  pub whole : (after : List ℕ) (r : ℕ) → ProcessNoted s at nest forms after r → ProcessNoted s from levels forms₀ after r
  pub low : nest ≤ levels
  pub wide : length forms ≡ length forms₀

module _ (s : List ℕ) (from levels : ℕ) (forms₀ : List ℕ) (at nest : ℕ) (forms : List ℕ) (h : Walking s from levels forms₀ at nest forms) where
  -- Where nothing is read.
  nothing : ((names : ℕ) (p : Process) (end : ℕ) → read_process nest s names at ≡ got p end → ⊥) → ProcessNoted s from levels forms₀ forms at
  nothing z = h.whole forms at (λ fitted names p end e. absurd (z names p end e))

  pub no_nest : nest ≤ 0 → ProcessNoted s from levels forms₀ forms at
  unfolding read_process_in
  no_nest z = nothing (λ names p end e.
      let y : nest ≡ 0 = omega arith in
      never (parts (process_at s at 0 names) (λ form next. refused 5 at) (rw y at e)).rest)

  pub no_byte : length s ≤ at → ProcessNoted s from levels forms₀ forms at
  no_byte z = nothing (λ names p end e. omega (arith, process_in_lem s at nest names e))

  no_form : ((names : ℕ) (g : Form) (k : ℕ) → process_at s at nest names ≡ got g k → ⊥) → ProcessNoted s from levels forms₀ forms at
  no_form z = nothing (λ names p end e. let b = process_begins current nest s names at e in z names b.form b.next b.stands)

  pub no_code : (get_or s at 0 ≡ 0 → ⊥) → (get_or s at 0 ≡ 1 → ⊥) → (get_or s at 0 ≡ 3 → ⊥) → (get_or s at 0 ≡ 5 → ⊥)
      → (get_or s at 0 ≡ 6 → ⊥) → (get_or s at 0 ≡ 7 → ⊥) → ProcessNoted s from levels forms₀ forms at
  no_code a b c d f g = no_form (λ names x k e. none_stands s at nest names e a b c d f g)

  module _ (q : Result Number Refusal) (w : Refusal) (g : q ≡ Err w) where
    pub no_new : get_or s at 0 ≡ 3 → number q ≡ type_at s (at + 1) → ProcessNoted s from levels forms₀ forms at
    unfolding and_then
    no_new c told = no_form (λ names f k e. never (rw (sym (rw g at told)) at (new_stands s at nest names e c)))

    pub no_input : get_or s at 0 ≡ 5 → number q ≡ type_at s (at + 2) → ProcessNoted s from levels forms₀ forms at
    unfolding and_then
    no_input c told = no_form (λ names f k e. never (rw (sym (rw g at told)) at (input_stands s at nest names e c)))

  module _ (some : 0 < nest) where
    pub nil_noted : (after : List ℕ) → get_or s at 0 ≡ 0 → after ≡ set forms at 0 → ProcessNoted s from levels forms₀ after (at + 1)
    nil_noted after c e =
        h.whole after (at + 1) (nil_begun s at nest some (λ names f k i. nil_stands s at nest names i c) forms after e)

    -- After a form over one part, its number stored.
    module _ (word : ℕ) (between : List ℕ) (stored : between ≡ set forms at word) where
      on : (f : Form) (next : ℕ) → Begins s at nest f next → (bound : ℕ → ℕ) (c : Process → Process) → FormFits f
          → ((part : ℕ → Process) → process_of part f next 0 ≡ c (part next))
          → ((read : ℕ → ℕ → Read Process) (names : ℕ)
          → process_from read at names f next ≡ and_then (read (bound names) next) (λ q k. got (c q) k))
          → word ≡ packed_form f next 0 → Walking s from levels forms₀ next (nest - 1) between
      on f next begins bound c fits i j w = record {
        whole = λ after r n. h.whole after r (over_part s at nest some f next begins forms after r bound c fits i j between (rw w at stored) n);
        low = omega (arith, h.low);
        wide = rw stored (length-set forms at word ∙ h.wide);
      }

      pub new_on : (q : Result Number Refusal) (t : Number) → q ≡ Ok t → get_or s at 0 ≡ 3 → number q ≡ type_at s (at + 1)
          → word ≡ digits 3 0 t.value t.next → Walking s from levels forms₀ t.next (nest - 1) between
      unfolding and_then process_from process_of packed_form FormFits
      new_on q t g c told w =
          let found : type_at s (at + 1) ≡ got t.value t.next = sym (rw g at told) in
          on (New t.value) t.next (λ names f k e. rw found at (new_stands s at nest names e c)) (λ n. n + 1) (new t.value)
          (small_type s (at + 1) found) (λ part. refl) (λ read names. refl) w

      pub input_on : (q : Result Number Refusal) (t : Number) (x : ℕ) → q ≡ Ok t → get_or s at 0 ≡ 5 → number q ≡ type_at s (at + 2)
          → (x ≡ get_or s (at + 1) 0) × (x < 256) → word ≡ digits 5 x t.value t.next
          → Walking s from levels forms₀ t.next (nest - 1) between
      unfolding and_then process_from process_of packed_form FormFits
      input_on q t x g c told b w =
          let found : type_at s (at + 2) ≡ got t.value t.next = sym (rw g at told) in
          on (Input (record { channel = x; object = t.value })) t.next
          (λ names f k e. rw b.0 (rw found at (input_stands s at nest names e c))) (λ n. n + 1) (input x t.value)
          (b.1, small_type s (at + 2) found) (λ part. refl) (λ read names. refl) w

      pub output_on : (x y next : ℕ) → next ≡ at + 3 → get_or s at 0 ≡ 6 → x ≡ get_or s (at + 1) 0 → y ≡ get_or s (at + 2) 0
          → word ≡ digits 6 x y next → x < 256 → y < 256 → Walking s from levels forms₀ next (nest - 1) between
      unfolding process_from process_of packed_form FormFits
      output_on x y next z c a b w l m =
          on (Output (record { channel = x; object = y })) next (λ names f k e. rw (a, b, z) (output_stands s at nest names e c)) (λ n. n)
          (output x y) (l, omega arith) (λ part. refl) (λ read names. refl) w

      pub repl_on : (next : ℕ) → get_or s at 0 ≡ 7 → word ≡ digits 7 0 0 next → next ≡ at + 1
          → Walking s from levels forms₀ next (nest - 1) between
      unfolding process_from process_of packed_form FormFits
      repl_on next c w z =
          on Replicate next (λ names f k e. rw z (repl_stands s at nest names e c)) (λ n. n) repl tt (λ part. refl) (λ read names. refl) w

    -- After the first part of a parallel form.
    pub par_on : (word second : ℕ) (left between : List ℕ) → get_or s at 0 ≡ 1 → ProcessNoted s (at + 1) (nest - 1) forms left second
        → length left ≡ length forms → between ≡ set left at word → word ≡ digits 1 0 second (at + 1)
        → Walking s from levels forms₀ second (nest - 1) between
    unfolding packed_form
    par_on word second left between c n same e w = record {
      whole = λ after r k. h.whole after r
          (par_begun s at nest some (at + 1) (λ names f k i. par_stands s at nest names i c) second forms left between after r same n (rw w at e) k);
      low = omega (arith, h.low);
      wide = rw e (length-set left at word ∙ same ∙ h.wide);
    }

-- The system at a place, and the one that begins with a form: as a process.
module _ (s : List ℕ) (at nest : ℕ) (before after : List ℕ) (r : ℕ) where
  pub no_nest_left : nest ≡ 0 → SystemNoted s at nest before after r
  unfolding read_system_in
  no_nest_left z fitted names path preceding p end e =
      let h = parts (system_at s at 0 names path preceding) (λ form next. refused 5 at) (rw z at e) in never h.rest

  module _ (q : Result Place Refusal) (empty : Path) (none : path_of empty ≡ []) (reads : form q ≡ system_at s at 1 0 (path_of empty) 0) where
    told : form q ≡ system_at s at 1 0 [] 0
    told = rw none at reads

    pub no_system : (w : Refusal) → q ≡ Err w → SystemNoted s at nest before after r
    no_system w g fitted names path preceding p end e =
        let b = system_begins current nest s names path preceding at e in
        never (rw g at told ∙ system_any s at nest names path preceding b.stands)

    module _ (place : Place) (g : q ≡ Ok place) where
      pub system_found : system_at s at 1 0 [] 0 ≡ got place.form place.next
      system_found = sym (rw g at told)

      pub with_system : (nest ≡ 0 → ⊥) → SystemFormNoted s at (nest - 1) place before after r → SystemNoted s at nest before after r
      with_system z n fitted names path preceding p end e =
          let b = system_begins current nest s names path preceding at e in
          let same = sym (system_any s at nest names path preceding b.stands) ∙ system_found in
          let f : b.form ≡ place.form = cc in
          let k : b.next ≡ place.next = cc in
          let m : suc (nest - 1) ≡ nest = omega arith in
          rw m at (n fitted names path preceding p end (rw (f, k) at b.after))

-- A form over one system, and over two.
pub system_part : (s : List ℕ) (at nest : ℕ) (item : Item) (before between after : List ℕ) (r : ℕ) → between ≡ set before at (packed item)
    → SystemNoted s item.next nest between after r → SystemPartNoted s at nest item before after r
system_part s at nest item before between after r e n fitted here lt names path preceding p end f =
    headed (λ forms. system_in nest forms item.next) p at item.next end (packed item) before between after r e (omega (arith, fitted.long)) lt
    (omega (arith, system_later nest s names path preceding item.next f))
    (n (fitted_set s before between at (packed item) e fitted) names path preceding p end f)

system_two : (nest : ℕ) (forms : List ℕ) (at next second : ℕ) → next < 8192 → second < 8192 → get_or forms at 0 ≡ packed_form Par next second
    → system_in (suc nest) forms at ≡ parₛ (system_in nest forms next) (system_in nest forms second)
unfolding system_of
system_two nest forms at next second n m e = system_head nest forms at Par next second (unfold FormFits in tt) n m e

pub system_parts : (s : List ℕ) (at nest next second : ℕ) (before left between after : List ℕ) (r : ℕ) → length left ≡ length before
    → SystemNoted s next nest before left second → between ≡ set left at (packed_form Par next second)
    → SystemNoted s second nest between after r → SystemPartsNoted s at nest next before after r
system_parts s at nest next second before left between after r same n e k fitted here lt names path preceding p q middle end f g =
    let a = n fitted names path preceding p middle f in
    let m : second ≡ middle = a.next in
    let wide : Fitted s left = record { short = fitted.short; long = omega (arith, fitted.long) } in
    let b = k (fitted_set s left between at (packed_form Par next second) e wide) names path (preceding + components p) q end (rw m g) in
    noted_parts (λ forms. system_in nest forms next) (λ forms. system_in nest forms middle) (λ forms. system_in (suc nest) forms at) parₛ p q
    at next middle end (packed_form Par next middle) before left between after second r (omega (arith, fitted.long)) same lt
    (omega (arith, system_later nest s names path preceding next f)) (omega (arith, system_later nest s names path (preceding + components p) middle g))
    (λ forms h. system_two nest forms at next middle (omega (arith, fitted.short, system_in_lem s next nest names path preceding f))
    (omega (arith, fitted.short, system_in_lem s middle nest names path (preceding + components p) g)) h)
    a (rw m at e) (rw m at b)

module _ (s : List ℕ) (at nest : ℕ) (place : Place) (here : system_at s at 1 0 [] 0 ≡ got place.form place.next) (before after : List ℕ) (r : ℕ) where
  abbrev item : Item
  item = record { form = place.form; next = place.next; second = 0 }

  abbrev whole : List ℕ → System
  whole forms = system_in (suc nest) forms at

  -- What the number at the place gives, where something is read at the place after it.
  head : (f : Form) → place.form ≡ f → FormFits f → Fitted s before → place.next < length s → (forms : List ℕ) → get_or forms at 0 ≡ packed item
      → whole forms ≡ system_of (λ m. system_in nest forms m) (λ m. process_in nest forms m) f place.next 0
  head f e fits fitted small forms g = system_head nest forms at f place.next 0 fits (omega (arith, fitted.short)) (lit< tt) (rw e at g)

  system_under : (f : Form) (c : System → System) → place.form ≡ f → FormFits f
      → ((part : ℕ → System) (process : ℕ → Process) (next second : ℕ) → system_of part process f next second ≡ c (part next))
      → SystemPartNoted s at nest item before after r → Fitted s before → (names : ℕ) (path : List ℕ) (preceding : ℕ) (p : System) (end : ℕ)
      → and_then (read_system nest s names path preceding place.next) (λ q k. got (c q) k) ≡ got p end → Noted whole p at end before after r
  system_under f c e fits h n fitted names path preceding p end g =
      let small : place.next < length s
      = system_in_lem s place.next nest names path preceding
      (parts (read_system nest s names path preceding place.next) (λ q k. got (c q) k) g).first in
      under_any (λ forms. system_in nest forms place.next) whole c (read_system nest s names path preceding place.next)
      at place.next (packed item) before after r (system_after s at 1 0 [] 0 here)
      (λ a k i. system_later nest s names path preceding place.next i)
      (λ forms i. head f e fits fitted small forms i ∙ h (λ m. system_in nest forms m) (λ m. process_in nest forms m) place.next 0)
      (λ a k i. n fitted (system_here s at 1 0 [] 0 here) (system_after s at 1 0 [] 0 here) names path preceding a k i)
      p end g

  pub system_nil : place.form ≡ Nil → r ≡ place.next → after ≡ set before at (packed_form Nil 0 0) → SystemFormNoted s at nest place before after r
  unfolding system_from system_of
  system_nil f e g fitted names path preceding p end h =
      let k = rw f at h in
      let v : nilₛ ≡ p = cc in
      let w : place.next ≡ end = cc in
      rw (← v, ← w) (noted_alone whole nilₛ at place.next (packed_form Nil 0 0) before after r e g
      (omega (arith, system_here s at 1 0 [] 0 here, fitted.long)) (system_after s at 1 0 [] 0 here)
      (λ forms i. system_head nest forms at Nil 0 0 (unfold FormFits in tt) (lit< tt) (lit< tt) i))

  pub system_par : place.form ≡ Par → SystemPartsNoted s at nest place.next before after r → SystemFormNoted s at nest place before after r
  unfolding system_from
  system_par f n fitted names path preceding p end h =
      let a = parts (read_system nest s names path preceding place.next)
      (λ x m. and_then (read_system nest s names path (preceding + components x) m) (λ y k. got (parₛ x y) k)) (rw f at h) in
      let b = parts (read_system nest s names path (preceding + components a.value) a.place) (λ y k. got (parₛ a.value y) k) a.rest in
      let v : parₛ a.value b.value ≡ p = let z = b.rest in cc in
      let w : b.place ≡ end = let z = b.rest in cc in
      rw (v, w) at (n fitted (system_here s at 1 0 [] 0 here) (system_after s at 1 0 [] 0 here) names path preceding a.value b.value a.place b.place
      a.first b.first)

  pub system_group : (g : ℕ) → place.form ≡ Group g → SystemPartNoted s at nest item before after r → SystemFormNoted s at nest place before after r
  unfolding system_from system_of FormFits
  system_group g f n fitted names path preceding p end h =
      system_under (Group g) (groupₛ g) f (rw f at (system_fits s at 1 0 [] 0 here)) (λ part process next second. refl) n fitted names
      (path ++ (g ∷ [])) preceding p end (rw f at h)

  pub system_new : (t : ℕ) → place.form ≡ New t → SystemPartNoted s at nest item before after r → SystemFormNoted s at nest place before after r
  unfolding system_from system_of FormFits
  system_new t f n fitted names path preceding p end h =
      system_under (New t) (newₛ t) f (rw f at (system_fits s at 1 0 [] 0 here)) (λ part process next second. refl) n fitted (names + 1) path preceding p end
      (rw f at h)

  pub system_component : (own : OwnFields) → place.form ≡ Component own → PartNoted s at nest item before after r
      → SystemFormNoted s at nest place before after r
  unfolding system_from system_of component FormFits
  system_component own f n fitted names path preceding p end h =
      let read = rw f at h in
      let small : place.next < length s
      = process_in_lem s place.next nest names (parts (read_process nest s names place.next) (λ q k. got (compₛ own q) k) read).first in
      let fits : (own.purpose < 256) × (own.group < 536870912) = rw f at (system_fits s at 1 0 [] 0 here) in
      under_any (λ forms. process_in nest forms place.next) whole (compₛ own) (read_process nest s names place.next)
      at place.next (packed item) before after r (system_after s at 1 0 [] 0 here)
      (λ a k i. process_later nest s names place.next i)
      (λ forms i. head (Component own) f fits fitted small forms i)
      (λ a k i. n fitted (system_here s at 1 0 [] 0 here) (system_after s at 1 0 [] 0 here) names a k i)
      p end read

  pub system_input : (a : Act) → place.form ≡ Input a → SystemFormNoted s at nest place before after r
  unfolding system_from
  system_input a f fitted names path preceding p end h = never (rw f at h)

  pub system_output : (a : Act) → place.form ≡ Output a → SystemFormNoted s at nest place before after r
  unfolding system_from
  system_output a f fitted names path preceding p end h = never (rw f at h)

  pub system_repl : place.form ≡ Replicate → SystemFormNoted s at nest place before after r
  unfolding system_from
  system_repl f fitted names path preceding p end h = never (rw f at h)

  pub form_nil : place.form ≡ Nil → r ≡ place.next → after ≡ set before at 0 → SystemFormNoted s at nest place before after r
  unfolding packed_form digits
  form_nil f e g = system_nil f e g

  pub form_par : place.form ≡ Par → (second word : ℕ) (left between : List ℕ) → length left ≡ length before
      → SystemNoted s place.next nest before left second → word ≡ packed (record { form = place.form; next = place.next; second = second })
      → between ≡ set left at word → SystemNoted s second nest between after r → SystemFormNoted s at nest place before after r
  form_par f second word left between same n v e k =
      system_par f (system_parts s at nest place.next second before left between after r same n (rw (v, f) at e) k)

  pub form_part : ((g : ℕ) × (place.form ≡ Group g)) ⊎ ((t : ℕ) × (place.form ≡ New t)) → (word : ℕ) (between : List ℕ) → word ≡ packed item → between ≡ set before at word
      → SystemNoted s place.next nest between after r → SystemFormNoted s at nest place before after r
  form_part (inl h) word between v e n = system_group h.0 h.1 (system_part s at nest item before between after r (rw v at e) n)
  form_part (inr h) word between v e n = system_new h.0 h.1 (system_part s at nest item before between after r (rw v at e) n)

  pub form_component : (own : OwnFields) → place.form ≡ Component own → (word : ℕ) (between : List ℕ) → word ≡ packed item → between ≡ set before at word
      → ProcessNoted s place.next nest between after r → SystemFormNoted s at nest place before after r
  form_component own f word between v e n = system_component own f (part_noted s at nest item before between after r (rw v at e) n)

  pub form_none : ((a : Act) × (place.form ≡ Input a)) ⊎ (((a : Act) × (place.form ≡ Output a)) ⊎ (place.form ≡ Replicate))
      → SystemFormNoted s at nest place before after r
  form_none (inl h) = system_input h.0 h.1
  form_none (inr (inl h)) = system_output h.0 h.1
  form_none (inr (inr h)) = system_repl h

pub ruleset note_steps = (
  rules,
  no_nest,
  no_byte,
  no_code,
  no_new,
  no_input,
  nil_noted,
  new_on,
  input_on,
  repl_on,
  par_on,
)

pub ruleset system_steps = (
  rules,
  no_nest_left,
  no_system,
  system_found,
  with_system,
  form_nil,
  form_par,
  form_part,
  form_component,
  form_none,
)
