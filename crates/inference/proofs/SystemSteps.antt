-- The walk over a system, return by return: what the parts of a form were found to be makes what the form is found to be.
use Prim.Native.Nat.{ℕ, ◌+◌, ◌-◌, ◌<◌, ◌≤◌, min}
use mathlib.Core.Bool.{true, false, ◌&&◌}
use mathlib.Core.List.{List, [], ◌∷◌, ◌++◌, map}
use mathlib.Core.Option.{some}
use mathlib.Core.Path.{◌≡◌, refl, sym, ◌∙◌}
use native.Mathlib.Omega.{arith}
use borrow.Author.Rules.{rules}
use borrow.Author.Tests.{lt-ltb, ltb-true}
use lib.Dec.{ltb}
use lib.ListN.{length, take, set}
use Rattle.std.specs.Prelude.{Option as Answer, Result, Ok, Err}
use Rattle.reading.specs.declared.Dialect.TheVariants.{Current as current}
use Rattle.reading.proofs.FormLaws.{GroupNew, system_group}
use Rattle.reading.proofs.TotalLaws.{system_nest, system_names, group_room, component_room, component_number, system_step, system_stop, both_left, both_right}
use Rattle.reading.specs.Forms.{system_at}
use Rattle.reading.specs.Read.{got}
use Rattle.reading.specs.Syntax.{Process, System, nilₛ, compₛ, components}
use Rattle.reading.specs.Questions.{number_of}
use Rattle.reading.specs.Told.{form, numbered, failed_below}
use Rattle.reading.specs.Total.{Grown, under, beside, system_grown, process_tree, system_tree}
use Rattle.reading.specs.declared.Act.{Act as Fields}
use Rattle.reading.specs.declared.Form.{Form}
use Rattle.reading.specs.declared.Form.TheVariants.{Nil, Par, Group, New, Component as Head, Input, Output, Replicate}
use Rattle.reading.specs.declared.OwnFields.{OwnFields}
use Rattle.reading.specs.declared.Place.{Place}
use Rattle.reading.specs.declared.Refusal.{Refusal}
use Rattle.inference.proofs.WalkLaws.{worst_most, purpose_aside, purpose_uncounted, worst_all_append, charged_all_append, scope_bound, kept_below_lem, none_fails, first_then}
use Rattle.inference.specs.Acts.{component_at, acts, acts_of, locate}
use Rattle.inference.specs.Rows.{with_path, with_purpose}
use Rattle.inference.specs.Told.{sooner}
use Rattle.inference.specs.Walks.{worst_all, charged_all, opens, Walked, WalkedAt}
use Rattle.inference.specs.declared.Walker.{Walker}

nothing : (t : Grown System) (at : ℕ) (path : List ℕ) (names : ℕ) (w : Walker) → t ≡ record { tree = nilₛ; next = at }
    → WalkedAt path t names w w at
unfolding locate worst_all charged_all components
nothing t at path names w e = rw e (record {
  place = refl;
  first = none_fails (numbered w.fault);
  counted = refl;
  kept = refl;
  number = omega arith;
  same = refl;
  lent = refl;
})

-- The form at a place.
module _ (n : ℕ) (s : List ℕ) (names : ℕ) (path : List ℕ) (preceding at : ℕ) (r : Result Place Refusal) (e : form r ≡ system_at s at n names path preceding) where
  found : (p : Place) → r ≡ Ok p → system_at s at n names path preceding ≡ got p.form p.next
  found p h = sym (rw h at e)

  pub nest_left : (p : Place) → r ≡ Ok p → 1 ≤ n
  nest_left p h = system_nest s at n names path preceding (found p h)

  pub room_to_open : (p : Place) → r ≡ Ok p → opens names path preceding p.form ≡ true
  unfolding opens GroupNew
  room_to_open p h = go p.form (found p h)
    where
      go : (f : Form) → system_at s at n names path preceding ≡ got f p.next → opens names path preceding f ≡ true
      go Nil q = refl
      go Par q = refl
      go (Group g) q = rw (group_room s at n names path preceding q)
          (lt-ltb g 65536 (omega (arith, (system_group current s at n names path preceding q).small)))
      go (New t) q = lt-ltb names 64 (system_names s at n names path preceding q)
      go (Head own) q = rw (component_room s at n names path preceding q, lt-ltb preceding 32 (component_number s at n names path preceding q))
          (lt-ltb own.group 65536 (omega (arith, (system_group current s at n names path preceding q).0.small)))
      go (Input a) q = refl
      go (Output a) q = refl
      go Replicate q = refl

-- The same of a walker's sheet, with the components that it has numbered.
module _ (w : Walker) (n names : ℕ) (path : List ℕ) (at : ℕ) (r : Result Place Refusal) (e : form r ≡ system_at w.sheet.now at n names path w.components) where
  pub no_form : (q : Refusal) → r ≡ Err q → WalkedAt path (system_tree n w.sheet.now names path w.components at) names w w at
  no_form q h = nothing (system_tree n w.sheet.now names path w.components at) at path names w
      (system_stop n w.sheet.now names path w.components at (number_of q.question) q.at (sym (rw h at e)))

  pub by_form : (p : Place) (w' : Walker) (k : ℕ) → r ≡ Ok p
      → WalkedAt path (system_grown (λ ns l j m. system_tree (n - 1) w.sheet.now ns l j m) (λ m. process_tree (n - 1) w.sheet.now names m) at names path w.components p.form p.next)
      names w w' k → WalkedAt path (system_tree n w.sheet.now names path w.components at) names w w' k
  by_form p w' k h i = rw (system_step n w.sheet.now names path w.components at p.form p.next (found n w.sheet.now names path w.components at r e p h)) i

-- The arms of the match on a form.
module _ (names : ℕ) (path : List ℕ) (preceding : ℕ) (f : Form) (h : opens names path preceding f ≡ true) where
  pub new_opens : (t : ℕ) → f ≡ New t → names < 64
  unfolding opens
  new_opens t e = ltb-true names 64 (rw e at h)

  pub group_opens : (g : ℕ) → f ≡ Group g → ltb (length path) 8 ≡ true
  unfolding opens
  group_opens g e = both_left (ltb (length path) 8) (ltb g 65536) (rw e at h)

  pub group_small : (g : ℕ) → f ≡ Group g → g < 65536
  unfolding opens
  group_small g e = ltb-true g 65536 (both_right (ltb (length path) 8) (ltb g 65536) (rw e at h))

  head_room : (own : OwnFields) → f ≡ Head own → (ltb (length path) 8 && ltb preceding 32) ≡ true
  unfolding opens
  head_room own e = both_left (ltb (length path) 8 && ltb preceding 32) (ltb own.group 65536) (rw e at h)

  pub head_opens : (own : OwnFields) → f ≡ Head own → ltb (length path) 8 ≡ true
  head_opens own e = both_left (ltb (length path) 8) (ltb preceding 32) (head_room own e)

  pub head_number : (own : OwnFields) → f ≡ Head own → preceding < 32
  head_number own e = ltb-true preceding 32 (both_right (ltb (length path) 8) (ltb preceding 32) (head_room own e))

  pub head_small : (own : OwnFields) → f ≡ Head own → own.group < 65536
  unfolding opens
  head_small own e =
      ltb-true own.group 65536 (both_right (ltb (length path) 8 && ltb preceding 32) (ltb own.group 65536) (rw e at h))

module _ (w : Walker) (n at names : ℕ) (path : List ℕ) (f : Form) (next : ℕ) where
  abbrev s : List ℕ
  s = w.sheet.now

  abbrev grow : ℕ → List ℕ → ℕ → ℕ → Grown System
  grow ns p k m = system_tree n s ns p k m

  abbrev grown : Grown System
  grown = system_grown (λ ns p k m. system_tree n s ns p k m) (λ m. process_tree n s names m) at names path w.components f next

  abbrev Here : Walker → ℕ → Type 0
  Here w' k = WalkedAt path grown names w w' k

  pub form_nil : f ≡ Nil → Here w next
  unfolding system_grown
  form_nil e = nothing grown next path names w (rw e)

  pub form_input : (a : Fields) → f ≡ Input a → Here w at
  unfolding system_grown
  form_input a e = nothing grown at path names w (rw e)

  pub form_output : (a : Fields) → f ≡ Output a → Here w at
  unfolding system_grown
  form_output a e = nothing grown at path names w (rw e)

  pub form_repl : f ≡ Replicate → Here w at
  unfolding system_grown
  form_repl e = nothing grown at path names w (rw e)

  module _ (w' : Walker) (k : ℕ) where
    pub form_head : (own : OwnFields) → f ≡ Head own → WalkedAt path (under (compₛ own) (process_tree n s names next)) names w w' k → Here w' k
    unfolding system_grown
    form_head own e h = rw e h

    pub form_group : (g : ℕ) (deeper : List ℕ) → f ≡ Group g → opens names path w.components f ≡ true
        → (ltb (length path) 8 ≡ true → g < 65536 → deeper ≡ path ++ (g ∷ []))
        → WalkedAt deeper (grow names deeper w.components next) names w w' k → Here w' k
    unfolding system_grown under locate components
    form_group g deeper e o d h = let q = d (group_opens names path w.components f o g e) (group_small names path w.components f o g e) in
        rw e (record {
          place = rw q at h.place;
          first = rw q at h.first;
          counted = rw q at h.counted;
          kept = h.kept;
          number = rw q at h.number;
          same = h.same;
          lent = h.lent;
        })

    pub form_new : (u : ℕ) → f ≡ New u → length w.scope ≡ 64 → names < 64
        → WalkedAt path (grow (names + 1) path w.components next) (names + 1) (record w { scope = set w.scope names u }) w' k → Here w' k
    unfolding system_grown under locate components
    form_new u e l room h =
        let widened = scope_bound w.scope (set w.scope names u) names u refl (omega arith) in
        rw e (record {
          place = h.place;
          first = rw widened at h.first;
          counted = rw widened at h.counted;
          kept = kept_below_lem w.scope (set w.scope names u) w'.scope names u refl h.kept;
          number = h.number;
          same = h.same;
          lent = h.lent;
        })

    pub form_par : (v : Walker) (l : ℕ) → f ≡ Par → WalkedAt path (grow names path w.components next) names w v l
        → WalkedAt path (system_tree n v.sheet.now names path v.components l) names v w' k → Here w' k
    unfolding system_grown beside under locate components
    form_par v l e h i = rw (e, ← h.place) (record {
      place = rw (h.same, h.number) at i.place;
      first = rw worst_all_append (first_then (numbered w.fault) (numbered v.fault) (numbered w'.fault) _ _ h.first (rw (h.kept, h.same, h.number) at i.first));
      counted = rw (charged_all_append, ← h.counted) (rw (h.kept, h.same, h.number) at i.counted);
      kept = i.kept ∙ h.kept;
      number = let j = rw (h.same, h.number) at i.number in omega arith;
      same = i.same ∙ h.same;
      lent = i.lent ∙ h.lent;
    })

-- A component.
once : (f g : Answer ℕ) (a b : ℕ) → g ≡ sooner f (failed_below 11 a) → a ≡ b → b ≤ 11 → g ≡ sooner f (failed_below 11 (min b 11))
once f g a b i j m = let e : min b 11 ≡ a = omega arith in rw e i

module _ (w v w' : Walker) (t : Grown Process) (names : ℕ) (own : OwnFields) (path whole table₀ : List ℕ) (k : ℕ) where
  pub component_found : Walked t (acts (record { number = w.components; path = whole; purpose = 0 }) false (map some (take names v.scope)) t.tree) names v w' k
      → ltb (length path) 8 ≡ true → own.group < 65536 → (ltb (length path) 8 ≡ true → own.group < 65536 → whole ≡ path ++ (own.group ∷ []))
      → table₀ ≡ with_purpose w.table.now w.components own.purpose → v.table.now ≡ with_path table₀ w.components whole
      → numbered v.fault ≡ numbered w.fault → v.scope ≡ w.scope → v.components ≡ w.components + 1 → v.sheet ≡ w.sheet
      → v.table.ghost_name ≡ w.table.ghost_name
      → WalkedAt path (under (compₛ own) t) names w w' k
  unfolding under locate component_at components worst_all charged_all acts_of
  component_found h o small d p q f kept number same lent = record {
    place = h.place;
    first = once (numbered w.fault) (numbered w'.fault) _ _ (rw (f, kept, d o small) at h.first)
        (purpose_aside w.components _ 0 own.purpose false (map some (take names w.scope)) t.tree) (worst_most _);
    counted = rw (q, p, kept, d o small) at h.counted ∙ purpose_uncounted w.components _ 0 own.purpose _ false (map some (take names w.scope)) t.tree;
    kept = rw kept at h.kept;
    number = h.number ∙ number;
    same = h.same ∙ same;
    lent = h.lent ∙ lent;
  }

pub ruleset system_steps = (rules, nest_left, room_to_open, new_opens, head_small, head_opens, head_number)
