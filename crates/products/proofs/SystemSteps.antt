-- What a system makes, return by return: what the parts of a form make is what the form makes.
use Prim.Native.Nat.{ℕ, ◌+◌, ◌-◌, ◌^◌, ◌<◌, ◌≤◌, min}
use mathlib.Core.Path.{◌≡◌, refl, sym, ap, ◌∙◌}
use mathlib.Core.List.{List, [], ◌∷◌, ◌++◌, append_assoc, append-nil}
use Rattle.std.proofs.Common.{◌⊎◌, inl, inr}
use native.Mathlib.Omega.{arith}
use borrow.Author.Rules.{rules}
use lib.ListN.{length, take, length-append}
use Rattle.reading.specs.Syntax.{Process, System, nilₛ, parₛ, groupₛ, newₛ, compₛ, components}
use Rattle.reading.specs.declared.Act.{Act as Fields}
use Rattle.reading.specs.declared.Form.TheVariants.{Nil, Par, Group, New, Component as Head, Input, Output, Replicate}
use Rattle.reading.specs.declared.OwnFields.{OwnFields}
use Rattle.decoding.specs.declared.Item.{Item}
use Rattle.decoding.specs.Words.{item_at}
use Rattle.decoding.specs.Tables.{process_in, system_of, system_in}
use Rattle.decoding.proofs.TableLaws.{system_formed, next_near, second_near}
use Rattle.inference.specs.Acts.{component_at}
use Rattle.running.specs.Products.{system_news, system_threads}
use Rattle.memory.specs.Chains.{chain}
use Rattle.memory.specs.declared.Thread.{Thread as Place}
use Rattle.memory.proofs.ChainLaws.{chain_kept}
use Rattle.products.specs.declared.Sizes.{Sizes}
use Rattle.products.specs.declared.MadeSystem.{MadeSystem}
use Rattle.products.specs.declared.Maker.{Maker}
use Rattle.products.specs.Makes.{Ready, Makes, MakesSystem, Gives, system_crowd}
use Rattle.products.specs.Makers.{Kept, GivesIn, MakesSystemIn}
use Rattle.products.proofs.GrowLaws.{grows_then, grows_cong, all_kept_lem}
use Rattle.products.proofs.GiveLaws.{grows_none, ready_deeper, ready_after, name_given}
use Rattle.products.proofs.MakeSteps.{new_fits_lem}

-- Nothing is made.
nothing : (forms : List ℕ) (t : Place) (p : System) (z : Sizes) (made types cells : List ℕ) → p ≡ nilₛ → Ready t z made types cells
    → MakesSystem forms t p z made made types types cells cells (record { components = t.component; sizes = z })
unfolding components system_crowd system_news system_threads
nothing forms t p z made types cells e r = rw e (record {
  number = omega arith;
  grows = grows_none r;
  given = λ few. sym (append-nil (take z.names types));
  products = λ few given path ts p. rw (append-nil ts) p;
})

pub no_nest : (forms : List ℕ) (t : Place) (z : Sizes) (made types cells : List ℕ) → t.nest ≡ 0
    → t.component + components (system_in t.nest forms t.at) ≤ 32 → Ready t z made types cells
    → MakesSystem forms t (system_in t.nest forms t.at) z made made types types cells cells (record { components = t.component; sizes = z })
unfolding system_in
no_nest forms t z made types cells e few = nothing forms t (system_in t.nest forms t.at) z made types cells (rw e refl)

-- The arms of the match on a form.
module _ (forms : List ℕ) (t : Place) (item : Item) (e : item ≡ item_at forms t.at) (left : 0 < t.nest)
    (z : Sizes) (made made' types types' cells cells' : List ℕ) where
  abbrev whole : System
  whole = system_in t.nest forms t.at

  abbrev inner : Place
  inner = record { component = t.component; env = t.env; names = t.names; nest = t.nest - 1; at = item.next }

  abbrev part : ℕ → System
  part m = system_in (t.nest - 1) forms m

  formed : whole ≡ system_of (λ m. part m) (λ m. process_in (t.nest - 1) forms m) item.form item.next item.second
  formed = rw e (system_formed t.nest forms t.at left)

  vanished : whole ≡ nilₛ → t.component + components whole ≤ 32 → Ready t z made types cells
      → MakesSystem forms t whole z made made types types cells cells (record { components = t.component; sizes = z })
  vanished h few = nothing forms t whole z made types cells h

  form_nil : item.form ≡ Nil → t.component + components whole ≤ 32 → Ready t z made types cells
      → MakesSystem forms t whole z made made types types cells cells (record { components = t.component; sizes = z })
  unfolding system_of
  form_nil h = vanished (rw h at formed)

  form_input : (a : Fields) → item.form ≡ Input a → t.component + components whole ≤ 32 → Ready t z made types cells
      → MakesSystem forms t whole z made made types types cells cells (record { components = t.component; sizes = z })
  unfolding system_of
  form_input a h = vanished (rw h at formed)

  form_output : (a : Fields) → item.form ≡ Output a → t.component + components whole ≤ 32 → Ready t z made types cells
      → MakesSystem forms t whole z made made types types cells cells (record { components = t.component; sizes = z })
  unfolding system_of
  form_output a h = vanished (rw h at formed)

  form_repl : item.form ≡ Replicate → t.component + components whole ≤ 32 → Ready t z made types cells
      → MakesSystem forms t whole z made made types types cells cells (record { components = t.component; sizes = z })
  unfolding system_of
  form_repl h = vanished (rw h at formed)

  pub form_none : (item.form ≡ Nil) ⊎ (((a : Fields) × (item.form ≡ Input a)) ⊎ (((a : Fields) × (item.form ≡ Output a)) ⊎ (item.form ≡ Replicate)))
      → t.component + components whole ≤ 32 → Ready t z made types cells
      → MakesSystem forms t whole z made made types types cells cells (record { components = t.component; sizes = z })
  form_none (inl h) = form_nil h
  form_none (inr (inl h)) = form_input h.0 h.1
  form_none (inr (inr (inl h))) = form_output h.0 h.1
  form_none (inr (inr (inr h))) = form_repl h

  module _ (r : MadeSystem) where
    -- What its parts make, where there are as many components.
    within : (p : System) → whole ≡ p
        → (t.component + components p ≤ 32 → Ready inner z made types cells → MakesSystem forms inner p z made made' types types' cells cells' r)
        → t.component + components whole ≤ 32 → Ready t z made types cells → MakesSystem forms t whole z made made' types types' cells cells' r
    within p h m few ready =
        let k = m (rw h at few) (ready_deeper item.next (rw e (next_near forms t.at)) ready) in
        rw h (record { number = k.number; grows = k.grows; given = k.given; products = k.products })

    pub form_par : item.form ≡ Par
        → (item.second < 8192 → t.component + components (parₛ (part item.next) (part item.second)) ≤ 32 → Ready inner z made types cells
        → MakesSystem forms inner (parₛ (part item.next) (part item.second)) z made made' types types' cells cells' r)
        → t.component + components whole ≤ 32 → Ready t z made types cells → MakesSystem forms t whole z made made' types types' cells cells' r
    unfolding system_of
    form_par h m = within _ (rw h at formed) (m (rw e (second_near forms t.at)))

    pub form_new : (u : ℕ) → item.form ≡ New u
        → (t.names + (t.nest - 1) < 128 → t.component + components (part item.next) ≤ 32 → Ready inner z made types cells
        → MakesSystem forms inner (newₛ u (part item.next)) z made made' types types' cells cells' r)
        → t.component + components whole ≤ 32 → Ready t z made types cells → MakesSystem forms t whole z made made' types types' cells cells' r
    unfolding system_of components
    form_new u h m few ready = within _ (rw h at formed) (m (omega (arith, ready.scope))) few ready

    pub form_head : (own : OwnFields) → item.form ≡ Head own
        → (t.component < 32 → (o : OwnFields) → Ready inner z made types cells
        → MakesSystem forms inner (compₛ o (process_in (t.nest - 1) forms item.next)) z made made' types types' cells cells' r)
        → t.component + components whole ≤ 32 → Ready t z made types cells → MakesSystem forms t whole z made made' types types' cells cells' r
    unfolding system_of components
    form_head own h m = within _ (rw h at formed) (λ few. m (omega arith) own)

    under_group : (g : ℕ) (p : System) → MakesSystem forms inner p z made made' types types' cells cells' r
        → MakesSystem forms inner (groupₛ g p) z made made' types types' cells cells' r
    unfolding components system_crowd system_news system_threads
    under_group g p m = record {
      number = m.number;
      grows = m.grows;
      given = m.given;
      products = λ few given path ts ps. m.products few given (path ++ (g ∷ [])) ts ps;
    }

    pub form_group : (g : ℕ) → item.form ≡ Group g
        → (t.component + components (part item.next) ≤ 32 → Ready inner z made types cells
        → MakesSystem forms inner (part item.next) z made made' types types' cells cells' r)
        → t.component + components whole ≤ 32 → Ready t z made types cells → MakesSystem forms t whole z made made' types types' cells cells' r
    unfolding system_of components
    form_group g h m = within _ (rw h at formed) (λ few ready. under_group g _ (m few ready))

-- A component: its process.
module _ (forms : List ℕ) (t : Place) (p : Process) (z z₁ : Sizes) (made made' types types' cells cells' : List ℕ) where
  pub component_made : (number : ℕ) → number ≡ min (t.component + 1) (2 ^ 64 - 1)
      → (Ready t z made types cells → Makes forms t p z made made' types types' cells cells' z₁)
      → t.component < 32 → (own : OwnFields) → Ready t z made types cells
      → MakesSystem forms t (compₛ own p) z made made' types types' cells cells' (record { components = number; sizes = z₁ })
  unfolding components system_crowd system_news system_threads component_at
  component_made number ne makes few own ready =
      let m = makes ready in
      record {
        number = omega (arith, ne);
        grows = m.grows;
        given = m.given;
        products = λ few given path ts ps. m.products few given (component_at t.component path own) refl ts ps;
      }

-- One system after another.
module _ (forms : List ℕ) (t : Place) (second : ℕ) (z : Sizes) (made made₁ made' types types₁ types' cells cells₁ cells' : List ℕ) (l r : MadeSystem)
    (same_made : length made₁ ≡ length made) (same_types : length types₁ ≡ length types) (same_cells : length cells₁ ≡ length cells) where
  abbrev one : System
  one = system_in t.nest forms t.at

  abbrev other : System
  other = system_in t.nest forms second

  abbrev rest : Place
  rest = record { component = l.components; env = t.env; names = t.names; nest = t.nest; at = second }

  pub after_left : (t.component + components one ≤ 32 → Ready t z made types cells → MakesSystem forms t one z made made₁ types types₁ cells cells₁ l)
      → (l.components + components other ≤ 32 → Ready rest l.sizes made₁ types₁ cells₁
      → MakesSystem forms rest other l.sizes made₁ made' types₁ types' cells₁ cells' r)
      → second < 8192 → t.component + components (parₛ one other) ≤ 32 → Ready t z made types cells
      → MakesSystem forms t (parₛ one other) z made made' types types' cells cells' r
  unfolding components system_crowd system_news system_threads
  after_left mine theirs near few_components ready =
      let m = mine (omega arith) ready in
      let n = theirs (omega (arith, m.number)) (ready_after t z l.sizes made made₁ types types₁ cells cells₁ same_made same_types same_cells
      l.components second (omega (arith, m.number)) near m.grows ready) in
      record {
        number = omega (arith, n.number, m.number);
        grows = rw (length-append (system_news one) (system_news other)) (grows_then m.grows n.grows);
        given = λ fits.
            n.given fits
            ∙ ap (λ x. x ++ system_news other) (m.given (omega (arith, n.grows.names, m.grows.names)))
            ∙ append_assoc (take z.names types) (system_news one) (system_news other);
        products = λ few given p ts h.
            let fits : l.sizes.names ≤ 1024 = omega (arith, n.grows.names, m.grows.names) in
            let few₁ : l.sizes.threads ≤ 64 = omega (arith, n.grows.threads, m.grows.threads) in
            let count : l.sizes.names ≡ z.names + length (system_news one) = omega (arith, m.grows.names) in
            let env : chain cells₁ t.names t.env ≡ chain cells t.names t.env
            = chain_kept cells₁ cells z.cells t.names t.env m.grows.kept ready.env in
            let q = n.products few given p _ (m.products few₁ fits p ts h) in
            let scope = chain cells t.names t.env in
            let next = z.names + length (system_news one) in
            let on : system_threads l.components p scope next other ≡ system_threads (t.component + components one) p scope next other
            = ap (λ k. system_threads k p scope next other) m.number in
            rw (
              env,
              count,
              on,
              append_assoc ts (system_threads t.component p scope z.names one)
                  (system_threads (t.component + components one) p scope next other),
            ) at q;
      }

-- Under a new name.
module _ (forms : List ℕ) (t : Place) (u : ℕ) (p : System) (z z₁ : Sizes) (env : ℕ) (made made' types types₁ types' cells cells₁ cells' : List ℕ)
    (r : MadeSystem) where
  abbrev bound_place : Place
  bound_place = record { component = t.component; env = env; names = t.names + 1; nest = t.nest; at = t.at }

  pub under_new : Gives z u t.env types types₁ cells cells₁ z₁ → env ≡ z₁.cells - 1
      → (t.component + components p ≤ 32 → Ready bound_place z₁ made types₁ cells₁
      → MakesSystem forms bound_place p z₁ made made' types₁ types' cells₁ cells' r)
      → t.names + t.nest < 128 → t.component + components p ≤ 32 → Ready t z made types cells
      → MakesSystem forms t (newₛ u p) z made made' types types' cells cells' r
  unfolding components system_crowd system_news system_threads
  under_new gives ee makes lt few_components ready =
      let g = name_given t u z z₁ env made types types₁ cells cells₁ lt ready ee gives in
      let m = makes few_components g.ready in
      record {
        number = m.number;
        grows = grows_cong (omega arith) (omega arith) (grows_then g.one m.grows);
        given = λ fits. m.given fits
            ∙ rw (g.typed (omega (arith, m.grows.names))) (append_assoc (take z.names types) (u ∷ []) (system_news p));
        products = λ few given path ts ps.
            let fits : z₁.names ≤ 1024 = omega (arith, m.grows.names) in
            let q = m.products few given path ts
            (rw g.threads (all_kept_lem forms cells cells₁ z.cells z₁.cells g.one.kept g.one.cells ps)) in
            rw (g.widened fits, g.number fits) at q;
      }

-- The same in the tables that a walk is lent: one system after another, and a system under a new name.
module _ (m m₁ m' : Maker) (t : Place) where
  pub made_after : (second : ℕ) (z : Sizes) (l r : MadeSystem) → Kept m m₁
      → (t.component + components (system_in t.nest m.forms.now t.at) ≤ 32 → MakesSystemIn m t (system_in t.nest m.forms.now t.at) z m₁ l)
      → (l.components + components (system_in t.nest m₁.forms.now second) ≤ 32
      → MakesSystemIn m₁ (record { component = l.components; env = t.env; names = t.names; nest = t.nest; at = second })
      (system_in t.nest m₁.forms.now second) l.sizes m' r)
      → second < 8192 → t.component + components (parₛ (system_in t.nest m.forms.now t.at) (system_in t.nest m.forms.now second)) ≤ 32
      → MakesSystemIn m t (parₛ (system_in t.nest m.forms.now t.at) (system_in t.nest m.forms.now second)) z m' r
  made_after second z l r k mine theirs near few ready =
      after_left m.forms.now t second z m.made.now m₁.made.now m'.made.now m.types.now m₁.types.now m'.types.now
      m.cells.now m₁.cells.now m'.cells.now l r k.made_length k.types_length k.cells_length mine (rw k.forms at theirs) near few ready

  pub made_under : (u : ℕ) (z z₁ : Sizes) (env names : ℕ) (r : MadeSystem) → GivesIn m z u t.env m₁ z₁ → env ≡ z₁.cells - 1
      → names ≡ min (t.names + 1) (2 ^ 64 - 1)
      → (t.component + components (system_in t.nest m₁.forms.now t.at) ≤ 32
      → MakesSystemIn m₁ (record { component = t.component; env = env; names = names; nest = t.nest; at = t.at })
      (system_in t.nest m₁.forms.now t.at) z₁ m' r)
      → t.names + t.nest < 128 → t.component + components (system_in t.nest m.forms.now t.at) ≤ 32
      → MakesSystemIn m t (newₛ u (system_in t.nest m.forms.now t.at)) z m' r
  made_under u z z₁ env names r g ie ne makes few components ready =
      let n : names ≡ t.names + 1 = omega (arith, ne) in
      under_new m.forms.now t u (system_in t.nest m.forms.now t.at) z z₁ env m.made.now m'.made.now m.types.now m₁.types.now m'.types.now
      m.cells.now m₁.cells.now m'.cells.now r g.gives ie (rw (g.kept.forms, g.made, n) at makes) few components ready

pub ruleset system_steps = (
  rules,
  no_nest,
  new_fits_lem,
  form_none,
  form_par,
  form_new,
  form_head,
  form_group,
  component_made,
  made_after,
  made_under,
)
