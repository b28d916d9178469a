-- What a process makes, return by return: what the parts of a form make is what the form makes.
use Prim.Native.Nat.{ℕ, ◌+◌, ◌-◌, ◌^◌, ◌<◌, ◌≤◌, min}
use mathlib.Core.Bool.{Bool, true, false}
use mathlib.Core.Path.{◌≡◌, refl, sym, ap, ◌∙◌}
use mathlib.Core.List.{List, [], ◌∷◌, ◌++◌, append_assoc, append-nil}
use Rattle.std.proofs.Common.{◌⊎◌, inl, inr}
use native.Mathlib.Omega.{arith}
use native.Mathlib.Numerals.{add-one}
use borrow.Author.Rules.{rules}
use borrow.Author.Tests.{ltb-true, ltb-false}
use lib.Dec.{ltb}
use lib.ListN.{length, take, set, length-append}
use lib.Seq.{take-suc-set}
use Rattle.reading.specs.Syntax.{Process, nil, par, new, input, output, repl}
use Rattle.reading.specs.declared.Act.{Act as Fields}
use Rattle.reading.specs.declared.Form.TheVariants.{Nil, Par, Group, New, Component as Head, Input, Output, Replicate}
use Rattle.reading.specs.declared.OwnFields.{OwnFields}
use Rattle.decoding.specs.declared.Item.{Item}
use Rattle.decoding.specs.Words.{item_at}
use Rattle.decoding.specs.Tables.{process_of, process_in}
use Rattle.decoding.proofs.TableLaws.{process_formed, next_near, second_near, new_small}
use Rattle.inference.specs.Acts.{Component}
use Rattle.running.specs.Products.{news, threads_of}
use Rattle.memory.specs.Threads.{packed, unpacked}
use Rattle.memory.specs.Chains.{chain}
use Rattle.memory.specs.declared.Thread.{Thread as Place}
use Rattle.memory.proofs.ThreadLaws.{unpack_pack}
use Rattle.memory.proofs.ChainLaws.{chain_kept}
use Rattle.products.specs.declared.Sizes.{Sizes}
use Rattle.products.specs.Pairs.{none, more}
use Rattle.products.specs.Held.{Runs}
use Rattle.products.specs.declared.Maker.{Maker}
use Rattle.products.specs.Makes.{Ready, Makes, Gives, Pushes, crowd, sizes_pushed, threads_pushed}
use Rattle.products.specs.Makers.{Kept, GivesIn, MakesIn}
use Rattle.products.proofs.PairLaws.{pairs_append}
use Rattle.products.proofs.GrowLaws.{shorter, grows_then, grows_cong, all_kept_lem}
use Rattle.products.proofs.GiveLaws.{grows_none, ready_deeper, ready_after, name_given}

-- Nothing is made.
nothing : (forms : List ℕ) (t : Place) (p : Process) (z : Sizes) (made types cells : List ℕ) → p ≡ nil
    → Ready t z made types cells → Makes forms t p z made made types types cells cells z
unfolding crowd news threads_of
nothing forms t p z made types cells e r = rw e (record {
  grows = grows_none r;
  before = refl;
  given = λ few. sym (append-nil (take z.names types));
  products = λ few given c number ts p. rw (append-nil ts) p;
})

pub no_nest : (forms : List ℕ) (t : Place) (z : Sizes) (made types cells : List ℕ) → t.nest ≡ 0 → Ready t z made types cells
    → Makes forms t (process_in t.nest forms t.at) z made made types types cells cells z
unfolding process_in
no_nest forms t z made types cells e = nothing forms t (process_in t.nest forms t.at) z made types cells (rw e refl)

-- Where the nesting is not 0, some is left.
pub nest_left : (n : ℕ) → (n ≡ 0 → ⊥) → 0 < n
nest_left n h = omega arith

-- A thread: a process that makes itself.
record IsThread (p : Process) : Type 0 where
  one : crowd p ≡ 1
  quiet : news p ≡ []
  itself : (c : Component) (names : List ℕ) (next : ℕ) → threads_of c names next p ≡ record { component = c; names = names; process = p } ∷ []

thread_input : (x t : ℕ) (p : Process) → IsThread (input x t p)
unfolding crowd news threads_of
thread_input x t p = record { one = refl; quiet = refl; itself = λ c names next. refl }

thread_output : (x y : ℕ) (p : Process) → IsThread (output x y p)
unfolding crowd news threads_of
thread_output x y p = record { one = refl; quiet = refl; itself = λ c names next. refl }

thread_repl : (p : Process) → IsThread (repl p)
unfolding crowd news threads_of
thread_repl p = record { one = refl; quiet = refl; itself = λ c names next. refl }

module _ (forms : List ℕ) (t : Place) (z : Sizes) (made types cells : List ℕ) where
  abbrev here : Process
  here = process_in t.nest forms t.at

  pushed_runs : (c : Component) → c.number ≡ t.component → 0 < t.nest → Ready t z made types cells
      → Runs forms cells z.cells (packed t) (record { component = c; names = chain cells t.names t.env; process = here })
  pushed_runs c number left r =
      let e : unpacked (packed t) ≡ t
      = unpack_pack t r.component (omega (arith, r.env, r.slack, r.given, r.cells_room)) (omega (arith, r.scope)) (omega (arith, r.deep)) r.place in
      record { env = rw e r.env; component = rw e number; names = rw e refl; process = rw e refl; scope = rw e r.scope; deep = rw e r.deep }

  pushed : (made' : List ℕ) (r : Sizes) → IsThread here → 0 < t.nest → Pushes z t made made' r
      → Ready t z made types cells → Makes forms t here z made made' types types cells cells r
  unfolding sizes_pushed threads_pushed
  pushed made' r st left d ready = go (ltb z.threads 64) refl
    where
      e : r ≡ sizes_pushed z
      e = d.sizes

      f : made' ≡ threads_pushed z t made
      f = d.last

      go : (b : Bool) → ltb z.threads 64 ≡ b → Makes forms t here z made made' types types cells cells r
      go true h =
          let m : made' ≡ set made z.threads (packed t) = rw h at f in
          let lt : z.threads < 64 = ltb-true z.threads 64 h in
          rw (e, h, m) (record {
            grows = record {
              threads = omega (arith, st.one);
              names = omega (arith, ready.given, ap length st.quiet);
              cells = omega arith;
              slack = omega arith;
              kept = refl;
            };
            before = refl;
            given = λ few. rw st.quiet (sym (append-nil (take z.names types)));
            products = λ few given c number ts p.
                let k : take (z.threads + 1) (set made z.threads (packed t)) ≡ take z.threads made ++ (packed t ∷ [])
                = rw (add-one z.threads) (take-suc-set made z.threads (packed t) (omega (arith, ready.made_room))) in
                rw (k, st.itself c (chain cells t.names t.env) z.names) (pairs_append p (more (pushed_runs c number left ready) none));
          })
      go false h =
          let m : made' ≡ made = rw h at f in
          let ge : 64 ≤ z.threads = ltb-false z.threads 64 h in
          rw (e, h, m) (record {
            grows = record {
              threads = omega (arith, st.one, ready.few);
              names = omega (arith, ready.given, ap length st.quiet);
              cells = omega arith;
              slack = omega arith;
              kept = refl;
            };
            before = refl;
            given = λ few. rw st.quiet (sym (append-nil (take z.names types)));
            products = λ few given c number ts p. absurd (omega arith);
          })

-- The type of a new name has few digits.
pub new_fits_lem : (forms : List ℕ) (at : ℕ) (item : Item) (u : ℕ) → item ≡ item_at forms at → item.form ≡ New u → u < 4294967296
new_fits_lem forms at item u e h = let k = new_small forms at (rw e at h) in omega arith

-- The arms of the match on a form.
module _ (forms : List ℕ) (t : Place) (item : Item) (e : item ≡ item_at forms t.at) (left : 0 < t.nest)
    (z : Sizes) (made made' types types' cells cells' : List ℕ) where
  abbrev whole : Process
  whole = process_in t.nest forms t.at

  formed : whole ≡ process_of (λ m. process_in (t.nest - 1) forms m) item.form item.next item.second
  formed = rw e (process_formed t.nest forms t.at left)

  form_nil : item.form ≡ Nil → Ready t z made types cells → Makes forms t whole z made made types types cells cells z
  unfolding process_of
  form_nil h = nothing forms t whole z made types cells (rw h at formed)

  form_group : (g : ℕ) → item.form ≡ Group g → Ready t z made types cells → Makes forms t whole z made made types types cells cells z
  unfolding process_of
  form_group g h = nothing forms t whole z made types cells (rw h at formed)

  form_head : (own : OwnFields) → item.form ≡ Head own → Ready t z made types cells → Makes forms t whole z made made types types cells cells z
  unfolding process_of
  form_head own h = nothing forms t whole z made types cells (rw h at formed)

  pub form_none : (item.form ≡ Nil) ⊎ (((g : ℕ) × (item.form ≡ Group g)) ⊎ ((own : OwnFields) × (item.form ≡ Head own)))
      → Ready t z made types cells → Makes forms t whole z made made types types cells cells z
  form_none (inl h) = form_nil h
  form_none (inr (inl h)) = form_group h.0 h.1
  form_none (inr (inr h)) = form_head h.0 h.1

  module _ (r : Sizes) where
    form_input : (a : Fields) → item.form ≡ Input a → Pushes z t made made' r
        → Ready t z made types cells → Makes forms t whole z made made' types types cells cells r
    unfolding process_of
    form_input a h = pushed forms t z made types cells made' r (rw (formed, h) (thread_input a.channel a.object _)) left

    form_output : (a : Fields) → item.form ≡ Output a → Pushes z t made made' r
        → Ready t z made types cells → Makes forms t whole z made made' types types cells cells r
    unfolding process_of
    form_output a h = pushed forms t z made types cells made' r (rw (formed, h) (thread_output a.channel a.object _)) left

    form_repl : item.form ≡ Replicate → Pushes z t made made' r
        → Ready t z made types cells → Makes forms t whole z made made' types types cells cells r
    unfolding process_of
    form_repl h = pushed forms t z made types cells made' r (rw (formed, h) (thread_repl _)) left

    pub form_thread : ((a : Fields) × (item.form ≡ Input a)) ⊎ (((a : Fields) × (item.form ≡ Output a)) ⊎ (item.form ≡ Replicate))
        → Pushes z t made made' r → Ready t z made types cells → Makes forms t whole z made made' types types cells cells r
    form_thread (inl h) = form_input h.0 h.1
    form_thread (inr (inl h)) = form_output h.0 h.1
    form_thread (inr (inr h)) = form_repl h

    abbrev inner : Place
    inner = record { component = t.component; env = t.env; names = t.names; nest = t.nest - 1; at = item.next }

    within : (p : Process) → whole ≡ p → (Ready inner z made types cells → Makes forms inner p z made made' types types' cells cells' r)
        → Ready t z made types cells → Makes forms t whole z made made' types types' cells cells' r
    within p h m ready =
        let k = m (ready_deeper item.next (rw e (next_near forms t.at)) ready) in
        rw h (record { grows = k.grows; before = k.before; given = k.given; products = k.products })

    pub form_par : item.form ≡ Par
        → (item.second < 8192 → Ready inner z made types cells
        → Makes forms inner (par (process_in (t.nest - 1) forms item.next) (process_in (t.nest - 1) forms item.second)) z made made' types types' cells cells' r)
        → Ready t z made types cells → Makes forms t whole z made made' types types' cells cells' r
    unfolding process_of
    form_par h m = within _ (rw h at formed) (m (rw e (second_near forms t.at)))

    pub form_new : (u : ℕ) → item.form ≡ New u
        → (t.names + (t.nest - 1) < 128 → Ready inner z made types cells
        → Makes forms inner (new u (process_in (t.nest - 1) forms item.next)) z made made' types types' cells cells' r)
        → Ready t z made types cells → Makes forms t whole z made made' types types' cells cells' r
    unfolding process_of
    form_new u h m ready = within _ (rw h at formed) (m (omega (arith, ready.scope))) ready

-- One process after another.
module _ (forms : List ℕ) (t : Place) (second : ℕ) (z z₁ r : Sizes) (made made₁ made' types types₁ types' cells cells₁ cells' : List ℕ)
    (same_made : length made₁ ≡ length made) (same_types : length types₁ ≡ length types) (same_cells : length cells₁ ≡ length cells) where
  abbrev one : Process
  one = process_in t.nest forms t.at

  abbrev other : Process
  other = process_in t.nest forms second

  abbrev rest : Place
  rest = record { component = t.component; env = t.env; names = t.names; nest = t.nest; at = second }

  pub after_left : (Ready t z made types cells → Makes forms t one z made made₁ types types₁ cells cells₁ z₁)
      → (Ready rest z₁ made₁ types₁ cells₁ → Makes forms rest other z₁ made₁ made' types₁ types' cells₁ cells' r)
      → second < 8192 → Ready t z made types cells → Makes forms t (par one other) z made made' types types' cells cells' r
  unfolding crowd news threads_of
  after_left mine theirs near ready =
      let m = mine ready in
      let n = theirs (ready_after t z z₁ made made₁ types types₁ cells cells₁ same_made same_types same_cells t.component second ready.component near m.grows ready) in
      record {
        grows = rw (length-append (news one) (news other)) (grows_then m.grows n.grows);
        before = shorter z.names z₁.names types' types₁ (omega (arith, m.grows.names, ready.given)) n.before ∙ m.before;
        given = λ fits.
            n.given fits
            ∙ ap (λ x. x ++ news other) (m.given (omega (arith, n.grows.names, m.grows.names)))
            ∙ append_assoc (take z.names types) (news one) (news other);
        products = λ few given c number ts p.
            let fits : z₁.names ≤ 1024 = omega (arith, n.grows.names, m.grows.names) in
            let few₁ : z₁.threads ≤ 64 = omega (arith, n.grows.threads, m.grows.threads) in
            let count : z₁.names ≡ z.names + length (news one) = omega (arith, m.grows.names) in
            let env : chain cells₁ t.names t.env ≡ chain cells t.names t.env
            = chain_kept cells₁ cells z.cells t.names t.env m.grows.kept ready.env in
            let q = n.products few given c number _ (m.products few₁ fits c number ts p) in
            rw (
              env,
              count,
              append_assoc ts (threads_of c (chain cells t.names t.env) z.names one)
                  (threads_of c (chain cells t.names t.env) (z.names + length (news one)) other),
            ) at q;
      }

-- Under a new name.
module _ (forms : List ℕ) (t : Place) (u : ℕ) (p : Process) (z z₁ : Sizes) (env : ℕ) (made made' types types₁ types' cells cells₁ cells' : List ℕ) (r : Sizes) where
  abbrev bound_place : Place
  bound_place = record { component = t.component; env = env; names = t.names + 1; nest = t.nest; at = t.at }

  pub under_new : Gives z u t.env types types₁ cells cells₁ z₁ → env ≡ z₁.cells - 1
      → (Ready bound_place z₁ made types₁ cells₁ → Makes forms bound_place p z₁ made made' types₁ types' cells₁ cells' r)
      → t.names + t.nest < 128 → Ready t z made types cells → Makes forms t (new u p) z made made' types types' cells cells' r
  unfolding crowd news threads_of
  under_new gives ee makes lt ready =
      let g = name_given t u z z₁ env made types types₁ cells cells₁ lt ready ee gives in
      let m = makes g.ready in
      record {
        grows = grows_cong (omega arith) (omega arith) (grows_then g.one m.grows);
        before = shorter z.names z₁.names types' types₁ (omega (arith, g.one.names, ready.given)) m.before ∙ g.before;
        given = λ fits. m.given fits
            ∙ rw (g.typed (omega (arith, m.grows.names))) (append_assoc (take z.names types) (u ∷ []) (news p));
        products = λ few given c number ts ps.
            let fits : z₁.names ≤ 1024 = omega (arith, m.grows.names) in
            let q = m.products few given c number ts
            (rw g.threads (all_kept_lem forms cells cells₁ z.cells z₁.cells g.one.kept g.one.cells ps)) in
            rw (g.widened fits, g.number fits) at q;
      }

-- The same in the tables that a walk is lent: one process after another, and a process under a new name.
module _ (m m₁ m' : Maker) (t : Place) where
  pub made_after : (second : ℕ) (z z₁ r : Sizes) → Kept m m₁ → MakesIn m t (process_in t.nest m.forms.now t.at) z m₁ z₁
      → MakesIn m₁ (record { component = t.component; env = t.env; names = t.names; nest = t.nest; at = second })
      (process_in t.nest m₁.forms.now second) z₁ m' r
      → second < 8192 → MakesIn m t (par (process_in t.nest m.forms.now t.at) (process_in t.nest m.forms.now second)) z m' r
  made_after second z z₁ r k mine theirs near ready =
      after_left m.forms.now t second z z₁ r m.made.now m₁.made.now m'.made.now m.types.now m₁.types.now m'.types.now
      m.cells.now m₁.cells.now m'.cells.now k.made_length k.types_length k.cells_length mine (rw k.forms at theirs) near ready

  pub made_under : (u : ℕ) (z z₁ : Sizes) (env names : ℕ) (r : Sizes) → GivesIn m z u t.env m₁ z₁ → env ≡ z₁.cells - 1
      → names ≡ min (t.names + 1) (2 ^ 64 - 1)
      → MakesIn m₁ (record { component = t.component; env = env; names = names; nest = t.nest; at = t.at })
      (process_in t.nest m₁.forms.now t.at) z₁ m' r
      → t.names + t.nest < 128 → MakesIn m t (new u (process_in t.nest m.forms.now t.at)) z m' r
  made_under u z z₁ env names r g ie ne makes few ready =
      let n : names ≡ t.names + 1 = omega (arith, ne) in
      under_new m.forms.now t u (process_in t.nest m.forms.now t.at) z z₁ env m.made.now m'.made.now m.types.now m₁.types.now m'.types.now
      m.cells.now m₁.cells.now m'.cells.now r g.gives ie (rw (g.kept.forms, g.made, n) at makes) few ready

pub ruleset make_steps = (
  rules,
  no_nest,
  nest_left,
  new_fits_lem,
  form_none,
  form_par,
  form_new,
  form_thread,
  made_after,
  made_under,
)
