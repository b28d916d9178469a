-- The prefix of a thread, return by return.
use Prim.Native.Nat.{ℕ, ◌+◌, ◌-◌, ◌%◌, ◌≤◌}
use mathlib.Core.Path.{◌≡◌, refl, ◌∙◌}
use mathlib.Core.List.{List}
use native.Mathlib.Nat.{mod-eq_of_lt}
use native.Mathlib.Omega.{arith}
use borrow.Author.Rules.{rules}
use lib.ListN.{get_or}
use Rattle.std.specs.Prelude.{Some, None}
use Rattle.reading.specs.Syntax.{Process, nil, par, new, input, output, repl}
use Rattle.reading.specs.declared.Act.{Act as Fields}
use Rattle.reading.specs.declared.Form.{Form}
use Rattle.reading.specs.declared.Form.TheVariants.{Nil, Par, Group, New, Component as Head, Input, Output, Replicate}
use Rattle.reading.specs.declared.OwnFields.{OwnFields}
use Rattle.decoding.specs.declared.Item.{Item}
use Rattle.decoding.specs.Words.{item_at}
use Rattle.decoding.specs.Tables.{process_of, process_in}
use Rattle.decoding.proofs.TableLaws.{process_formed, next_near}
use Rattle.running.specs.State.{Thread}
use Rattle.running.specs.Moves.{run_name, as_sending, as_receiving, as_repeat}
use Rattle.memory.specs.Chains.{chain}
use Rattle.memory.specs.declared.Thread.{Thread as Place}
use Rattle.memory.proofs.ChainLaws.{chain_small}
use Rattle.continuations.specs.declared.Prefix.{Prefix}
use Rattle.continuations.specs.declared.Prefix.TheVariants as prefix
use Rattle.continuations.specs.Prefixes.{sending_of, receiving_of, repeat_of, HasPrefix}

module _ (forms : List ℕ) (t : Place) (cells : List ℕ) where
  abbrev whole : Process
  whole = process_in t.nest forms t.at

  -- A process that no move acts on.
  idle_nil : (u : Thread) → u.process ≡ nil → HasPrefix forms t u None
  unfolding as_sending as_receiving as_repeat sending_of receiving_of repeat_of
  idle_nil u h = record { sends = rw h refl; receives = rw h refl; repeats = rw h refl; binds = λ d k. let z : ◌≡◌ {A = ℕ} 0 1 = cc in absurd (omega arith); small = λ d k. let z : ◌≡◌ {A = ℕ} 0 1 = cc in absurd (omega arith) }

  idle_par : (u : Thread) (l r : Process) → u.process ≡ par l r → HasPrefix forms t u None
  unfolding as_sending as_receiving as_repeat sending_of receiving_of repeat_of
  idle_par u l r h = record { sends = rw h refl; receives = rw h refl; repeats = rw h refl; binds = λ d k. let z : ◌≡◌ {A = ℕ} 0 1 = cc in absurd (omega arith); small = λ d k. let z : ◌≡◌ {A = ℕ} 0 1 = cc in absurd (omega arith) }

  idle_new : (u : Thread) (n : ℕ) (p : Process) → u.process ≡ new n p → HasPrefix forms t u None
  unfolding as_sending as_receiving as_repeat sending_of receiving_of repeat_of
  idle_new u n p h = record { sends = rw h refl; receives = rw h refl; repeats = rw h refl; binds = λ d k. let z : ◌≡◌ {A = ℕ} 0 1 = cc in absurd (omega arith); small = λ d k. let z : ◌≡◌ {A = ℕ} 0 1 = cc in absurd (omega arith) }

  pub no_nest : t.nest ≡ 0 → (u : Thread) → u.names ≡ chain cells t.names t.env → u.process ≡ whole → t.names + t.nest ≤ 128
      → HasPrefix forms t u None
  unfolding process_in
  no_nest e u n k scope = idle_nil u (k ∙ rw e refl)

  module _ (item : Item) (e : item ≡ item_at forms t.at) (left : t.nest ≡ 0 → ⊥) where
    formed : whole ≡ process_of (λ m. process_in (t.nest - 1) forms m) item.form item.next item.second
    formed = rw e (process_formed t.nest forms t.at (omega arith))

    -- A place of the table is within its range.
    near : item.next % 8192 ≡ item.next
    near = mod-eq_of_lt (rw e (next_near forms t.at))

    module _ (u : Thread) (n : u.names ≡ chain cells t.names t.env) (k : u.process ≡ whole) (scope : t.names + t.nest ≤ 128) where
      form_nil : item.form ≡ Nil → HasPrefix forms t u None
      unfolding process_of
      form_nil f = idle_nil u (k ∙ rw f at formed)

      form_group : (g : ℕ) → item.form ≡ Group g → HasPrefix forms t u None
      unfolding process_of
      form_group g f = idle_nil u (k ∙ rw f at formed)

      form_head : (own : OwnFields) → item.form ≡ Head own → HasPrefix forms t u None
      unfolding process_of
      form_head own f = idle_nil u (k ∙ rw f at formed)

      form_par : item.form ≡ Par → HasPrefix forms t u None
      unfolding process_of
      form_par f = idle_par u _ _ (k ∙ rw f at formed)

      form_new : (v : ℕ) → item.form ≡ New v → HasPrefix forms t u None
      unfolding process_of
      form_new v f = idle_new u v _ (k ∙ rw f at formed)

      -- A form that no move acts on.
      pub form_idle : ((a : Fields) → item.form ≡ Input a → ⊥) → ((a : Fields) → item.form ≡ Output a → ⊥) → (item.form ≡ Replicate → ⊥)
          → HasPrefix forms t u None
      form_idle i o r = go item.form refl
        where
          go : (f : Form) → item.form ≡ f → HasPrefix forms t u None
          go Nil f = form_nil f
          go Par f = form_par f
          go (Group g) f = form_group g f
          go (New v) f = form_new v f
          go (Head own) f = form_head own f
          go (Input a) f = absurd (i a f)
          go (Output a) f = absurd (o a f)
          go Replicate f = absurd (r f)

      pub form_repl : item.form ≡ Replicate → HasPrefix forms t u (Some (prefix.Repeats item.next))
      unfolding process_of as_sending as_receiving as_repeat sending_of receiving_of repeat_of
      form_repl f =
          let x : u.process ≡ repl (process_in (t.nest - 1) forms item.next) = k ∙ rw f at formed in
          record { sends = rw x refl; receives = rw x refl; repeats = rw (x, near) refl; binds = λ d i. let z : ◌≡◌ {A = ℕ} 0 1 = cc in absurd (omega arith); small = λ d i. let z : ◌≡◌ {A = ℕ} 0 1 = cc in absurd (omega arith) }

      pub form_input : (a : Fields) (r : Prefix) → item.form ≡ Input a
          → r ≡ prefix.Receives (record { channel = get_or (chain cells t.names t.env) a.channel 65535; object = a.object; next = item.next })
          → HasPrefix forms t u (Some r)
      unfolding process_of as_sending as_receiving as_repeat sending_of receiving_of repeat_of run_name
      form_input a r f i =
          let x : u.process ≡ input a.channel a.object (process_in (t.nest - 1) forms item.next) = k ∙ rw f at formed in
          rw i (record { sends = rw x refl; receives = rw (x, n, near) refl; repeats = rw x refl; binds = λ d j. omega arith; small = λ d j. let z : ◌≡◌ {A = ℕ} 0 1 = cc in absurd (omega arith) })

      pub form_output : (a : Fields) (r : Prefix) → item.form ≡ Output a
          → r ≡ prefix.Sends (record {
            channel = get_or (chain cells t.names t.env) a.channel 65535;
            object = get_or (chain cells t.names t.env) a.object 65535;
            next = item.next;
          })
          → HasPrefix forms t u (Some r)
      unfolding process_of as_sending as_receiving as_repeat sending_of receiving_of repeat_of run_name
      form_output a r f i =
          let x : u.process ≡ output a.channel a.object (process_in (t.nest - 1) forms item.next) = k ∙ rw f at formed in
          rw i (record {
            sends = rw (x, n, near) refl;
            receives = rw x refl;
            repeats = rw x refl;
            binds = λ d j. let z : ◌≡◌ {A = ℕ} 0 1 = cc in absurd (omega arith);
            small = λ d j.
                let sent : get_or (chain cells t.names t.env) a.object 65535 ≡ d.object = cc in
                rw (← sent) (chain_small cells t.names t.env a.object);
          })

-- What follows, and what is done, with a part that was worked out.
pub continuation_is : (p e n k m a : ℕ) → k ≡ m → ◌≡◌ {A = Place} (record { component = p; env = e; names = n; nest = k; at = a }) (record { component = p; env = e; names = n; nest = m; at = a })
continuation_is p e n k m a h = rw h

pub receives_is : (c d o n : ℕ) → c ≡ d → prefix.Receives (record { channel = c; object = o; next = n }) ≡ prefix.Receives (record { channel = d; object = o; next = n })
receives_is c d o n h = rw h

pub sends_is : (c d o x n : ℕ) → c ≡ d → o ≡ x → prefix.Sends (record { channel = c; object = o; next = n }) ≡ prefix.Sends (record { channel = d; object = x; next = n })
sends_is c d o x n h k = rw (h, k)

pub ruleset prefix_steps = (rules, continuation_is, receives_is, sends_is, no_nest, form_idle, form_repl, form_input, form_output)
