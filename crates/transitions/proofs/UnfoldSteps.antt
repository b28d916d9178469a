-- 01, return by return.
use Prim.Native.Nat.{ℕ, ◌-◌, ◌%◌, ◌<◌, ◌≤◌}
use mathlib.Core.Path.{◌≡◌, refl, sym, ap, ◌∙◌}
use mathlib.Core.List.{List}
use mathlib.Core.Option.{some}
use native.Mathlib.Omega.{arith}
use native.Mathlib.Nat.{add-zero, mod-lt}
use lib.Dec.{lit<}
use lib.ListN.{length, get_or, get_elem?}
use Rattle.std.specs.Prelude.{Option, Some, Result as Answer, Err}
use Rattle.decoding.specs.Tables.{process_in}
use Rattle.running.specs.State.{Thread, State}
use Rattle.running.specs.Products.{news, threads_of}
use Rattle.running.specs.Moves.{given, as_repeat, made, taken, record_of, unfold_step}
use Rattle.memory.specs.Threads.{unpacked, replaced}
use Rattle.memory.specs.declared.Thread.{Thread as Place}
use Rattle.products.specs.declared.Sizes.{Sizes}
use Rattle.transitions.specs.declared.Moved.{Moved}
use Rattle.transitions.specs.declared.MoveRefusal.{MoveRefusal}
use Rattle.transitions.specs.declared.MoveRefusal.TheVariants.{NoThread, OtherPrefix}
use Rattle.continuations.specs.declared.Prefix.{Prefix}
use Rattle.continuations.specs.declared.Prefix.TheVariants as prefix
use Rattle.continuations.specs.Prefixes.{continuation_of, repeat_of, PrefixFound}
use Rattle.continuations.specs.Places.{Ranged, remaining_at, changed, put, Replacing}
use Rattle.continuations.proofs.FormLaws.{no_repeat}
use Rattle.transitions.specs.Steps.{outcome_of, SteppedAny}
use Rattle.transitions.proofs.MoveLaws.{Acts, record_bytes_lem, later, answers_refused, answers_placed, no_thread, after_before, look}

-- The state after an unfolding.
module _ (forms : List ℕ) (cells : List ℕ) (top : ℕ) (t : Place) (next i : ℕ) (state : State) (u : Thread) where
  abbrev process : Place
  process = continuation_of t next

  unfolded : Acts forms cells top t u → get_elem? state.threads i ≡ some u → as_repeat u.process ≡ repeat_of forms t (Some (prefix.Repeats next))
      → unfold_step state i ≡ taken (put forms process i i cells state u.component) (record_of 6 65535 65535 u.component.number 255)
  unfolding unfold_step given made put remaining_at repeat_of
  unfolded a here r =
      rw (here, r, add-zero (length state.types))
      (ap (λ n. taken n (record_of 6 65535 65535 u.component.number 255))
      (after_before state i u here
      (threads_of u.component u.names (length state.types) (process_in (t.nest - 1) forms (next % 8192)))
      (news (process_in (t.nest - 1) forms (next % 8192)))
      ∙ ap (λ ns. changed state
      (replaced state.threads i i (threads_of u.component ns (length state.types) (process_in (t.nest - 1) forms (next % 8192))))
      (news (process_in (t.nest - 1) forms (next % 8192)))) a.names))

-- What follows of a thread that acts may be taken apart.
pub process_of_lem : {forms cells : List ℕ} {top : ℕ} {t : Place} {u : Thread} (next : ℕ) → Acts forms cells top t u
    → Ranged (continuation_of t next) top
process_of_lem next a = record {
  component = a.small;
  scope = omega (arith, a.scope);
  deep = omega (arith, a.deep);
  place = mod-lt next (lit< tt);
  env = a.env;
}

module _ (forms : List ℕ) (i : ℕ) (z : Sizes) (threads types cells : List ℕ) (threads_room : length threads ≡ 128) where
  abbrev Told : List ℕ → List ℕ → List ℕ → Answer Moved MoveRefusal → Type 0
  Told threads' types' cells' r = SteppedAny forms z threads types cells threads' types' cells' (λ state. unfold_step state i) r

  pub unfold_no_thread : z.threads ≤ i → Told threads types cells (Err NoThread)
  unfolding unfold_step given
  unfold_no_thread k state turns known few kr h =
      answers_refused forms turns threads types known cells state NoThread z (unfold_step state i)
      (rw (no_thread forms z turns threads types known cells state threads_room h i k) refl) h

  module _ (t : Place) (st : Option Prefix) (k : i < z.threads) (e : t ≡ unpacked (get_or threads i 0)) (f : PrefixFound forms cells t st) where
    -- 31: its prefix is no replication.
    pub unfold_other : ((next : ℕ) → st ≡ Some (prefix.Repeats next) → ⊥) → Told threads types cells (Err OtherPrefix)
    unfolding unfold_step given
    unfold_other not state turns known few kr h =
        let l = look forms z turns threads types known cells state i t st threads_room h k e f in
        answers_refused forms turns threads types known cells state OtherPrefix z (unfold_step state i)
        (rw (l.here, l.prefixed.repeats, no_repeat forms t st not) refl) h

    pub unfold_repeats : (next : ℕ) → st ≡ Some (prefix.Repeats next) → (body : Place) (placed : Option Sizes) (threads' types' cells' : List ℕ) (r : Answer Moved MoveRefusal)
        → body ≡ continuation_of t next
        → Replacing forms body i i z threads types cells threads' types' cells' placed
        → r ≡ outcome_of placed (record { number = 0; label = 6; channel = 65535; name = 65535; actor = t.component; receiver = 255 })
        → Told threads' types' cells' r
    unfold_repeats next q body placed threads' types' cells' r b replacing o state turns known few kr h =
        let l = look forms z turns threads types known cells state i t st threads_room h k e f in
        let u = l.thread in
        let a : Acts forms cells z.cells t u = l.acts in
        let rep : as_repeat u.process ≡ repeat_of forms t (Some (prefix.Repeats next)) = l.prefixed.repeats ∙ ap (repeat_of forms t) q in
        let body_is : continuation_of t next ≡ body = sym b in
        let rs = replacing state u.component turns known (omega (arith, few)) kr (a.component ∙ ap (λ p. p.component) body_is) (rw b (process_of_lem next a)) h in
        answers_placed forms turns threads' types' known cells' state placed _ (put forms body i i cells state u.component) (record_of 6 65535 65535 u.component.number 255) (unfold_step state i) z r
        (unfolded forms cells z.cells t next i state u a l.here rep ∙ ap (λ p. taken (put forms p i i cells state u.component) (record_of 6 65535 65535 u.component.number 255)) body_is)
        o
        (record_bytes_lem 6 65535 65535 t.component 255 (lit< tt) a.small (lit< tt) ∙ ap (λ n. record_of 6 65535 65535 n 255) (sym a.component))
        rs.fits
        (λ s y. later forms turns threads' types' known cells' (put forms body i i cells state u.component) s (rs.taken s y))
        (λ y. later forms turns threads' types' known cells' state z (rs.kept y turns z.cells (omega arith) h))
