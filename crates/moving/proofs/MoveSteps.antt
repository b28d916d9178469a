-- What each return of the services has to show, over plain values.
use Prim.Native.Nat.{ℕ, ◌+◌, ◌-◌, ◌<◌, ◌≤◌}
use mathlib.Core.Bool.{Bool, true, false, not}
use mathlib.Core.List.{List, []}
use mathlib.Core.Path.{◌≡◌, refl, sym, ap, ◌∙◌}
use native.Mathlib.Omega.{arith}
use mir.Syntax.{w64}
use mir.Val.{Fits}
use borrow.Author.Rules.{rules}
use borrow.Author.Tests.{le-leb, lt-leb}
use lib.Dec.{leb}
use lib.ListN.{length}
use Rattle.reading.specs.Read.{Read, got, refused}
use Rattle.reading.specs.Syntax.{Sheet, components}
use Rattle.reading.specs.System.{sheet_of_in}
use Rattle.reading.specs.Questions.{number_of}
use Rattle.reading.specs.Told.{number, counted_in}
use Rattle.reading.specs.declared.Dialect.{Dialect}
use Rattle.reading.specs.declared.Dialect.TheVariants.{Old as old, Current as current}
use Rattle.reading.specs.declared.Number.{Number}
use Rattle.reading.specs.declared.Question.{Question}
use Rattle.reading.specs.declared.Question.TheVariants as question
use Rattle.reading.specs.declared.Refusal.{Refusal}
use Rattle.std.specs.Prelude.{Result, Ok, Err}
use Rattle.reading.proofs.Parts.{never}
use Rattle.reading.proofs.TreeLaws.{SheetPartsIn, sheet_parts_in, components_few}
use Rattle.encoding.specs.Encoding.{sheet_bytes, purposes, all_zero}
use Rattle.encoding.specs.Copying.{copy_of, stated_in, Put}
use Rattle.encoding.proofs.Stored.{sheet_stored}
use Rattle.encoding.proofs.Sizes.{sheet_longer, old_zeros}
use Rattle.encoding.proofs.WalkSteps.{negated}
use Rattle.encoding.proofs.CopyLaws.{start_inside, copy_is, stated_are}
use Rattle.service.specs.Questions.{passed, ask, after_reading}
use Rattle.service.specs.Check.{fitting, written}
use Rattle.moving.specs.Moving.{new_form, old_form, upgraded, downgraded}
use Rattle.moving.specs.Told.{Upgraded, Downgraded, Movable, Moved}

-- Question 19.
module _ (bytes output : List ℕ) (len : ℕ) (is : len ≡ length bytes) where
  pub no_room : length output < len → Moved bytes output output (Err question.Output)
  unfolding fitting written ask
  no_room h = record {
    answer = rw (lt-leb (length bytes) (length output) (omega arith));
    lent = rw (lt-leb (length bytes) (length output) (omega arith));
  }

  pub room : (output' : List ℕ) (r : ℕ) → len ≤ length output → Put output output' 0 bytes r → Moved bytes output output' (Ok len)
  unfolding fitting written ask
  room output' r h p =
      let z : 0 + length bytes ≡ length bytes = omega arith in
      record {
        answer = rw (le-leb (length bytes) (length output) (omega arith)) (ap passed is);
        lent = rw (le-leb (length bytes) (length output) (omega arith)) (rw z at p.left);
      }

pub ruleset delivering = (rules, no_room, room)

-- A sheet that was read and counted.
pub record Counted (d : Dialect) (s : List ℕ) (n : ℕ) : Type 0 where
  pub tree : Sheet
  pub end : ℕ
  pub reads : sheet_of_in d s [] ≡ got tree end
  pub parts : SheetPartsIn d s [] tree end
  pub stored : sheet_bytes d tree ≡ s
  pub count : n ≡ components tree.system
  pub few : n ≤ 32

counted : (d : Dialect) (s : List ℕ) (r : Result Number Refusal) (n : Number) → number r ≡ counted_in (sheet_of_in d s []) → r ≡ Ok n → Counted d s n.value
unfolding counted_in
counted d s r n e f = go (sheet_of_in d s []) refl e
  where
    go : (x : Read Sheet) → sheet_of_in d s [] ≡ x → number r ≡ counted_in x → Counted d s n.value
    go (got a k) i u =
        let v : got n.value n.next ≡ got (components a.system) k = ap number (sym f) ∙ u in
        let c : n.value ≡ components a.system = cc in
        let p = sheet_parts_in d s [] i in
        record {
          tree = a;
          end = k;
          reads = i;
          parts = p;
          stored = sheet_stored d s [] p;
          count = c;
          few = omega (arith, components_few d 64 s (length a.free) [] 0 p.start (omega arith) p.body);
        }
    go (refused q m) i u = never (sym u ∙ ap number f)

-- One that was not: the first of questions 1 to 6 that fails.
record Unread (d : Dialect) (s : List ℕ) (q : ℕ) : Type 0 where
  place : ℕ
  is : sheet_of_in d s [] ≡ refused q place

unread : (d : Dialect) (s : List ℕ) (r : Result Number Refusal) (w : Refusal) → number r ≡ counted_in (sheet_of_in d s []) → r ≡ Err w
    → Unread d s (number_of w.question)
unfolding counted_in
unread d s r w e f = go (sheet_of_in d s []) refl e
  where
    go : (x : Read Sheet) → sheet_of_in d s [] ≡ x → number r ≡ counted_in x → Unread d s (number_of w.question)
    go (got a k) i u = never (ap number (sym f) ∙ u)
    go (refused p m) i u =
        let v : refused (number_of w.question) w.at ≡ refused p m = ap number (sym f) ∙ u in
        let z : number_of w.question ≡ p = cc in
        record { place = m; is = i ∙ ap (λ (x : ℕ). refused x m) (sym z) }

-- Old to new.
module _ (s : List ℕ) (r : Result Number Refusal) (e : number r ≡ counted_in (sheet_of_in old s [])) where
  pub old_unread : (output : List ℕ) (w : Refusal) → r ≡ Err w → Upgraded s output output (Err w.question)
  unfolding upgraded new_form after_reading written
  old_unread output w f = let u = (unread old s r w e f).is in record { answer = rw u; lent = rw u }

  module _ (n : Number) (f : r ≡ Ok n) where
    old_counted : Counted old s n.value
    old_counted = counted old s r n e f

    new_long : length (sheet_bytes current old_counted.tree) ≡ length s + n.value
    new_long = omega (arith, sheet_longer old_counted.tree, ap length old_counted.stored, old_counted.count)

    new_is : (output : List ℕ) → new_form s output ≡ ask 1 (leb (length s + n.value) 4096) (fitting output (sheet_bytes current old_counted.tree))
    unfolding new_form after_reading
    new_is output = rw (old_counted.reads, new_long)

    old_copied : copy_of old current s ≡ sheet_bytes current old_counted.tree
    old_copied = copy_is old old_counted.tree s old_counted.stored current (old_zeros s [] old_counted.parts)

    pub old_short : length s ≤ 4096
    old_short = old_counted.parts.short

    pub new_fits_lem : Fits w64 (length s + n.value)
    new_fits_lem = record { fits = omega (arith, old_counted.few, old_counted.parts.short) }

    pub new_too_long : (output : List ℕ) → 4096 < length s + n.value → Upgraded s output output (Err question.Length)
    unfolding upgraded written ask
    new_too_long output h = record {
      answer = rw (new_is output, lt-leb (length s + n.value) 4096 h);
      lent = rw (new_is output, lt-leb (length s + n.value) 4096 h);
    }

    pub old_movable : Movable old current s (length s + n.value)
    old_movable = record {
      long = sym (ap length old_copied ∙ new_long);
      start = start_inside old old_counted.tree s old_counted.stored;
      short = old_counted.parts.short;
    }

    pub old_moved : (output output' : List ℕ) (answer : Result ℕ Question) → length s + n.value ≤ 4096 → Moved (copy_of old current s) output output' answer
        → Upgraded s output output' answer
    unfolding upgraded ask
    old_moved output output' answer h m =
        let k = le-leb (length s + n.value) 4096 h in
        record {
          answer = rw (new_is output, k, ← old_copied) m.answer;
          lent = rw (new_is output, k, ← old_copied) m.lent;
        }

pub ruleset upgrading = (rules, old_unread, old_short, new_fits_lem, new_too_long, old_movable, old_moved)

-- New to old.
module _ (s : List ℕ) (r : Result Number Refusal) (e : number r ≡ counted_in (sheet_of_in current s [])) where
  pub new_unread : (output : List ℕ) (w : Refusal) → r ≡ Err w → Downgraded s output output (Err w.question)
  unfolding downgraded old_form after_reading written
  new_unread output w f = let u = (unread current s r w e f).is in record { answer = rw u; lent = rw u }

  module _ (n : Number) (f : r ≡ Ok n) where
    new_counted : Counted current s n.value
    new_counted = counted current s r n e f

    old_long : length (sheet_bytes old new_counted.tree) + n.value ≡ length s
    old_long = omega (arith, sheet_longer new_counted.tree, ap length new_counted.stored, new_counted.count)

    pub new_short : length s ≤ 4096
    new_short = new_counted.parts.short

    pub few_of : n.value ≤ length s
    few_of = omega (arith, old_long)

    module _ (zero : Bool) (z : zero ≡ all_zero (stated_in current s)) where
      zeros_are : all_zero (purposes new_counted.tree.system) ≡ zero
      zeros_are = ap all_zero (sym (stated_are new_counted.tree s new_counted.stored)) ∙ sym z

      old_is : (output : List ℕ) → old_form s output ≡ ask 41 zero (fitting output (sheet_bytes old new_counted.tree))
      unfolding old_form after_reading
      old_is output = rw (new_counted.reads, zeros_are)

      pub states_other : (output : List ℕ) → not zero ≡ true → Downgraded s output output (Err question.Purposes)
      unfolding downgraded written ask
      states_other output h = record { answer = rw (old_is output, negated zero true (sym h)); lent = rw (old_is output, negated zero true (sym h)) }

      module _ (y : not zero ≡ false) where
        all_zero_lem : zero ≡ true
        all_zero_lem = negated zero false (sym y)

        new_copied : copy_of current old s ≡ sheet_bytes old new_counted.tree
        new_copied = copy_is current new_counted.tree s new_counted.stored old (zeros_are ∙ all_zero_lem)

        pub new_movable : Movable current old s (length s - n.value)
        new_movable = record {
          long = omega (arith, ap length new_copied, old_long);
          start = start_inside current new_counted.tree s new_counted.stored;
          short = new_counted.parts.short;
        }

        pub new_moved : (output output' : List ℕ) (answer : Result ℕ Question) → Moved (copy_of current old s) output output' answer → Downgraded s output output' answer
        unfolding downgraded ask
        new_moved output output' answer m = record {
          answer = rw (old_is output, all_zero_lem, ← new_copied) m.answer;
          lent = rw (old_is output, all_zero_lem, ← new_copied) m.lent;
        }

pub ruleset downgrading = (rules, new_unread, new_short, few_of, states_other, new_movable, new_moved)
