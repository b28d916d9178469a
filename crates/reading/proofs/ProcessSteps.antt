-- Reading past a process, form by form: after each form the process ends as what is left of it does, one level deeper.
use Prim.Native.Nat.{ℕ, ◌+◌, ◌-◌, ◌<◌, ◌≤◌}
use mathlib.Core.List.{List}
use mathlib.Core.Logic.{◌⊎◌, inl, inr}
use mathlib.Core.Path.{◌≡◌, refl, sym, ◌∙◌}
use native.Mathlib.Omega.{arith}
use borrow.Author.Rules.{rules}
use mir.Syntax.{w64}
use mir.Val.{Fits}
use Rattle.reading.proofs.FormLaws.{FitsProcess, process_room, process_level}
use Rattle.reading.proofs.TreeLaws.{process_step, process_stop}
use Rattle.reading.proofs.Parts.{never}
use Rattle.std.specs.Prelude.{Result, Ok, Err}
use Rattle.reading.specs.Read.{Read, got, refused, and_then}
use Rattle.reading.specs.Syntax.{Process, par, new, input, output, repl}
use Rattle.reading.specs.Forms.{process_at_in}
use Rattle.reading.specs.System.{process_from, read_process_in}
use Rattle.reading.specs.Questions.{number_of}
use Rattle.reading.specs.Told.{form, ending, ended}
use Rattle.reading.specs.declared.Dialect.{Dialect}
use Rattle.reading.specs.declared.Act.{Act}
use Rattle.reading.specs.declared.Form.{Form}
use Rattle.reading.specs.declared.Form.TheVariants.{Nil, Par, Group, New, Component, Input, Output, Replicate}
use Rattle.reading.specs.declared.OwnFields.{OwnFields}
use Rattle.reading.specs.declared.Place.{Place}
use Rattle.reading.specs.declared.Refusal.{Refusal}

-- What is kept of a reading is what is kept of its last part.
pub ended_map : {A B : Type 0} (x : Read A) (f : A → B) → ended (and_then x (λ a k. got (f a) k)) ≡ ended x
unfolding ended and_then
ended_map (got a k) f = refl
ended_map (refused q p) f = refl

-- After its first form a process ends as what is left of it does; `read` reads one level deeper.
module _ (read : ℕ → ℕ → Read Process) (at names next : ℕ) where
  after_par : (l : Result ℕ Refusal) (m : ℕ) → l ≡ Ok m → ending l ≡ ended (read names next)
      → ended (process_from read at names Par next) ≡ ended (read names m)
  unfolding process_from ended and_then
  after_par l m i h = go (read names next) (rw i at h)
    where
      go : (x : Read Process) → got tt m ≡ ended x
          → ended (and_then x (λ p m. and_then (read names m) (λ q k. got (par p q) k))) ≡ ended (read names m)
      go (got p n) h = let z : m ≡ n = cc in rw (ended_map (read names n) (λ q. par p q), z)
      go (refused q p) h = never (sym h)

  -- A parallel form whose left part is refused.
  after_left : (l : Result ℕ Refusal) (q : Refusal) → l ≡ Err q → ending l ≡ ended (read names next)
      → ended (process_from read at names Par next) ≡ ending l
  unfolding process_from ended and_then
  after_left l q i h = rw i (go (read names next) (rw i at h))
    where
      go : (x : Read Process) → refused (number_of q.question) q.at ≡ ended x
          → ended (and_then x (λ p m. and_then (read names m) (λ q k. got (par p q) k))) ≡ refused (number_of q.question) q.at
      go (got p n) h = never h
      go (refused q p) h = sym h

-- The loop over a process's forms: what is left of the process, from the place reached on.
pub record ProcessLeft (d : Dialect) (s : List ℕ) (from levels bound at nest names : ℕ) : Type 0 where
  pub same : ended (read_process_in d levels s bound from) ≡ ended (read_process_in d nest s names at)
  pub low : nest ≤ levels

pub process_whole : (d : Dialect) (s : List ℕ) (at nest names : ℕ) → ProcessLeft d s at nest names at nest names
process_whole d s at nest names = record { same = refl; low = omega arith }

-- What the code knows of the form at the place reached.
module _ (d : Dialect) (s : List ℕ) (from levels bound at nest names : ℕ) (l : ProcessLeft d s from levels bound at nest names) (r : Result Place Refusal)
    (e : form r ≡ process_at_in d s at nest names) where
  abbrev told : Read (Unit {0})
  told = ended (read_process_in d levels s bound from)

  abbrev deeper : ℕ → ℕ → Read Process
  deeper n m = read_process_in d (nest - 1) s n m

  pub process_refused : (w : Refusal) → r ≡ Err w → refused (number_of w.question) w.at ≡ told
  unfolding ended
  process_refused w f = rw (l.same, process_stop d nest s names at {q = number_of w.question} {p = w.at} (rw f at (sym e)))

  module _ (p : Place) (f : r ≡ Ok p) where
    found : process_at_in d s at nest names ≡ got p.form p.next
    found = rw f at (sym e)

    pub process_deeper : 1 ≤ nest
    process_deeper = process_level nest names p.form (process_room d s at nest names found)

    pub process_lessens : nest - 1 < nest
    process_lessens = omega (arith, process_deeper)

    pub process_falls : (t : ℕ) → levels ≡ t → nest - 1 < t
    process_falls t h = omega (arith, process_deeper, l.low)

    pub new_fits_lem : (t : ℕ) → p.form ≡ New t → Fits w64 (names + 1)
    unfolding FitsProcess
    new_fits_lem t h = let k = rw h at (process_room d s at nest names found) in record { fits = omega arith }

    pub input_fits : (a : Act) → p.form ≡ Input a → Fits w64 (names + 1)
    unfolding FitsProcess
    input_fits a h = let k = rw h at (process_room d s at nest names found) in record { fits = omega arith }

    begun : told ≡ ended (process_from deeper at names p.form p.next)
    begun = rw (l.same, process_step d nest s names at found)

    ends : {y : Read (Unit {0})} (g : Form) → p.form ≡ g → ended (process_from deeper at names g p.next) ≡ y
        → y ≡ told
    ends g h k = sym (rw h at begun ∙ k)

    goes : (g : Form) (n m : ℕ) → p.form ≡ g → ended (process_from deeper at names g p.next) ≡ ended (deeper n m)
        → ProcessLeft d s from levels bound m (nest - 1) n
    goes g n m h k = record { same = rw h at begun ∙ k; low = omega (arith, l.low) }

    pub at_nil : p.form ≡ Nil → got tt p.next ≡ told
    unfolding process_from ended
    at_nil h = ends Nil h refl

    pub at_group : (g : ℕ) → p.form ≡ Group g → refused 4 at ≡ told
    unfolding process_from ended
    at_group g h = ends (Group g) h refl

    pub at_component : (own : OwnFields) → p.form ≡ Component own → refused 4 at ≡ told
    unfolding process_from ended
    at_component own h = ends (Component own) h refl

    pub at_new : (t : ℕ) → p.form ≡ New t → ProcessLeft d s from levels bound p.next (nest - 1) (names + 1)
    unfolding process_from
    at_new t h = goes (New t) (names + 1) p.next h (ended_map (deeper (names + 1) p.next) (λ q. new t q))

    pub at_input : (a : Act) → p.form ≡ Input a → ProcessLeft d s from levels bound p.next (nest - 1) (names + 1)
    unfolding process_from
    at_input a h = goes (Input a) (names + 1) p.next h (ended_map (deeper (names + 1) p.next) (λ q. input a.channel a.object q))

    pub at_output : (a : Act) → p.form ≡ Output a → ProcessLeft d s from levels bound p.next (nest - 1) names
    unfolding process_from
    at_output a h = goes (Output a) names p.next h (ended_map (deeper names p.next) (λ q. output a.channel a.object q))

    pub at_replicate : p.form ≡ Replicate → ProcessLeft d s from levels bound p.next (nest - 1) names
    unfolding process_from
    at_replicate h = goes Replicate names p.next h (ended_map (deeper names p.next) (λ q. repl q))

    -- where one arm of the code stands for two forms
    pub name_fits : ((t : ℕ) × (p.form ≡ New t)) ⊎ ((a : Act) × (p.form ≡ Input a)) → Fits w64 (names + 1)
    name_fits (inl (t, h)) = new_fits_lem t h
    name_fits (inr (a, h)) = input_fits a h

    pub at_no_process : ((g : ℕ) × (p.form ≡ Group g)) ⊎ ((own : OwnFields) × (p.form ≡ Component own)) → refused 4 at ≡ told
    at_no_process (inl (g, h)) = at_group g h
    at_no_process (inr (own, h)) = at_component own h

    module _ (t : Result ℕ Refusal) (k : ending t ≡ ended (read_process_in d (nest - 1) s names p.next)) where
      pub at_par : (m : ℕ) → p.form ≡ Par → t ≡ Ok m → ProcessLeft d s from levels bound m (nest - 1) names
      at_par m h i = goes Par names m h (after_par deeper at names p.next t m i k)

      pub at_par_left : (q : Refusal) → p.form ≡ Par → t ≡ Err q → ending t ≡ told
      at_par_left q h i = ends Par h (after_left deeper at names p.next t q i k)

pub ruleset process_steps = (
  rules,
  process_whole,
  process_refused,
  process_deeper,
  process_lessens,
  process_falls,
  at_nil,
  name_fits,
  at_no_process,
  at_new,
  at_input,
  at_output,
  at_par,
  at_par_left,
)

-- where one arm stands for two forms
pub ruleset process_arms = (at_new, at_input, at_output, at_replicate)
