-- Reading past a system, form by form, and counting its components: after each form the system ends as what is left of it does,
-- one level deeper, with as many components in all.
use Prim.Native.Nat.{ℕ, ◌+◌, ◌-◌, ◌<◌, ◌≤◌}
use mathlib.Core.Bool.{true}
use mathlib.Core.Logic.{◌⊎◌, inl, inr}
use mathlib.Core.List.{List, [], ◌∷◌, ◌++◌}
use mathlib.Core.Path.{◌≡◌, refl, sym, ◌∙◌}
use native.Mathlib.Nat.{add-zero, add_assoc}
use native.Mathlib.Omega.{arith}
use borrow.Author.Rules.{rules}
use borrow.Author.Tests.{lt-ltb}
use lib.Dec.{ltb}
use lib.ListN.{length}
use mir.Syntax.{w64}
use mir.Val.{Fits}
use Rattle.reading.proofs.FormLaws.{FitsSystem, GroupNew, system_room, system_level, system_group}
use Rattle.reading.proofs.Parts.{never}
use Rattle.reading.proofs.TreeLaws.{system_step, system_stop}
use Rattle.std.specs.Prelude.{Result, Ok, Err}
use Rattle.reading.specs.Read.{Read, got, refused, and_then}
use Rattle.reading.specs.Syntax.{Process, System, parₛ, groupₛ, newₛ, components}
use Rattle.reading.specs.Forms.{system_at_in}
use Rattle.reading.specs.System.{component, system_from, read_process_in, read_system_in}
use Rattle.reading.specs.Questions.{number_of}
use Rattle.reading.specs.Told.{number, form, ending, ended, counted}
use Rattle.reading.specs.declared.Dialect.{Dialect}
use Rattle.reading.specs.declared.Act.{Act}
use Rattle.reading.specs.declared.Form.{Form}
use Rattle.reading.specs.declared.Form.TheVariants.{Nil, Par, Group, New, Component, Input, Output, Replicate}
use Rattle.reading.specs.declared.OwnFields.{OwnFields}
use Rattle.reading.specs.declared.Number.{Number}
use Rattle.reading.specs.declared.Place.{Place}
use Rattle.reading.specs.declared.Refusal.{Refusal}

-- A form round a system adds no component.
counted_map : (preceding : ℕ) (x : Read System) (f : System → System) → ((p : System) → components (f p) ≡ components p)
    → counted preceding (and_then x (λ p k. got (f p) k)) ≡ counted preceding x
unfolding counted and_then
counted_map preceding (got p k) f h = rw (h p)
counted_map preceding (refused q p) f h = refl

-- After a parallel form's left part a system ends as its right part does; `read` reads one level deeper.
module _ (read : ℕ → List ℕ → ℕ → ℕ → Read System) (process : ℕ → Read Process) (at names : ℕ) (path : List ℕ) (preceding next : ℕ) where
  after_par : (l : Result Number Refusal) (n : Number) → l ≡ Ok n → number l ≡ counted preceding (read names path preceding next)
      → counted preceding (system_from read process at names path preceding Par next) ≡ counted n.value (read names path n.value n.next)
  unfolding system_from counted and_then components
  after_par l n i h = go (read names path preceding next) (rw i at h)
    where
      join : (p : System) (x : Read System)
          → counted preceding (and_then x (λ r k. got (parₛ p r) k)) ≡ counted (preceding + components p) x
      join p (got r k) = rw add_assoc
      join p (refused a b) = refl

      go : (x : Read System) → got n.value n.next ≡ counted preceding x
          → counted preceding (and_then x (λ l m. and_then (read names path (preceding + components l) m) (λ r k. got (parₛ l r) k)))
          ≡ counted n.value (read names path n.value n.next)
      go (got p m) h =
          let v : n.value ≡ preceding + components p = cc in
          let w : n.next ≡ m = cc in
          rw (v, w) (join p (read names path (preceding + components p) m))
      go (refused a b) h = never (sym h)

  -- A parallel form whose left part is refused.
  after_left : (l : Result Number Refusal) (q : Refusal) → l ≡ Err q → number l ≡ counted preceding (read names path preceding next)
      → counted preceding (system_from read process at names path preceding Par next) ≡ number l
  unfolding system_from counted and_then
  after_left l q i h = rw i (go (read names path preceding next) (rw i at h))
    where
      go : (x : Read System) → refused (number_of q.question) q.at ≡ counted preceding x
          → counted preceding (and_then x (λ l m. and_then (read names path (preceding + components l) m) (λ r k. got (parₛ l r) k)))
          ≡ refused (number_of q.question) q.at
      go (got p n) h = never h
      go (refused a b) h = sym h

-- A component's process, read or not.
pub component_ends : (preceding : ℕ) (own : OwnFields) (x : Read Process) (e : Result ℕ Refusal) (m : ℕ) → e ≡ Ok m → ending e ≡ ended x
    → got (preceding + 1) m ≡ counted preceding (component own x)
unfolding component counted and_then ended components
component_ends preceding own (got p k) e m i h = let z : m ≡ k = cc in rw z
component_ends preceding own (refused a b) e m i h = never (sym (rw i at h))

pub component_stops : (preceding : ℕ) (own : OwnFields) (x : Read Process) (e : Result ℕ Refusal) (w : Refusal) → e ≡ Err w → ending e ≡ ended x
    → refused (number_of w.question) w.at ≡ counted preceding (component own x)
unfolding component counted and_then ended
component_stops preceding own (got p k) e w i h = never (rw i at h)
component_stops preceding own (refused a b) e w i h =
    let k = rw i at h in
    let v : number_of w.question ≡ a = cc in
    let u : w.at ≡ b = cc in
    rw (v, u)

pub ruleset component_steps = (rules, component_ends, component_stops)

-- The loop over a system's forms: what is left of the system, from the place reached on.
pub record SystemLeft (d : Dialect) (s : List ℕ) (from levels bound : ℕ) (above : List ℕ) (preceding at nest names : ℕ) (path : List ℕ) (so_far : ℕ) : Type 0 where
  pub same : counted preceding (read_system_in d levels s bound above preceding from) ≡ counted so_far (read_system_in d nest s names path so_far at)
  pub low : nest ≤ levels

pub system_whole : (d : Dialect) (s : List ℕ) (at nest names : ℕ) (path : List ℕ) (so_far : ℕ)
    → SystemLeft d s at nest names path so_far at nest names path so_far
system_whole d s at nest names path so_far = record { same = refl; low = omega arith }

-- What the code knows of the form at the place reached.
module _ (d : Dialect) (s : List ℕ) (from levels bound : ℕ) (above : List ℕ) (preceding at nest names : ℕ) (path : List ℕ) (so_far : ℕ)
    (l : SystemLeft d s from levels bound above preceding at nest names path so_far) (r : Result Place Refusal)
    (e : form r ≡ system_at_in d s at nest names path so_far) where
  abbrev told : Read ℕ
  told = counted preceding (read_system_in d levels s bound above preceding from)

  abbrev deeper : ℕ → List ℕ → ℕ → ℕ → Read System
  deeper n p k m = read_system_in d (nest - 1) s n p k m

  abbrev inside : ℕ → Read Process
  inside m = read_process_in d (nest - 1) s names m

  abbrev after : Form → ℕ → Read ℕ
  after g next = counted so_far (system_from deeper inside at names path so_far g next)

  pub system_refused : (w : Refusal) → r ≡ Err w → refused (number_of w.question) w.at ≡ told
  unfolding counted
  system_refused w f = rw (l.same, system_stop d nest s names path so_far at {q = number_of w.question} {p = w.at} (rw f at (sym e)))

  module _ (p : Place) (f : r ≡ Ok p) where
    found : system_at_in d s at nest names path so_far ≡ got p.form p.next
    found = rw f at (sym e)

    pub system_deeper : 1 ≤ nest
    system_deeper = system_level nest names (length path) so_far p.form (system_room d s at nest names path so_far found)

    pub system_lessens : nest - 1 < nest
    system_lessens = omega (arith, system_deeper)

    pub system_falls : (t : ℕ) → levels ≡ t → nest - 1 < t
    system_falls t h = omega (arith, system_deeper, l.low)

    pub new_fits_lem : (t : ℕ) → p.form ≡ New t → Fits w64 (names + 1)
    unfolding FitsSystem
    new_fits_lem t h = let k = rw h at (system_room d s at nest names path so_far found) in record { fits = omega arith }

    pub another : (own : OwnFields) → p.form ≡ Component own → so_far < 32
    unfolding FitsSystem
    another own h = let k = rw h at (system_room d s at nest names path so_far found) in k.2

    begun : told ≡ after p.form p.next
    begun = rw (l.same, system_step d nest s names path so_far at found)

    ends : {y : Read ℕ} (g : Form) → p.form ≡ g → after g p.next ≡ y → y ≡ told
    ends g h k = sym (rw h at begun ∙ k)

    goes : (g : Form) (n : ℕ) (q : List ℕ) (i m : ℕ) → p.form ≡ g → after g p.next ≡ counted i (deeper n q i m)
        → SystemLeft d s from levels bound above preceding m (nest - 1) n q i
    goes g n q i m h k = record { same = rw h at begun ∙ k; low = omega (arith, l.low) }

    pub at_nil : p.form ≡ Nil → got so_far p.next ≡ told
    unfolding system_from counted components
    at_nil h = ends Nil h (rw add-zero)

    pub at_input : (a : Act) → p.form ≡ Input a → refused 4 at ≡ told
    unfolding system_from counted
    at_input a h = ends (Input a) h refl

    pub at_output : (a : Act) → p.form ≡ Output a → refused 4 at ≡ told
    unfolding system_from counted
    at_output a h = ends (Output a) h refl

    pub at_replicate : p.form ≡ Replicate → refused 4 at ≡ told
    unfolding system_from counted
    at_replicate h = ends Replicate h refl

    -- where one arm of the code stands for all three
    pub at_no_system : ((a : Act) × (p.form ≡ Input a)) ⊎ (((a : Act) × (p.form ≡ Output a)) ⊎ (p.form ≡ Replicate)) → refused 4 at ≡ told
    at_no_system (inl (a, h)) = at_input a h
    at_no_system (inr (inl (a, h))) = at_output a h
    at_no_system (inr (inr h)) = at_replicate h

    pub at_component : (own : OwnFields) (t : Result Number Refusal) → p.form ≡ Component own
        → ((o : OwnFields) → number t ≡ counted so_far (component o (read_process_in d (nest - 1) s names p.next)))
        → number t ≡ told
    unfolding system_from
    at_component own t h k = ends (Component own) h (sym (k own))

    pub at_new : (t : ℕ) → p.form ≡ New t → SystemLeft d s from levels bound above preceding p.next (nest - 1) (names + 1) path so_far
    unfolding system_from components
    at_new t h =
        goes (New t) (names + 1) path so_far p.next h
        (counted_map so_far (deeper (names + 1) path so_far p.next) (λ q. newₛ t q) (λ q. refl))

    pub at_group : (g : ℕ) (q : List ℕ) → p.form ≡ Group g → (ltb (length path) 8 ≡ true → g < 65536 → q ≡ path ++ (g ∷ []))
        → SystemLeft d s from levels bound above preceding p.next (nest - 1) names q so_far
    unfolding system_from components FitsSystem GroupNew
    at_group g q h i =
        let k = rw h at (system_room d s at nest names path so_far found) in
        let n = rw h at (system_group d s at nest names path so_far found) in
        let z = i (lt-ltb (length path) 8 k.1) (omega (arith, n.small)) in
        goes (Group g) names q so_far p.next h
        (rw (← z) (counted_map so_far (deeper names q so_far p.next) (λ q. groupₛ g q) (λ q. refl)))

    module _ (t : Result Number Refusal) (k : number t ≡ counted so_far (read_system_in d (nest - 1) s names path so_far p.next)) where
      pub at_par : (n : Number) → p.form ≡ Par → t ≡ Ok n
          → SystemLeft d s from levels bound above preceding n.next (nest - 1) names path n.value
      at_par n h i = goes Par names path n.value n.next h (after_par deeper inside at names path so_far p.next t n i k)

      pub at_par_left : (q : Refusal) → p.form ≡ Par → t ≡ Err q
          → number t ≡ told
      at_par_left q h i = ends Par h (after_left deeper inside at names path so_far p.next t q i k)

pub ruleset system_steps = (
  rules,
  system_whole,
  system_refused,
  system_deeper,
  system_lessens,
  system_falls,
  new_fits_lem,
  another,
  at_nil,
  at_no_system,
  at_component,
  at_par_left,
)
