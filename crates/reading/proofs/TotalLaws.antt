-- The tree at a place: how it grows from the form that stands there, and that it is the tree that the reader reads, where it
-- reads one. By cases over the form.
use Prim.Native.Nat.{ℕ, zero, suc, ◌+◌, ◌-◌, ◌<◌}
use mathlib.Core.Bool.{Bool, true, ◌&&◌}
use mathlib.Core.List.{List, [], ◌∷◌, ◌++◌}
use mathlib.Core.Path.{◌≡◌, refl}
use native.Mathlib.Numerals.{sub-one}
use native.Mathlib.Omega.{arith}
use borrow.Author.Tests.{lt-ltb}
use lib.Dec.{ltb}
use lib.ListN.{length}
use Rattle.reading.proofs.FormLaws.{both_true, FitsProcess, FitsSystem, process_room, process_level, system_room, system_level}
use Rattle.reading.proofs.Parts.{parts, never}
use Rattle.reading.specs.Read.{Read, got, refused, and_then}
use Rattle.reading.specs.Syntax.{Process, nil, par, new, input, output, repl, System, nilₛ, parₛ, groupₛ, newₛ, compₛ, components}
use Rattle.reading.specs.Dialects.{current}
use Rattle.reading.specs.Forms.{process_at, system_at}
use Rattle.reading.specs.System.{process_from, read_process_in, read_process, component, system_from, read_system_in, read_system}
use Rattle.reading.specs.Total.{Grown, under, beside, or_nothing, process_grown, process_tree, system_grown, system_tree}
use Rattle.reading.specs.declared.Form.{Form}
use Rattle.reading.specs.declared.Form.TheVariants.{Nil, Par, Group, New, Component, Input, Output, Replicate}
use Rattle.reading.specs.declared.OwnFields.{OwnFields}

-- What a form that was found tells of the limits (FormLaws), as the walks use it.
pub both_left : (a b : Bool) → (a && b) ≡ true → a ≡ true
both_left a b e = (both_true a b e).0

pub both_right : (a b : Bool) → (a && b) ≡ true → b ≡ true
both_right a b e = (both_true a b e).1

module _ (s : List ℕ) (at n names : ℕ) where
  pub process_nest : {f : Form} {k : ℕ} → process_at s at n names ≡ got f k → 0 < n
  process_nest {f} e = process_level n names f (process_room current s at n names e)

  pub new_names : {t k : ℕ} → process_at s at n names ≡ got (New t) k → names < 64
  unfolding FitsProcess
  new_names e = (process_room current s at n names e).1

  pub input_names : {a : _} {k : ℕ} → process_at s at n names ≡ got (Input a) k → names < 64
  unfolding FitsProcess
  input_names e = (process_room current s at n names e).1

module _ (s : List ℕ) (at n names : ℕ) (path : List ℕ) (preceding : ℕ) where
  pub system_nest : {f : Form} {k : ℕ} → system_at s at n names path preceding ≡ got f k → 0 < n
  system_nest {f} e = system_level n names (length path) preceding f (system_room current s at n names path preceding e)

  pub system_names : {t k : ℕ} → system_at s at n names path preceding ≡ got (New t) k → names < 64
  unfolding FitsSystem
  system_names e = (system_room current s at n names path preceding e).1

  pub group_room : {g k : ℕ} → system_at s at n names path preceding ≡ got (Group g) k → ltb (length path) 8 ≡ true
  unfolding FitsSystem
  group_room e = lt-ltb (length path) 8 (system_room current s at n names path preceding e).1

  pub component_room : {own : OwnFields} {k : ℕ} → system_at s at n names path preceding ≡ got (Component own) k → ltb (length path) 8 ≡ true
  unfolding FitsSystem
  component_room e = lt-ltb (length path) 8 (system_room current s at n names path preceding e).1

  pub component_number : {own : OwnFields} {k : ℕ} → system_at s at n names path preceding ≡ got (Component own) k → preceding < 32
  unfolding FitsSystem
  component_number e = (system_room current s at n names path preceding e).2

-- One step down the tree.
pub process_step : (n : ℕ) (s : List ℕ) (names at : ℕ) (f : Form) (k : ℕ) → process_at s at n names ≡ got f k
    → process_tree n s names at ≡ process_grown (λ ns m. process_tree (n - 1) s ns m) at names f k
unfolding process_tree or_nothing
process_step zero s names at f k e = absurd (omega (arith, process_nest s at 0 names e))
process_step (suc n) s names at f k e = rw (e, sub-one (suc n))

pub process_stop : (n : ℕ) (s : List ℕ) (names at q p : ℕ) → process_at s at n names ≡ refused q p
    → process_tree n s names at ≡ record { tree = nil; next = at }
unfolding process_tree or_nothing
process_stop zero s names at q p e = refl
process_stop (suc n) s names at q p e = rw e

pub system_step : (n : ℕ) (s : List ℕ) (names : ℕ) (path : List ℕ) (preceding at : ℕ) (f : Form) (k : ℕ)
    → system_at s at n names path preceding ≡ got f k → system_tree n s names path preceding at
    ≡ system_grown (λ ns p j m. system_tree (n - 1) s ns p j m) (λ m. process_tree (n - 1) s names m) at names path preceding f k
unfolding system_tree or_nothing
system_step zero s names path preceding at f k e = absurd (omega (arith, system_nest s at 0 names path preceding e))
system_step (suc n) s names path preceding at f k e = rw (e, sub-one (suc n))

pub system_stop : (n : ℕ) (s : List ℕ) (names : ℕ) (path : List ℕ) (preceding at q p : ℕ) → system_at s at n names path preceding ≡ refused q p
    → system_tree n s names path preceding at ≡ record { tree = nilₛ; next = at }
unfolding system_tree or_nothing
system_stop zero s names path preceding at q p e = refl
system_stop (suc n) s names path preceding at q p e = rw e

-- Where the reader reads a tree, it is the tree at that place: by induction on the nesting, then by cases over the form.
abbrev Same : {A : Type 0} → Read A → Grown A → Type 0
Same {A} r t = (a : A) (k : ℕ) → r ≡ got a k → t ≡ record { tree = a; next = k }

under_same : {A B : Type 0} (g : A → B) (r : Read A) (t : Grown A) → Same r t → Same (and_then r (λ a k. got (g a) k)) (under g t)
unfolding under
under_same g r t h b k e =
    let p = parts r (λ a k. got (g a) k) e in
    let q = h p.value p.place p.first in
    let u : g p.value ≡ b = cc in
    let v : p.place ≡ k = cc in
    rw (q, u, v)

beside_same : {A : Type 0} (g : A → A → A) (r : Read A) (t : Grown A) (rest : A → ℕ → Read A) (right : A → ℕ → Grown A)
    → Same r t → ((a : A) (m : ℕ) → Same (rest a m) (right a m))
    → Same (and_then r (λ a m. and_then (rest a m) (λ b k. got (g a b) k))) (beside g t right)
unfolding beside
beside_same g r t rest right h i b k e =
    let p = parts r (λ a m. and_then (rest a m) (λ b k. got (g a b) k)) e in
    let q = h p.value p.place p.first in
    rw q (under_same (g p.value) (rest p.value p.place) (right p.value p.place) (i p.value p.place) b k p.rest)

process_same : (read : ℕ → ℕ → Read Process) (grow : ℕ → ℕ → Grown Process) (at names : ℕ) (f : Form) (next : ℕ)
    → ((ns m : ℕ) → Same (read ns m) (grow ns m)) → Same (process_from read at names f next) (process_grown grow at names f next)
unfolding process_from process_grown
process_same read grow at names Nil next h = λ p k e. let u : nil ≡ p = cc in let v : next ≡ k = cc in rw (u, v)
process_same read grow at names Par next h =
    beside_same par (read names next) (grow names next) (λ p m. read names m) (λ p m. grow names m) (h names next) (λ p m. h names m)
process_same read grow at names (New t) next h = under_same (new t) (read (names + 1) next) (grow (names + 1) next) (h (names + 1) next)
process_same read grow at names (Input a) next h =
    under_same (input a.channel a.object) (read (names + 1) next) (grow (names + 1) next) (h (names + 1) next)
process_same read grow at names (Output a) next h =
    under_same (output a.channel a.object) (read names next) (grow names next) (h names next)
process_same read grow at names Replicate next h = under_same repl (read names next) (grow names next) (h names next)
process_same read grow at names (Group g) next h = λ p k e. never e
process_same read grow at names (Component own) next h = λ p k e. never e

pub process_total : (n : ℕ) (s : List ℕ) (names at : ℕ) (p : Process) (k : ℕ) → read_process n s names at ≡ got p k
    → process_tree n s names at ≡ record { tree = p; next = k }
unfolding read_process_in process_tree or_nothing
process_total zero s names at p k e = never (parts (process_at s at 0 names) (λ form next. refused 5 at) e).rest
process_total (suc n) s names at p k e =
    let h = parts (process_at s at (suc n) names) (λ form next. process_from (λ ns m. read_process n s ns m) at names form next) e in
    rw h.first
    (process_same (λ ns m. read_process n s ns m) (λ ns m. process_tree n s ns m) at names h.value h.place (λ ns m. process_total n s ns m) p k h.rest)

system_same : (read : ℕ → List ℕ → ℕ → ℕ → Read System) (grow : ℕ → List ℕ → ℕ → ℕ → Grown System)
    (process : ℕ → Read Process) (grown : ℕ → Grown Process) (at names : ℕ) (path : List ℕ) (preceding : ℕ) (f : Form) (next : ℕ)
    → ((ns : ℕ) (p : List ℕ) (j m : ℕ) → Same (read ns p j m) (grow ns p j m)) → ((m : ℕ) → Same (process m) (grown m))
    → Same (system_from read process at names path preceding f next) (system_grown grow grown at names path preceding f next)
unfolding system_from component system_grown
system_same read grow process grown at names path preceding Nil next h i = λ p k e. let u : nilₛ ≡ p = cc in let v : next ≡ k = cc in rw (u, v)
system_same read grow process grown at names path preceding Par next h i =
    beside_same parₛ (read names path preceding next) (grow names path preceding next) (λ l m. read names path (preceding + components l) m)
    (λ l m. grow names path (preceding + components l) m) (h names path preceding next) (λ l m. h names path (preceding + components l) m)
system_same read grow process grown at names path preceding (Group g) next h i =
    under_same (groupₛ g) (read names (path ++ (g ∷ [])) preceding next) (grow names (path ++ (g ∷ [])) preceding next) (h names (path ++ (g ∷ [])) preceding next)
system_same read grow process grown at names path preceding (New t) next h i =
    under_same (newₛ t) (read (names + 1) path preceding next) (grow (names + 1) path preceding next) (h (names + 1) path preceding next)
system_same read grow process grown at names path preceding (Component own) next h i = under_same (compₛ own) (process next) (grown next) (i next)
system_same read grow process grown at names path preceding (Input a) next h i = λ p k e. never e
system_same read grow process grown at names path preceding (Output a) next h i = λ p k e. never e
system_same read grow process grown at names path preceding Replicate next h i = λ p k e. never e

pub system_total : (n : ℕ) (s : List ℕ) (names : ℕ) (path : List ℕ) (preceding at : ℕ) (p : System) (k : ℕ)
    → read_system n s names path preceding at ≡ got p k → system_tree n s names path preceding at ≡ record { tree = p; next = k }
unfolding read_system_in system_tree or_nothing
system_total zero s names path preceding at p k e = never (parts (system_at s at 0 names path preceding) (λ form next. refused 5 at) e).rest
system_total (suc n) s names path preceding at p k e =
    let h = parts (system_at s at (suc n) names path preceding) (λ form next.
    system_from (λ ns p j m. read_system n s ns p j m) (λ m. read_process n s names m) at names path preceding form next) e in
    rw h.first
    (system_same (λ ns p j m. read_system n s ns p j m) (λ ns p j m. system_tree n s ns p j m) (λ m. read_process n s names m) (λ m. process_tree n s names m)
    at names path preceding h.value h.place (λ ns p j m. system_total n s ns p j m) (λ m. process_total n s names m) p k h.rest)
