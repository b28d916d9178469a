-- What a form that was read tells of the limits: there was room for it, its group is new to the path, a purpose is in its range, and a
-- process has only the forms of processes.
use Prim.Native.Nat.{ℕ, ◌<◌}
use mathlib.Core.Bool.{Bool, true, false, cond, ◌&&◌}
use mathlib.Core.List.{List}
use mathlib.Core.Path.{◌≡◌, refl}
use native.Mathlib.Omega.{arith}
use borrow.Author.Tests.{ltb-true}
use lib.Dec.{ltb, eqb}
use lib.ListN.{length}
use Rattle.reading.proofs.TypeLaws.{groups_64}
use Rattle.reading.proofs.Parts.{Every, of_found, every_then, every_cond, every_limited, below_found}
use Rattle.reading.specs.Dialects.{old, current, groups_in, purposes_in}
use Rattle.reading.specs.Read.{got, refused, byte_at, below}
use Rattle.reading.specs.Types.{type_at_in}
use Rattle.reading.specs.Forms.{member, new_form_in, input_form_in, output_form, fresh_group_in, group_form_in, purpose_in, component_form_in, process_form_in, process_at_in, system_form_in, system_at_in}
use Rattle.reading.specs.declared.Dialect.{Dialect}
use Rattle.reading.specs.declared.Form.{Form}
use Rattle.reading.specs.declared.Form.TheVariants.{Nil, Par, Group, New, Component, Input, Output, Replicate}

pub both_true : (a b : Bool) → (a && b) ≡ true → (a ≡ true) × (b ≡ true)
both_true true b e = (refl, e)
both_true false b e = let z : ◌≡◌ {A = ℕ} 0 1 = cc in absurd (omega arith)

-- In a process, where `nest` more forms may be nested and `names` names are in scope.
unfoldable pub FitsProcess : ℕ → ℕ → Form → Type 0
FitsProcess nest names Nil = 0 < nest
FitsProcess nest names Par = 0 < nest
FitsProcess nest names (Group g) = ⊥
FitsProcess nest names (New t) = (0 < nest) × (names < 64)
FitsProcess nest names (Component own) = ⊥
FitsProcess nest names (Input a) = (0 < nest) × (names < 64)
FitsProcess nest names (Output a) = 0 < nest
FitsProcess nest names Replicate = 0 < nest

-- In a system, with `long` groups in the path and `preceding` components before.
unfoldable pub FitsSystem : ℕ → ℕ → ℕ → ℕ → Form → Type 0
FitsSystem nest names long preceding Nil = 0 < nest
FitsSystem nest names long preceding Par = 0 < nest
FitsSystem nest names long preceding (Group g) = (0 < nest) × (long < 8)
FitsSystem nest names long preceding (New t) = (0 < nest) × (names < 64)
FitsSystem nest names long preceding (Component own) = (0 < nest) × (long < 8) × (preceding < 32)
FitsSystem nest names long preceding (Input a) = ⊥
FitsSystem nest names long preceding (Output a) = ⊥
FitsSystem nest names long preceding Replicate = ⊥

both_below : (a b c d : ℕ) → (ltb a b && ltb c d) ≡ true → (a < b) × (c < d)
both_below a b c d e = let h = both_true (ltb a b) (ltb c d) e in (ltb-true a b h.0, ltb-true c d h.1)

module _ (d : Dialect) (s : List ℕ) (at nest names : ℕ) where
  process_every : Every (FitsProcess nest names) (process_at_in d s at nest names)
  unfolding Every FitsProcess process_at_in process_form_in new_form_in input_form_in output_form
  process_every = every_then P (byte_at s at) _ (λ code next _.
      every_cond P (eqb code 0) _ _ (every_limited P _ at _ (λ e. ltb-true 0 nest e))
      (every_cond P (eqb code 1) _ _ (every_limited P _ at _ (λ e. ltb-true 0 nest e))
      (every_cond P (eqb code 3) _ _ (every_limited P _ at _ (λ e. every_then P (type_at_in d s next) _ (λ t m _. both_below 0 nest names 64 e)))
      (every_cond P (eqb code 5) _ _ (every_limited P _ at _ (λ e. every_then P (byte_at s next) _ (λ x m _. every_then P (type_at_in d s m) _ (λ t k _. both_below 0 nest names 64 e))))
      (every_cond P (eqb code 6) _ _ (every_limited P _ at _ (λ e. every_then P (byte_at s next) _ (λ x m _. every_then P (byte_at s m) _ (λ t k _. ltb-true 0 nest e))))
      (every_cond P (eqb code 7) _ _ (every_limited P _ at _ (λ e. ltb-true 0 nest e)) tt))))))
    where
      P : Form → Type 0
      P = FitsProcess nest names

  -- Nothing is read as a form of a process for which there is no room.
  pub process_room : {f : Form} {next : ℕ} → process_at_in d s at nest names ≡ got f next → FitsProcess nest names f
  process_room e = of_found (FitsProcess nest names) (process_at_in d s at nest names) process_every e

-- A purpose that was read is one of sixteen.
pub purpose_small : (d : Dialect) (s : List ℕ) (at : ℕ) {p k : ℕ} → purpose_in d s at ≡ got p k → p < 16
unfolding purpose_in purposes_in
purpose_small old s at {p} e = let z : 0 ≡ p = cc in omega arith
purpose_small current s at e = below_found 16 s at e

module _ (d : Dialect) (s : List ℕ) (at nest names : ℕ) (path : List ℕ) (preceding : ℕ) where
  fits : Form → Type 0
  fits = FitsSystem nest names (length path) preceding

  group_every : (next : ℕ) → (0 < nest) × (length path < 8) → Every fits (group_form_in d s next path)
  unfolding fits Every FitsSystem group_form_in
  group_every next h = every_then fits (fresh_group_in d s next path) _ (λ g m _. h)

  component_every : (next : ℕ) → (0 < nest) × (length path < 8) × (preceding < 32) → Every fits (component_form_in d s next path)
  unfolding fits Every FitsSystem component_form_in
  component_every next h = every_then fits (fresh_group_in d s next path) _ (λ g m _. every_then fits (purpose_in d s m) _ (λ p k _. h))

  new_every : (next : ℕ) → (0 < nest) × (names < 64) → Every fits (new_form_in d s next)
  unfolding fits Every FitsSystem new_form_in
  new_every next h = every_then fits (type_at_in d s next) _ (λ t m _. h)

  all_three : ((ltb 0 nest && ltb (length path) 8) && ltb preceding 32) ≡ true → (0 < nest) × (length path < 8) × (preceding < 32)
  all_three e =
      let h = both_true (ltb 0 nest && ltb (length path) 8) (ltb preceding 32) e in
      let g = both_below 0 nest (length path) 8 h.0 in
      (g.0, g.1, ltb-true preceding 32 h.1)

  system_every : Every fits (system_at_in d s at nest names path preceding)
  unfolding fits Every FitsSystem system_at_in system_form_in
  system_every = every_then fits (byte_at s at) _ (λ code next _.
      every_cond fits (eqb code 0) _ _ (every_limited fits _ at _ (λ e. ltb-true 0 nest e))
      (every_cond fits (eqb code 1) _ _ (every_limited fits _ at _ (λ e. ltb-true 0 nest e))
      (every_cond fits (eqb code 2) _ _ (every_limited fits _ at _ (λ e. group_every next (both_below 0 nest (length path) 8 e)))
      (every_cond fits (eqb code 3) _ _ (every_limited fits _ at _ (λ e. new_every next (both_below 0 nest names 64 e)))
      (every_cond fits (eqb code 4) _ _ (every_limited fits _ at _ (λ e. component_every next (all_three e))) tt)))))

  pub system_room : {f : Form} {next : ℕ} → system_at_in d s at nest names path preceding ≡ got f next
      → FitsSystem nest names (length path) preceding f
  unfolding fits
  system_room e = of_found fits (system_at_in d s at nest names path preceding) system_every e

-- A group that a form names is below 64 and new to the path (question 6), and a component's purpose is below 16.
pub record NewTo (path : List ℕ) (g : ℕ) : Type 0 where
  pub small : g < 64
  pub fresh : member g path ≡ false

unfoldable pub GroupNew : List ℕ → Form → Type 0
GroupNew path Nil = Unit {0}
GroupNew path Par = Unit {0}
GroupNew path (Group g) = NewTo path g
GroupNew path (New t) = Unit {0}
GroupNew path (Component own) = NewTo path own.group × (own.purpose < 16)
GroupNew path (Input a) = Unit {0}
GroupNew path (Output a) = Unit {0}
GroupNew path Replicate = Unit {0}

fresh_new : (d : Dialect) (s : List ℕ) (at : ℕ) (path : List ℕ) → Every (NewTo path) (fresh_group_in d s at path)
unfolding Every fresh_group_in
fresh_new d s at path = every_then (NewTo path) (below (groups_in d) s at) _ (λ g next e.
    go g next (omega (arith, groups_64 d, below_found (groups_in d) s at e)) (member g path) refl)
  where
    go : (g next : ℕ) → g < 64 → (b : Bool) → member g path ≡ b → Every (NewTo path) (cond b (refused 6 at) (got g next))
    go g next l true e = tt
    go g next l false e = record { small = l; fresh = e }

module _ (d : Dialect) (s : List ℕ) (at nest names : ℕ) (path : List ℕ) (preceding : ℕ) where
  group_new_every : Every (GroupNew path) (system_at_in d s at nest names path preceding)
  unfolding Every GroupNew system_at_in system_form_in group_form_in component_form_in new_form_in
  group_new_every = every_then P (byte_at s at) _ (λ code next _.
      every_cond P (eqb code 0) _ _ (every_limited P _ at _ (λ e. tt))
      (every_cond P (eqb code 1) _ _ (every_limited P _ at _ (λ e. tt))
      (every_cond P (eqb code 2) _ _ (every_limited P _ at _ (λ e. every_then P (fresh_group_in d s next path) _ (λ g m h. of_found _ (fresh_group_in d s next path) (fresh_new d s next path) h)))
      (every_cond P (eqb code 3) _ _ (every_limited P _ at _ (λ e. every_then P (type_at_in d s next) _ (λ t m h. tt)))
      (every_cond P (eqb code 4) _ _ (every_limited P _ at _ (λ e. every_then P (fresh_group_in d s next path) _ (λ g m h.
      every_then P (purpose_in d s m) _ (λ p k i. (of_found _ (fresh_group_in d s next path) (fresh_new d s next path) h, purpose_small d s m i))))) tt)))))
    where
      P : Form → Type 0
      P = GroupNew path

  pub system_group : {f : Form} {next : ℕ} → system_at_in d s at nest names path preceding ≡ got f next → GroupNew path f
  system_group e = of_found (GroupNew path) (system_at_in d s at nest names path preceding) group_new_every e

pub process_level : (nest names : ℕ) (f : Form) → FitsProcess nest names f → 0 < nest
unfolding FitsProcess
process_level nest names Nil h = h
process_level nest names Par h = h
process_level nest names (Group g) h = absurd h
process_level nest names (New t) h = h.0
process_level nest names (Component own) h = absurd h
process_level nest names (Input a) h = h.0
process_level nest names (Output a) h = h
process_level nest names Replicate h = h

pub system_level : (nest names long preceding : ℕ) (f : Form) → FitsSystem nest names long preceding f → 0 < nest
unfolding FitsSystem
system_level nest names long preceding Nil h = h
system_level nest names long preceding Par h = h
system_level nest names long preceding (Group g) h = h.0
system_level nest names long preceding (New t) h = h.0
system_level nest names long preceding (Component own) h = h.0
system_level nest names long preceding (Input a) h = absurd h
system_level nest names long preceding (Output a) h = absurd h
system_level nest names long preceding Replicate h = absurd h
