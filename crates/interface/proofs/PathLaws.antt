-- Acts that pass question 10 disclose into the groups of their component's path alone.
use Prim.Native.Nat.{ℕ}
use mathlib.Core.Path.{◌≡◌, refl, sym, ap, ◌∙◌}
use mathlib.Core.List.{List, [], ◌∷◌, ◌++◌}
use mathlib.Core.Bool.{Bool, true, false, cond, ◌&&◌}
use mathlib.Core.Option.{Option, some}
use native.Mathlib.Omega.{arith}
use native.Mathlib.Decide.{ℕ_discrete}
use lib.Dec.{eqb}
use borrow.Author.Tests.{ne_eqb}
use Rattle.reading.specs.Forms.{member}
use Rattle.reading.specs.Syntax.{Process, nil, par, new, input, output, repl}
use Rattle.reading.proofs.TotalLaws.{both_left, both_right}
use Rattle.needs.specs.declared.Need.{Need}
use Rattle.needs.specs.declared.Need.TheVariants.{Nothing, Read, Write, Access, Disclose}
use Rattle.inference.specs.Acts.{Act, Component, Located, type_of, acts, acts_of}
use Rattle.inference.specs.Counts.{fin, repeatedly}
use Rattle.inference.specs.Lists.{every}
use Rattle.inference.specs.Needs.{need_of, disclosures, weigh, total, disclosed}
use Rattle.inference.specs.Typing.{in_scope, on_channel, carries_object, in_path}
use Rattle.inference.specs.Walks.{worst}
use Rattle.inference.proofs.ActLaws.{total_append}
use Rattle.inference.proofs.CountLaws.{nothing_join}
use Rattle.inference.proofs.EveryLaws.{every_parts}
use Rattle.inference.proofs.FaultLaws.{first_no, worst_tests}
use Rattle.inference.proofs.NeedLaws.{disclosed_in_path}

-- Acts that disclose into the groups of a path alone.
unfoldable pub Inside : List ℕ → List Act → Type 0
Inside path acts = (k g : ℕ) → member g path ≡ false → disclosed k g acts ≡ fin 0

act_inside : (a : Act) (k g : ℕ) → in_path a ≡ true → member g a.component.path ≡ false → disclosures k g (need_of a) ≡ 0
unfolding disclosures
act_inside a k g e m = go (need_of a) refl
  where
    off : (b : Bool) → ◌≡◌ {A = ℕ} (cond (b && false) 1 0) 0
    off true = refl
    off false = refl

    other : (t h : ℕ) → member h a.component.path ≡ true → Dec (h ≡ g) → ◌≡◌ {A = ℕ} (cond (eqb t k && eqb h g) 1 0) 0
    other t h i (yes q) =
        let z : true ≡ false = sym i ∙ ap (λ (x : ℕ). member x a.component.path) q ∙ m in
        let y : ◌≡◌ {A = ℕ} 0 1 = cc in absurd (omega arith)
    other t h i (no q) = rw (ne_eqb h g q) (off (eqb t k))

    go : (n : Need) → need_of a ≡ n → disclosures k g n ≡ 0
    go Nothing f = refl
    go (Read t) f = refl
    go (Write t) f = refl
    go (Access t) f = refl
    go (Disclose t h) f = other t h (disclosed_in_path a t h f e) (ℕ_discrete h g)

pub weighs_nothing : (b : Bool) → weigh b 0 ≡ fin 0
unfolding weigh repeatedly
weighs_nothing true = refl
weighs_nothing false = refl

module _ (c : Component) (k g : ℕ) (m : member g c.path ≡ false) where
  act_first : (a : Act) (rest : List Act) → a.component ≡ c → every in_path (a ∷ rest) ≡ true
      → (every in_path rest ≡ true → disclosed k g rest ≡ fin 0) → disclosed k g (a ∷ rest) ≡ fin 0
  unfolding every disclosed total
  act_first a rest own e later =
      rw (
        act_inside a k g (both_left (in_path a) (every in_path rest) e) (ap (λ (x : Component). member g x.path) own ∙ m),
        weighs_nothing a.repeated,
        later (both_right (in_path a) (every in_path rest) e),
      )
      (nothing_join (fin 0))

  joined : (xs ys : List Act) → disclosed k g xs ≡ fin 0 → disclosed k g ys ≡ fin 0 → disclosed k g (xs ++ ys) ≡ fin 0
  unfolding disclosed
  joined xs ys a b = total_append (λ x. disclosures k g (need_of x)) xs ys ∙ rw (a, b) (nothing_join (fin 0))

  process_inside : (r : Bool) (scope : List (Option ℕ)) (p : Process) → every in_path (acts c r scope p) ≡ true → disclosed k g (acts c r scope p) ≡ fin 0
  unfolding acts
  process_inside r scope nil e = unfold disclosed total in refl
  process_inside r scope (par p q) e =
      let both = every_parts in_path (acts c r scope p) (acts c r scope q) e in
      let left = process_inside r scope p both.0 in
      let right = process_inside r scope q both.1 in
      joined (acts c r scope p) (acts c r scope q) left right
  process_inside r scope (new t p) e = process_inside r (scope ++ (some t ∷ [])) p e
  process_inside r scope (input x t p) e =
      act_first (record { component = c; repeated = r; sends = false; channel = type_of scope x; object = some t }) (acts c r (scope ++ (some t ∷ [])) p) refl e
      (λ h. process_inside r (scope ++ (some t ∷ [])) p h)
  process_inside r scope (output x y p) e =
      act_first (record { component = c; repeated = r; sends = true; channel = type_of scope x; object = type_of scope y }) (acts c r scope p) refl e
      (λ h. process_inside r scope p h)
  process_inside r scope (repl p) e = process_inside true scope p e

last_yes : (a b c d : Bool) → first_no a b c d ≡ 11 → d ≡ true
unfolding first_no
last_yes false b c d e = absurd (omega arith)
last_yes true false c d e = absurd (omega arith)
last_yes true true false d e = absurd (omega arith)
last_yes true true true false e = absurd (omega arith)
last_yes true true true true e = refl

-- The acts of a component that pass questions 7 to 10.
pub component_inside : (l : Located) → worst (acts_of l) ≡ 11 → Inside l.component.path (acts_of l)
unfolding Inside acts_of
component_inside l e k g m =
    process_inside l.component k g m false l.scope l.process
    (last_yes (every in_scope own) (every on_channel own) (every carries_object own) (every in_path own) (sym (worst_tests own) ∙ e))
  where
    own : List Act
    own = acts l.component false l.scope l.process
