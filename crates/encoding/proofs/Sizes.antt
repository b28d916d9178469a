-- How the stored forms of a sheet differ: by a byte a component. And in the old dialect every purpose is 0.
use Prim.Native.Nat.{ℕ, zero, suc, ◌+◌}
use mathlib.Core.Bool.{true}
use mathlib.Core.List.{List, [], ◌∷◌, ◌++◌}
use mathlib.Core.Path.{◌≡◌, refl, ap, ap₂}
use native.Mathlib.Omega.{arith}
use borrow.Author.Tests.{eq-eqb}
use lib.Dec.{eqb}
use lib.ListN.{length, length-append}
use Rattle.reading.specs.Dialects.{purposes_in}
use Rattle.reading.specs.Read.{Read, and_then, byte_at}
use Rattle.reading.specs.Syntax.{Process, nil, par, new, input, output, repl, System, nilₛ, parₛ, groupₛ, newₛ, compₛ, Sheet, components}
use Rattle.reading.specs.Types.{type_at_in}
use Rattle.reading.specs.Forms.{new_form_in, fresh_group_in, group_form_in, purpose_in, component_form_in, system_form_in, system_at_in}
use Rattle.reading.specs.System.{component, system_from, read_process_in, read_system_in}
use Rattle.reading.specs.declared.Dialect.{Dialect}
use Rattle.reading.specs.declared.Dialect.TheVariants.{Old as old, Current as current}
use Rattle.reading.specs.declared.Form.{Form}
use Rattle.reading.specs.declared.Form.TheVariants.{Nil, Par, Group, New, Component, Input, Output, Replicate}
use Rattle.reading.proofs.TreeLaws.{SheetPartsIn}
use Rattle.reading.proofs.Parts.{Every, of_found, every_then, every_cond, every_limited}
use Rattle.inference.specs.Lists.{every}
use Rattle.inference.proofs.EveryLaws.{every_both}
use Rattle.encoding.specs.Encoding.{type_bytes, purpose_bytes, form_bytes, process_bytes, system_bytes, types_bytes, sheet_bytes, purposes, all_zero}
use Rattle.encoding.proofs.ReadBack.{purpose_of, Ordinary}

-- A process is stored alike in every dialect.
pub process_alike : (d e : Dialect) (p : Process) → process_bytes d p ≡ process_bytes e p
unfolding process_bytes form_bytes
process_alike d e nil = refl
process_alike d e (par p q) = ap₂ (λ (x y : List ℕ). 1 ∷ (x ++ y)) (process_alike d e p) (process_alike d e q)
process_alike d e (new t p) = ap (λ (x : List ℕ). 3 ∷ (type_bytes t ++ x)) (process_alike d e p)
process_alike d e (input x t p) = ap (λ (y : List ℕ). 5 ∷ x ∷ (type_bytes t ++ y)) (process_alike d e p)
process_alike d e (output x y p) = ap (λ (z : List ℕ). 6 ∷ x ∷ y ∷ z) (process_alike d e p)
process_alike d e (repl p) = ap (λ (x : List ℕ). 7 ∷ x) (process_alike d e p)

-- A system has a byte more for each component where purposes are stated.
system_longer : (p : System) → length (system_bytes current p) ≡ length (system_bytes old p) + components p
unfolding system_bytes form_bytes purpose_bytes purposes_in components
system_longer nilₛ = refl
system_longer (parₛ l r) =
    omega (arith, system_longer l, system_longer r, length-append (system_bytes current l) (system_bytes current r), length-append (system_bytes old l) (system_bytes old r))
system_longer (groupₛ g p) = omega (arith, system_longer p)
system_longer (newₛ t p) =
    omega (arith, system_longer p, length-append (type_bytes t) (system_bytes current p), length-append (type_bytes t) (system_bytes old p))
system_longer (compₛ own p) = omega (arith, ap length (process_alike current old p))

pub sheet_longer : (t : Sheet) → length (sheet_bytes current t) ≡ length (sheet_bytes old t) + components t.system
unfolding sheet_bytes
sheet_longer t =
    omega (arith, system_longer t.system, length-append (types_bytes t.free) (system_bytes current t.system), length-append (types_bytes t.free) (system_bytes old t.system))

-- In the old dialect no component has another purpose than 0: first of a form.
old_ordinary_every : (s : List ℕ) (at nest names : ℕ) (path : List ℕ) (preceding : ℕ) → Every Ordinary (system_at_in old s at nest names path preceding)
unfolding Every Ordinary purpose_of system_at_in system_form_in new_form_in group_form_in component_form_in purpose_in purposes_in and_then
old_ordinary_every s at nest names path preceding = every_then Ordinary (byte_at s at) _ (λ code next _.
    every_cond Ordinary (eqb code 0) _ _ (every_limited Ordinary _ at _ (λ _. refl))
    (every_cond Ordinary (eqb code 1) _ _ (every_limited Ordinary _ at _ (λ _. refl))
    (every_cond Ordinary (eqb code 2) _ _ (every_limited Ordinary _ at _ (λ _. every_then Ordinary (fresh_group_in old s next path) _ (λ g m _. refl)))
    (every_cond Ordinary (eqb code 3) _ _ (every_limited Ordinary _ at _ (λ _. every_then Ordinary (type_at_in old s next) _ (λ t m _. refl)))
    (every_cond Ordinary (eqb code 4) _ _ (every_limited Ordinary _ at _ (λ _. every_then Ordinary (fresh_group_in old s next path) _ (λ g m _. refl))) tt)))))

Zeros : System → Type 0
Zeros p = all_zero (purposes p) ≡ true

module _ (read : ℕ → List ℕ → ℕ → ℕ → Read System) (l : (names : ℕ) (path : List ℕ) (preceding at : ℕ) → Every Zeros (read names path preceding at))
    (process : ℕ → Read Process) (at names : ℕ) (path : List ℕ) (preceding : ℕ) where
  old_zeros_from : (f : Form) (next : ℕ) → Ordinary f → Every Zeros (system_from read process at names path preceding f next)
  unfolding Every Zeros Ordinary purpose_of system_from component purposes all_zero every
  old_zeros_from Nil next h = refl
  old_zeros_from Par next h = every_then Zeros (read names path preceding next) _ (λ p m e. every_then Zeros (read names path (preceding + components p) m) _ (λ q k f.
      every_both (λ x. eqb x 0) (purposes p) (purposes q) (of_found Zeros _ (l names path preceding next) e) (of_found Zeros _ (l names path (preceding + components p) m) f)))
  old_zeros_from (Group g) next h = every_then Zeros (read names (path ++ (g ∷ [])) preceding next) _ (λ p k e. of_found Zeros _ (l names (path ++ (g ∷ [])) preceding next) e)
  old_zeros_from (New t) next h = every_then Zeros (read (names + 1) path preceding next) _ (λ p k e. of_found Zeros _ (l (names + 1) path preceding next) e)
  old_zeros_from (Component own) next h = every_then Zeros (process next) _ (λ p k e. rw (eq-eqb own.purpose 0 h))
  old_zeros_from (Input a) next h = tt
  old_zeros_from (Output a) next h = tt
  old_zeros_from Replicate next h = tt

old_zeros_every : (n : ℕ) (s : List ℕ) (names : ℕ) (path : List ℕ) (preceding at : ℕ) → Every Zeros (read_system_in old n s names path preceding at)
unfolding read_system_in Every
old_zeros_every zero s names path preceding at = every_then Zeros (system_at_in old s at 0 names path preceding) _ (λ f next e. tt)
old_zeros_every (suc n) s names path preceding at = every_then Zeros (system_at_in old s at (suc n) names path preceding) _ (λ f next e.
    old_zeros_from (λ ns p k m. read_system_in old n s ns p k m) (λ ns p k m. old_zeros_every n s ns p k m) (λ m. read_process_in old n s names m) at names path preceding f next
    (of_found Ordinary (system_at_in old s at (suc n) names path preceding) (old_ordinary_every s at (suc n) names path preceding) e))

pub old_zeros : (s charter : List ℕ) {t : Sheet} {k : ℕ} → SheetPartsIn old s charter t k → all_zero (purposes t.system) ≡ true
unfolding Zeros
old_zeros s charter {t} h = of_found Zeros _ (old_zeros_every 64 s (length t.free) [] 0 h.start) h.body
