-- The tree at a place, for walks over a sheet that was read before: what cannot be read counts as nothing. Where the reader
-- reads a tree, it is that tree (`process_total`, `system_total` of proofs/TotalLaws.antt).
use Rattle.std.specs.Prelude.{ℕ, zero, suc, ◌+◌, List, [], ◌∷◌, ◌++◌}
use Rattle.reading.specs.Read.{Read, got, refused}
use Rattle.reading.specs.Syntax.{Process, nil, par, new, input, output, repl, System, nilₛ, parₛ, groupₛ, newₛ, compₛ, components}
use Rattle.reading.specs.Forms.{process_at, system_at}
use Rattle.reading.specs.declared.Form.{Form}
use Rattle.reading.specs.declared.Form.TheVariants.{Nil, Par, Group, New, Component, Input, Output, Replicate}

-- A tree, and the place after it.
pub record Grown (A : Type 0) : Type 0 where
  pub tree : A
  pub next : ℕ

-- the same place after another tree
unfoldable pub under : {A B : Type 0} → (A → B) → Grown A → Grown B
under f t = record { tree = f t.tree; next = t.next }

-- two trees, the second at the place after the first
unfoldable pub beside : {A : Type 0} → (A → A → A) → Grown A → (A → ℕ → Grown A) → Grown A
beside f l right = under (f l.tree) (right l.tree l.next)

-- what a form begins, or nothing where no form is read
unfoldable pub or_nothing : {A : Type 0} → Grown A → Read Form → (Form → ℕ → Grown A) → Grown A
or_nothing nothing (got form next) f = f form next
or_nothing nothing (refused question at) f = nothing

unfoldable pub process_grown : (ℕ → ℕ → Grown Process) → ℕ → ℕ → Form → ℕ → Grown Process
process_grown grow at names Nil next = record { tree = nil; next = next }
process_grown grow at names Par next = beside par (grow names next) (λ l m. grow names m)
process_grown grow at names (New t) next = under (new t) (grow (names + 1) next)
process_grown grow at names (Input a) next = under (input a.channel a.object) (grow (names + 1) next)
process_grown grow at names (Output a) next = under (output a.channel a.object) (grow names next)
process_grown grow at names Replicate next = under repl (grow names next)
process_grown grow at names (Group g) next = record { tree = nil; next = at }
process_grown grow at names (Component own) next = record { tree = nil; next = at }

-- The process at a place, where `nest` more forms may be nested and `names` names are in scope.
unfoldable pub process_tree : ℕ → List ℕ → ℕ → ℕ → Grown Process
process_tree zero s names at = record { tree = nil; next = at }
process_tree (suc n) s names at =
    or_nothing (record { tree = nil; next = at }) (process_at s at (suc n) names)
    (λ form next. process_grown (λ ns m. process_tree n s ns m) at names form next)

unfoldable pub system_grown : (ℕ → List ℕ → ℕ → ℕ → Grown System) → (ℕ → Grown Process) → ℕ → ℕ → List ℕ → ℕ → Form → ℕ → Grown System
system_grown grow process at names path preceding Nil next = record { tree = nilₛ; next = next }
system_grown grow process at names path preceding Par next =
    beside parₛ (grow names path preceding next) (λ l m. grow names path (preceding + components l) m)
system_grown grow process at names path preceding (Group g) next = under (groupₛ g) (grow names (path ++ (g ∷ [])) preceding next)
system_grown grow process at names path preceding (New t) next = under (newₛ t) (grow (names + 1) path preceding next)
system_grown grow process at names path preceding (Component own) next = under (compₛ own) (process next)
system_grown grow process at names path preceding (Input a) next = record { tree = nilₛ; next = at }
system_grown grow process at names path preceding (Output a) next = record { tree = nilₛ; next = at }
system_grown grow process at names path preceding Replicate next = record { tree = nilₛ; next = at }

-- The system at a place, with the path so far and the number of components so far.
unfoldable pub system_tree : ℕ → List ℕ → ℕ → List ℕ → ℕ → ℕ → Grown System
system_tree zero s names path preceding at = record { tree = nilₛ; next = at }
system_tree (suc n) s names path preceding at =
    or_nothing (record { tree = nilₛ; next = at }) (system_at s at (suc n) names path preceding)
    (λ form next.
    system_grown (λ ns p k m. system_tree n s ns p k m) (λ m. process_tree n s names m) at names path preceding form next)
