-- How sizes and cells grow from walk to walk, and that threads in memory stay what they are while cells are added.
use Prim.Native.Nat.{ℕ, ◌+◌, ◌≤◌}
use mathlib.Core.Path.{◌≡◌, refl, sym, ap, ◌∙◌}
use mathlib.Core.List.{List, [], ◌∷◌, ◌++◌}
use native.Mathlib.Omega.{arith}
use lib.ListN.{length, take, length-append}
use lib.Seq.{take-take}
use Rattle.reading.specs.Syntax.{Process, nil, par, new, input, output, repl, System, nilₛ, parₛ, groupₛ, newₛ, compₛ, components}
use Rattle.inference.specs.Acts.{Component, component_at}
use Rattle.running.specs.State.{Thread}
use Rattle.running.specs.Products.{news, threads_of, system_news, system_threads}
use Rattle.memory.specs.Threads.{unpacked}
use Rattle.memory.proofs.ChainLaws.{chain_kept}
use Rattle.products.specs.declared.Sizes.{Sizes}
use Rattle.products.specs.Pairs.{Pairs}
use Rattle.products.specs.Held.{Runs}
use Rattle.products.specs.Makes.{Grows, crowd, system_crowd}
use Rattle.products.proofs.PairLaws.{pairs_map}

pub shorter : {A : Type 0} (m n : ℕ) (a b : List A) → m ≤ n → take n a ≡ take n b → take m a ≡ take m b
shorter m n a b h e = sym (take-take m n a h) ∙ ap (take m) e ∙ take-take m n b h

-- One growth after another.
pub grows_then : {z z₁ z' : Sizes} {a b a' b' : ℕ} {cells cells₁ cells' : List ℕ}
    → Grows z a b cells cells₁ z₁ → Grows z₁ a' b' cells₁ cells' z' → Grows z (a + a') (b + b') cells cells' z'
grows_then {z} {z₁} {z'} {a} {b} {a'} {b'} {cells} {cells₁} {cells'} g h = record {
  threads = omega (arith, g.threads, h.threads);
  names = omega (arith, g.names, h.names);
  cells = omega (arith, g.cells, h.cells);
  slack = omega (arith, g.slack, h.slack);
  kept = shorter z.cells z₁.cells cells' cells₁ g.cells h.kept ∙ g.kept;
}

pub grows_cong : {z z' : Sizes} {a b a' b' : ℕ} {cells cells' : List ℕ} → a ≡ a' → b ≡ b' → Grows z a b cells cells' z' → Grows z a' b' cells cells' z'
grows_cong e f g = rw (← e, ← f) g

-- Threads in memory while cells are added.
module _ (forms cells cells' : List ℕ) (top top' : ℕ) (kept : take top cells' ≡ take top cells) (grows : top ≤ top') where
  runs_kept : (w : ℕ) (t : Thread) → Runs forms cells top w t → Runs forms cells' top' w t
  runs_kept w t r = record {
    env = omega (arith, r.env);
    component = r.component;
    names = r.names ∙ chain_kept cells cells' top (unpacked w).names (unpacked w).env (sym kept) r.env;
    process = r.process;
    scope = r.scope;
    deep = r.deep;
  }

  pub all_kept_lem : {ws : List ℕ} {ts : List Thread} → Pairs (Runs forms cells top) ws ts → Pairs (Runs forms cells' top') ws ts
  all_kept_lem p = pairs_map runs_kept p

-- The threads made are as many as counted.
pub crowd_counts : (c : Component) (names : List ℕ) (next : ℕ) (p : Process) → length (threads_of c names next p) ≡ crowd p
unfolding threads_of crowd
crowd_counts c names next nil = refl
crowd_counts c names next (par p q) =
    length-append (threads_of c names next p) (threads_of c names (next + length (news p)) q)
    ∙ omega (arith, crowd_counts c names next p, crowd_counts c names (next + length (news p)) q)
crowd_counts c names next (new t p) = crowd_counts c (names ++ (next ∷ [])) (next + 1) p
crowd_counts c names next (input x t p) = refl
crowd_counts c names next (output x y p) = refl
crowd_counts c names next (repl p) = refl

pub system_crowd_counts : (number : ℕ) (path names : List ℕ) (next : ℕ) (p : System) → length (system_threads number path names next p) ≡ system_crowd p
unfolding system_threads system_crowd
system_crowd_counts number path names next nilₛ = refl
system_crowd_counts number path names next (parₛ l r) =
    length-append (system_threads number path names next l) (system_threads (number + components l) path names (next + length (system_news l)) r)
    ∙ omega (arith, system_crowd_counts number path names next l, system_crowd_counts (number + components l) path names (next + length (system_news l)) r)
system_crowd_counts number path names next (groupₛ g p) = system_crowd_counts number (path ++ (g ∷ [])) names next p
system_crowd_counts number path names next (newₛ t p) = system_crowd_counts number path (names ++ (next ∷ [])) (next + 1) p
system_crowd_counts number path names next (compₛ own p) = crowd_counts (component_at number path own) names next p
