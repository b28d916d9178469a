-- The acts of a component are the acts of its own process: components have numbers of their own.
use Prim.Native.Nat.{ℕ, ◌+◌, ◌<◌, ◌≤◌}
use native.Mathlib.Omega.{arith}
use mathlib.Core.Bool.{Bool, true, false, cond}
use mathlib.Core.List.{List, [], ◌∷◌, ◌++◌, append-nil, map, Memᴰ}
use mathlib.Core.Option.{Option, some}
use mathlib.Core.Path.{◌≡◌, refl, ap, ap₂, ◌∙◌}
use borrow.Author.Tests.{eq-eqb, ne_eqb}
use Rattle.reading.specs.Syntax.{Process, nil, par, new, input, output, repl, System, nilₛ, parₛ, groupₛ, newₛ, compₛ, Sheet, components}
use Rattle.inference.specs.Lists.{gather, only}
use Rattle.inference.specs.Acts.{Component, component_at, Act, acts, Located, locate, located, acts_of, sheet_acts}
use Rattle.running.specs.Guarantees.{acts_where, is_number, of_component}
use Rattle.running.proofs.Alls.{All, done, also, all_append, all_map, all_both, all_member, gather_append}

only_append : {A : Type 0} (p : A → Bool) (xs ys : List A) → only p (xs ++ ys) ≡ only p xs ++ only p ys
unfolding only
only_append p [] ys = refl
only_append {A} p (x ∷ xs) ys = rw (only_append p xs ys) (go (p x) (only p xs) (only p ys))
  where
    go : (b : Bool) (l r : List A) → cond b (x ∷ (l ++ r)) (l ++ r) ≡ cond b (x ∷ l) l ++ r
    go true l r = refl
    go false l r = refl

only_all : {A : Type 0} (p : A → Bool) {xs : List A} → All (λ x. p x ≡ true) xs → only p xs ≡ xs
unfolding only
only_all p done = refl
only_all p (also {x = x} h hs) = rw (h, only_all p hs)

only_none : {A : Type 0} (p : A → Bool) {xs : List A} → All (λ x. p x ≡ false) xs → only p xs ≡ []
unfolding only
only_none p done = refl
only_none p (also {x = x} h hs) = rw (h, only_none p hs)

-- Every act of a process is its component's.
pub acts_component : (c : Component) (b : Bool) (scope : List (Option ℕ)) (p : Process) → All (λ a. a.component ≡ c) (acts c b scope p)
unfolding acts
acts_component c b scope nil = done
acts_component c b scope (par p q) = all_append (acts_component c b scope p) (acts_component c b scope q)
acts_component c b scope (new t p) = acts_component c b (scope ++ (some t ∷ [])) p
acts_component c b scope (input x t p) = also refl (acts_component c b (scope ++ (some t ∷ [])) p)
acts_component c b scope (output x y p) = also refl (acts_component c b scope p)
acts_component c b scope (repl p) = acts_component c true scope p

-- The acts of a component, told by a test or not.
pub where_own : (among : Component → Bool) (l : Located) → among l.component ≡ true → acts_where among (acts_of l) ≡ acts_of l
unfolding acts_where acts_of
where_own among l h =
    only_all (λ a. among a.component)
    (all_map (λ a (e : a.component ≡ l.component). ap among e ∙ h) (acts_component l.component false l.scope l.process))

pub where_other : (among : Component → Bool) (l : Located) → among l.component ≡ false → acts_where among (acts_of l) ≡ []
unfolding acts_where acts_of
where_other among l h =
    only_none (λ a. among a.component)
    (all_map (λ a (e : a.component ≡ l.component). ap among e ∙ h) (acts_component l.component false l.scope l.process))

pub where_append : (among : Component → Bool) (xs ys : List Act) → acts_where among (xs ++ ys) ≡ acts_where among xs ++ acts_where among ys
unfolding acts_where
where_append among xs ys = only_append (λ a. among a.component) xs ys

-- The same by number.
own_acts : (l : Located) → of_component l.component.number (acts_of l) ≡ acts_of l
unfolding of_component is_number
own_acts l = where_own (is_number l.component.number) l (eq-eqb l.component.number l.component.number refl)

others_acts : (n : ℕ) (l : Located) → (l.component.number ≡ n → ⊥) → of_component n (acts_of l) ≡ []
unfolding of_component is_number
others_acts n l h = where_other (is_number n) l (ne_eqb l.component.number n h)

component_append : (n : ℕ) (xs ys : List Act) → of_component n (xs ++ ys) ≡ of_component n xs ++ of_component n ys
unfolding of_component
component_append n xs ys = where_append (is_number n) xs ys

component_none : (n : ℕ) {ls : List Located} → All (λ l. l.component.number ≡ n → ⊥) ls → of_component n (gather acts_of ls) ≡ []
unfolding gather of_component acts_where only
component_none n done = refl
component_none n (also {x = l} {xs = ls} h hs) = component_append n (acts_of l) (gather acts_of ls) ∙ ap₂ ◌++◌ (others_acts n l h) (component_none n hs)

-- "Posts are numbered from 0 in sheet order."
record Within (m n : ℕ) (l : Located) : Type 0 where
  low : m ≤ l.component.number
  high : l.component.number < n

numbers : (m : ℕ) (path : List ℕ) (scope : List (Option ℕ)) (s : System) → All (Within m (m + components s)) (locate m path scope s)
unfolding locate component_at components
numbers m path scope nilₛ = done
numbers m path scope (parₛ p q) =
    all_append
    (all_map (λ l (h : Within m (m + components p) l). record { low = h.low; high = omega arith }) (numbers m path scope p))
    (all_map (λ l (h : Within (m + components p) (m + components p + components q) l). record { low = omega arith; high = omega arith }) (numbers (m + components p) path scope q))
numbers m path scope (groupₛ g p) = numbers m (path ++ (g ∷ [])) scope p
numbers m path scope (newₛ t p) = numbers m path (scope ++ (some t ∷ [])) p
numbers m path scope (compₛ fields p) =
    let a : m ≤ m = omega arith in
    let b : m < m + 1 = omega arith in
    also (record { low = a; high = b }) done

left_own : (l : Located) (ls rs : List Located) (k m n : ℕ) → Within k m l → All (Within m n) rs
    → of_component l.component.number (gather acts_of ls) ≡ acts_of l → of_component l.component.number (gather acts_of (ls ++ rs)) ≡ acts_of l
left_own l ls rs k m n h hs e =
    let z : of_component l.component.number (gather acts_of rs) ≡ []
    = component_none l.component.number (all_map (λ r (w : Within m n r) (q : r.component.number ≡ l.component.number). omega arith) hs) in
    rw (gather_append acts_of ls rs) (component_append l.component.number (gather acts_of ls) (gather acts_of rs) ∙ ap₂ ◌++◌ e z ∙ append-nil (acts_of l))

right_own : (l : Located) (ls rs : List Located) (k m n : ℕ) → Within m n l → All (Within k m) ls
    → of_component l.component.number (gather acts_of rs) ≡ acts_of l → of_component l.component.number (gather acts_of (ls ++ rs)) ≡ acts_of l
right_own l ls rs k m n h hs e =
    let z : of_component l.component.number (gather acts_of ls) ≡ []
    = component_none l.component.number (all_map (λ r (w : Within k m r) (q : r.component.number ≡ l.component.number). omega arith) hs) in
    rw (gather_append acts_of ls rs) (component_append l.component.number (gather acts_of ls) (gather acts_of rs) ∙ ap₂ ◌++◌ z e)

own_one : (l : Located) → of_component l.component.number (gather acts_of (l ∷ [])) ≡ acts_of l
unfolding gather
own_one l = rw (append-nil (acts_of l)) (own_acts l)

own : (m : ℕ) (path : List ℕ) (scope : List (Option ℕ)) (s : System)
    → All (λ l. of_component l.component.number (gather acts_of (locate m path scope s)) ≡ acts_of l) (locate m path scope s)
unfolding locate
own m path scope nilₛ = done
own m path scope (parₛ p q) =
    let nl : All (Within m (m + components p)) (locate m path scope p) = numbers m path scope p in
    let nr : All (Within (m + components p) (m + components p + components q)) (locate (m + components p) path scope q) = numbers (m + components p) path scope q in
    all_append
    (all_both (λ l h e. left_own l (locate m path scope p) (locate (m + components p) path scope q) m (m + components p) (m + components p + components q) h nr e) nl (own m path scope p))
    (all_both (λ l h e. right_own l (locate m path scope p) (locate (m + components p) path scope q) m (m + components p) (m + components p + components q) h nl e) nr (own (m + components p) path scope q))
own m path scope (groupₛ g p) = own m (path ++ (g ∷ [])) scope p
own m path scope (newₛ t p) = own m path (scope ++ (some t ∷ [])) p
own m path scope (compₛ fields p) = also (own_one (record { component = component_at m path fields; scope = scope; process = p })) done

pub component_acts : (sheet : Sheet) (l : Located) → Memᴰ l (located sheet) → of_component l.component.number (sheet_acts sheet) ≡ acts_of l
unfolding sheet_acts located
component_acts sheet l m = all_member m (own 0 [] (map some sheet.free) sheet.system)
