-- What a process makes at once has the acts of the process. Types of run names are looked up by number, so names given later change
-- nothing for names given before (`scope_later`); under the names before it and the names it makes, the acts of a process's
-- threads are the acts of the process (`products`), and the acts of a start are the acts of its sheet (`start_acts`).
use Prim.Native.Nat.{ℕ, zero, suc, ◌+◌, ◌<◌, ◌≤◌}
use native.Mathlib.Omega.{arith}
use mathlib.Core.Bool.{false}
use mathlib.Core.List.{List, [], ◌∷◌, ◌++◌, append_assoc, map}
use mathlib.Core.Option.{Option, some}
use mathlib.Core.Path.{◌≡◌, refl, ap, ap₂, ◌∙◌}
use lib.ListN.{length, get_elem?, length-append}
use Rattle.reading.specs.Syntax.{Process, nil, par, new, input, output, repl, System, nilₛ, parₛ, groupₛ, newₛ, compₛ, Sheet, components}
use Rattle.inference.specs.Lists.{gather, rising}
use Rattle.inference.specs.Acts.{Component, component_at, Act, acts, locate, located, acts_of, sheet_acts}
use Rattle.running.specs.State.{Thread}
use Rattle.running.specs.Products.{news, threads_of, system_news, system_threads, start}
use Rattle.running.specs.Guarantees.{scope_of, thread_acts, state_acts}
use Rattle.running.proofs.Alls.{All, done, also, all_append, all_map, gather_append}

-- Every run name has been given a type.
abbrev pub Bound : List ℕ → List ℕ → Type 0
Bound types names = All (λ n. n < length types) names

pub bound_later : (τ σ : List ℕ) {names : List ℕ} → Bound τ names → Bound (τ ++ σ) names
bound_later τ σ b = all_map (λ n (h : n < length τ). omega (arith, length-append τ σ)) b

elem_before : (τ σ : List ℕ) (n : ℕ) → n < length τ → get_elem? (τ ++ σ) n ≡ get_elem? τ n
elem_before [] σ n h = absurd (omega arith)
elem_before (t ∷ τ) σ zero h = refl
elem_before (t ∷ τ) σ (suc n) h = elem_before τ σ n (omega arith)

elem_seam : (τ σ : List ℕ) (t : ℕ) → get_elem? (τ ++ (t ∷ σ)) (length τ) ≡ some t
elem_seam [] σ t = refl
elem_seam (u ∷ τ) σ t = elem_seam τ σ t

pub scope_later : (τ σ : List ℕ) {names : List ℕ} → Bound τ names → scope_of (τ ++ σ) names ≡ scope_of τ names
unfolding scope_of
scope_later τ σ done = refl
scope_later τ σ (also {x = n} h b) = ap₂ ◌∷◌ (elem_before τ σ n h) (scope_later τ σ b)

append_nil : {A : Type 0} (xs : List A) → xs ++ [] ≡ xs
append_nil [] = refl
append_nil (x ∷ xs) = ap (λ l. x ∷ l) (append_nil xs)

pub scope_snoc : (τ names : List ℕ) (n : ℕ) → scope_of τ (names ++ (n ∷ [])) ≡ scope_of τ names ++ (get_elem? τ n ∷ [])
unfolding scope_of
scope_snoc τ [] n = refl
scope_snoc τ (m ∷ names) n = ap (λ l. get_elem? τ m ∷ l) (scope_snoc τ names n)

-- Threads whose acts are these, and whose names have types.
pub record Made (types : List ℕ) (threads : List Thread) (all : List Act) : Type 0 where
  pub same : gather (thread_acts types) threads ≡ all
  pub bound : All (λ t. Bound types t.names) threads

made_none : (τ : List ℕ) → Made τ [] []
unfolding gather
made_none τ = record { same = refl; bound = done }

made_both : {τ : List ℕ} {ts us : List Thread} {xs ys : List Act} → Made τ ts xs → Made τ us ys → Made τ (ts ++ us) (xs ++ ys)
made_both {τ} {ts} {us} m n = record {
  same = gather_append (thread_acts τ) ts us ∙ ap₂ ◌++◌ m.same n.same;
  bound = all_append m.bound n.bound;
}

made_thread : (τ σ : List ℕ) (c : Component) (names : List ℕ) (p : Process) → Bound τ names
    → Made (τ ++ σ) (record { component = c; names = names; process = p } ∷ []) (acts c false (scope_of τ names) p)
unfolding gather thread_acts
made_thread τ σ c names p b = record {
  same = append_nil (acts c false (scope_of (τ ++ σ) names) p) ∙ ap (λ l. acts c false l p) (scope_later τ σ b);
  bound = also (bound_later τ σ b) done;
}

bound_snoc : (τ names : List ℕ) (t n : ℕ) → length τ ≡ n → Bound τ names → Bound (τ ++ (t ∷ [])) (names ++ (n ∷ []))
bound_snoc τ names t n e b =
    let h : n < length (τ ++ (t ∷ [])) = omega (arith, length-append τ (t ∷ [])) in
    all_append (bound_later τ (t ∷ []) b) (also h done)

scope_new : (τ names : List ℕ) (t n : ℕ) → length τ ≡ n → Bound τ names
    → scope_of (τ ++ (t ∷ [])) (names ++ (n ∷ [])) ≡ scope_of τ names ++ (some t ∷ [])
scope_new τ names t n e b =
    let h : get_elem? (τ ++ (t ∷ [])) n ≡ some t = rw (← e) (elem_seam τ [] t) in
    let k : scope_of (τ ++ (t ∷ [])) names ≡ scope_of τ names = scope_later τ (t ∷ []) b in
    scope_snoc (τ ++ (t ∷ [])) names n ∙ rw (h, k) refl

length_snoc : (τ : List ℕ) (t n : ℕ) → length τ ≡ n → length (τ ++ (t ∷ [])) ≡ n + 1
length_snoc τ t n e = omega (arith, length-append τ (t ∷ []))

length_both : (τ σ : List ℕ) (n : ℕ) → length τ ≡ n → length (τ ++ σ) ≡ n + length σ
length_both τ σ n e = omega (arith, length-append τ σ)

pub products : (c : Component) (τ σ names : List ℕ) (next : ℕ) (p : Process) → length τ ≡ next → Bound τ names
    → Made (τ ++ (news p ++ σ)) (threads_of c names next p) (acts c false (scope_of τ names) p)
unfolding news threads_of acts
products c τ σ names next nil e b = made_none (τ ++ σ)
products c τ σ names next (par p q) e b =
    let l : Made (τ ++ (news p ++ (news q ++ σ))) (threads_of c names next p) (acts c false (scope_of τ names) p)
    = products c τ (news q ++ σ) names next p e b in
    let r : Made ((τ ++ news p) ++ (news q ++ σ)) (threads_of c names (next + length (news p)) q) (acts c false (scope_of (τ ++ news p) names) q)
    = products c (τ ++ news p) σ names (next + length (news p)) q (length_both τ (news p) next e) (bound_later τ (news p) b) in
    let k : scope_of (τ ++ news p) names ≡ scope_of τ names = scope_later τ (news p) b in
    let a : (τ ++ news p) ++ (news q ++ σ) ≡ τ ++ (news p ++ (news q ++ σ)) = append_assoc τ (news p) (news q ++ σ) in
    let d : (news p ++ news q) ++ σ ≡ news p ++ (news q ++ σ) = append_assoc (news p) (news q) σ in
    rw d (made_both l (rw (k, a) at r))
products c τ σ names next (new t p) e b =
    let r : Made ((τ ++ (t ∷ [])) ++ (news p ++ σ)) (threads_of c (names ++ (next ∷ [])) (next + 1) p) (acts c false (scope_of (τ ++ (t ∷ [])) (names ++ (next ∷ []))) p)
    = products c (τ ++ (t ∷ [])) σ (names ++ (next ∷ [])) (next + 1) p (length_snoc τ t next e) (bound_snoc τ names t next e b) in
    let k : scope_of (τ ++ (t ∷ [])) (names ++ (next ∷ [])) ≡ scope_of τ names ++ (some t ∷ []) = scope_new τ names t next e b in
    let a : (τ ++ (t ∷ [])) ++ (news p ++ σ) ≡ τ ++ (t ∷ (news p ++ σ)) = append_assoc τ (t ∷ []) (news p ++ σ) in
    rw (k, a) at r
products c τ σ names next (input x t p) e b = made_thread τ σ c names (input x t p) b
products c τ σ names next (output x y p) e b = made_thread τ σ c names (output x y p) b
products c τ σ names next (repl p) e b = made_thread τ σ c names (repl p) b

-- The same of a system.
made_system : (m : ℕ) (path τ σ names : List ℕ) (next : ℕ) (s : System) → length τ ≡ next → Bound τ names
    → Made (τ ++ (system_news s ++ σ)) (system_threads m path names next s) (gather acts_of (locate m path (scope_of τ names) s))
unfolding system_news system_threads locate gather acts_of
made_system m path τ σ names next nilₛ e b = made_none (τ ++ σ)
made_system m path τ σ names next (parₛ p q) e b =
    let l : Made (τ ++ (system_news p ++ (system_news q ++ σ))) (system_threads m path names next p) (gather acts_of (locate m path (scope_of τ names) p))
    = made_system m path τ (system_news q ++ σ) names next p e b in
    let r : Made ((τ ++ system_news p) ++ (system_news q ++ σ)) (system_threads (m + components p) path names (next + length (system_news p)) q)
    (gather acts_of (locate (m + components p) path (scope_of (τ ++ system_news p) names) q))
    = made_system (m + components p) path (τ ++ system_news p) σ names (next + length (system_news p)) q
    (length_both τ (system_news p) next e) (bound_later τ (system_news p) b) in
    let k : scope_of (τ ++ system_news p) names ≡ scope_of τ names = scope_later τ (system_news p) b in
    let a : (τ ++ system_news p) ++ (system_news q ++ σ) ≡ τ ++ (system_news p ++ (system_news q ++ σ)) = append_assoc τ (system_news p) (system_news q ++ σ) in
    let d : (system_news p ++ system_news q) ++ σ ≡ system_news p ++ (system_news q ++ σ) = append_assoc (system_news p) (system_news q) σ in
    let g : gather acts_of (locate m path (scope_of τ names) p ++ locate (m + components p) path (scope_of τ names) q)
    ≡ gather acts_of (locate m path (scope_of τ names) p) ++ gather acts_of (locate (m + components p) path (scope_of τ names) q)
    = gather_append acts_of (locate m path (scope_of τ names) p) (locate (m + components p) path (scope_of τ names) q) in
    rw (d, g) (made_both l (rw (k, a) at r))
made_system m path τ σ names next (groupₛ g p) e b = made_system m (path ++ (g ∷ [])) τ σ names next p e b
made_system m path τ σ names next (newₛ t p) e b =
    let r : Made ((τ ++ (t ∷ [])) ++ (system_news p ++ σ)) (system_threads m path (names ++ (next ∷ [])) (next + 1) p)
    (gather acts_of (locate m path (scope_of (τ ++ (t ∷ [])) (names ++ (next ∷ []))) p))
    = made_system m path (τ ++ (t ∷ [])) σ (names ++ (next ∷ [])) (next + 1) p (length_snoc τ t next e) (bound_snoc τ names t next e b) in
    let k : scope_of (τ ++ (t ∷ [])) (names ++ (next ∷ [])) ≡ scope_of τ names ++ (some t ∷ []) = scope_new τ names t next e b in
    let a : (τ ++ (t ∷ [])) ++ (system_news p ++ σ) ≡ τ ++ (t ∷ (system_news p ++ σ)) = append_assoc τ (t ∷ []) (system_news p ++ σ) in
    rw (k, a) at r
made_system m path τ σ names next (compₛ own p) e b =
    rw (append_nil (acts (component_at m path own) false (scope_of τ names) p))
    (products (component_at m path own) τ σ names next p e b)

-- The free names are 0, 1, .., and have their own types.
bound_rising : (τ : List ℕ) (k n : ℕ) → k + n ≤ length τ → Bound τ (rising k n)
unfolding rising
bound_rising τ k zero h = done
bound_rising τ k (suc n) h =
    let a : k < length τ = omega arith in
    let b : suc k + n ≤ length τ = omega arith in
    also a (bound_rising τ (suc k) n b)

scope_rising : (xs ys : List ℕ) (k : ℕ) → length xs ≡ k → scope_of (xs ++ ys) (rising k (length ys)) ≡ map some ys
unfolding scope_of rising
scope_rising xs [] k e = refl
scope_rising xs (y ∷ ys) k e =
    let h : get_elem? (xs ++ (y ∷ ys)) k ≡ some y = rw (← e) (elem_seam xs ys y) in
    let l : length (xs ++ (y ∷ [])) ≡ suc k = omega (arith, length-append xs (y ∷ [])) in
    let a : (xs ++ (y ∷ [])) ++ ys ≡ xs ++ (y ∷ ys) = append_assoc xs (y ∷ []) ys in
    let r : scope_of (xs ++ (y ∷ ys)) (rising (suc k) (length ys)) ≡ map some ys = rw a at (scope_rising (xs ++ (y ∷ [])) ys (suc k) l) in
    ap₂ ◌∷◌ h r

-- "The start is the free names with their types and what the sheet's system makes of threads and new names."
pub made_start : (sheet : Sheet) → Made (start sheet).types (start sheet).threads (sheet_acts sheet)
unfolding start sheet_acts located
made_start sheet =
    let free : List ℕ = sheet.free in
    let r : Made (sheet.free ++ (system_news sheet.system ++ []))
    (system_threads 0 [] (rising 0 (length sheet.free)) (length sheet.free) sheet.system)
    (gather acts_of (locate 0 [] (scope_of sheet.free (rising 0 (length sheet.free))) sheet.system))
    = made_system 0 [] sheet.free [] (rising 0 (length sheet.free)) (length sheet.free) sheet.system refl
    (bound_rising sheet.free 0 (length sheet.free) (omega arith)) in
    let k : scope_of sheet.free (rising 0 (length sheet.free)) ≡ map some sheet.free = scope_rising [] sheet.free 0 refl in
    let a : system_news sheet.system ++ [] ≡ system_news sheet.system = append_nil (system_news sheet.system) in
    rw (k, a) at r

pub start_acts : (sheet : Sheet) → state_acts (start sheet) ≡ sheet_acts sheet
unfolding state_acts
start_acts sheet = (made_start sheet).same
