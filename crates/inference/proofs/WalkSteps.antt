-- The walk over a process, return by return: what the parts of a form were found to be makes what the form is found to be.
use Prim.Native.Nat.{ℕ, zero, suc, ◌+◌, ◌-◌, ◌<◌, ◌≤◌}
use mathlib.Core.Bool.{Bool, true, false}
use mathlib.Core.List.{List, [], ◌∷◌, ◌++◌, map}
use mathlib.Core.Option.{Option, some}
use mathlib.Core.Path.{◌≡◌, refl, sym, subst, ◌∙◌}
use native.Mathlib.Omega.{arith}
use lib.ListN.{length, take, set, get_or, get_elem?}
use Rattle.std.specs.Prelude.{Result, Ok, Err}
use Rattle.reading.proofs.TotalLaws.{process_step}
use Rattle.reading.specs.Forms.{process_at}
use Rattle.reading.specs.Read.{got}
use Rattle.reading.specs.Syntax.{Process, nil, par, new, input, output}
use Rattle.reading.specs.Told.{number, numbered, path_of}
use Rattle.reading.specs.Total.{Grown, under, beside, process_grown, process_tree}
use Rattle.reading.specs.Types.{type_at}
use Rattle.reading.specs.declared.Form.{Form}
use Rattle.reading.specs.declared.Form.TheVariants.{Nil, Par, New, Input, Output, Replicate}
use Rattle.reading.specs.declared.Number.{Number}
use Rattle.reading.specs.declared.Refusal.{Refusal}
use Rattle.inference.proofs.ByteLaws.{
  past_end,
  nil_at,
  par_at,
  repl_at,
  new_at,
  new_full,
  no_new,
  input_at,
  input_full,
  no_input,
  output_at,
  no_output,
  no_code,
}
use Rattle.inference.proofs.WalkLaws.{worst_append, charged_append, none_fails, first_then, some_type, scope_bound, kept_below_lem}
use Rattle.inference.specs.Acts.{Component, Act, type_of, acts}
use Rattle.inference.specs.Needs.{need_on, need_of}
use Rattle.inference.specs.Rows.{charge}
use Rattle.inference.specs.Walks.{fault, fault_of, worst, charged, Acted, Walked}
use Rattle.inference.specs.declared.Context.{Context}
use Rattle.inference.specs.declared.Walker.{Walker}

-- A walk over a tree found that tree's acts.
abbrev Finds : Component → Bool → Grown Process → ℕ → Walker → Walker → ℕ → Type 0
Finds c b t names w w' k = Walked t (acts c b (map some (take names w.scope)) t.tree) names w w' k

nothing : (t : Grown Process) (at : ℕ) (c : Component) (b : Bool) (names : ℕ) (w : Walker) → t ≡ record { tree = nil; next = at }
    → Finds c b t names w w at
unfolding acts worst charged
nothing t at c b names w e =
    rw e (record { place = refl; first = none_fails (numbered w.fault); counted = refl; kept = refl; number = refl; same = refl; lent = refl })

-- Under one name more.
module _ (t : Grown Process) (names u : ℕ) (c : Component) (b : Bool) (w w' : Walker) (k : ℕ) where
  pub under_new : length w.scope ≡ 64 → names < 64 → Finds c b t (names + 1) (record w { scope = set w.scope names u }) w' k
      → Finds c b (under (new u) t) names w w' k
  unfolding under acts
  under_new l h i =
      let widened = scope_bound w.scope (set w.scope names u) names u refl (omega arith) in
      record {
        place = i.place;
        first = rw widened at i.first;
        counted = rw widened at i.counted;
        kept = kept_below_lem w.scope (set w.scope names u) w'.scope names u refl i.kept;
        number = i.number;
        same = i.same;
        lent = i.lent;
      }

-- After an act.
module _ (sends : Bool) (x o : Option ℕ) (e : Context) (w v : Walker) (act : Acted sends x o e w v) where
  after_act : (a : Act) (rest : List Act) (t u : Grown Process) (names : ℕ) (w' : Walker) (k : ℕ) → u.next ≡ t.next
      → fault x o (path_of e.path) ≡ fault_of a → charge w.table.now e.component (need_on sends x) e.repeated ≡ charge w.table.now a.component.number (need_of a) a.repeated
      → Walked t rest names v w' k → Walked u (a ∷ rest) names w w' k
  unfolding worst charged
  after_act a rest t u names w' k n f m h = record {
    place = rw n h.place;
    first = first_then (numbered w.fault) (numbered v.fault) (numbered w'.fault) (fault_of a) (worst rest) (rw f at act.first) h.first;
    counted = rw (act.counted, m) at h.counted;
    kept = rw act.kept at h.kept;
    number = h.number ∙ act.number;
    same = h.same ∙ act.same;
    lent = h.lent ∙ act.lent;
  }

abbrev of_context : Context → Component
of_context e = record { number = e.component; path = path_of e.path; purpose = 0 }

module _ (t : Grown Process) (x y names : ℕ) (e : Context) (w v w' : Walker) (k : ℕ) where
  pub after_input : Acted false (get_elem? (take names w.scope) x) (some y) e w v
      → Finds (of_context e) e.repeated (under (new y) t) names v w' k → Finds (of_context e) e.repeated (under (input x y) t) names w w' k
  unfolding under acts fault_of need_of
  after_input act h = after_act false (get_elem? (take names w.scope) x) (some y) e w v act
      (record { component = of_context e; repeated = e.repeated; sends = false; channel = type_of (map some (take names w.scope)) x; object = some y })
      (acts (of_context e) e.repeated (map some (take names w.scope) ++ (some y ∷ [])) t.tree) (under (new y) t) (under (input x y) t) names w' k
      refl (rw (some_type (take names w.scope) x)) (rw (some_type (take names w.scope) x))
      (subst (λ (l : List ℕ). Walked (under (new y) t) (acts (of_context e) e.repeated (map some (take names l)) (under (new y) t).tree) names v w' k) act.kept h)

  pub after_output : Acted true (get_elem? (take names w.scope) x) (get_elem? (take names w.scope) y) e w v
      → Finds (of_context e) e.repeated t names v w' k → Finds (of_context e) e.repeated (under (output x y) t) names w w' k
  unfolding under acts fault_of need_of
  after_output act h = after_act true (get_elem? (take names w.scope) x) (get_elem? (take names w.scope) y) e w v act
      (record { component = of_context e; repeated = e.repeated; sends = true; channel = type_of (map some (take names w.scope)) x; object = type_of (map some (take names w.scope)) y })
      (acts (of_context e) e.repeated (map some (take names w.scope)) t.tree) t (under (output x y) t) names w' k
      refl (rw (some_type (take names w.scope) x, some_type (take names w.scope) y)) (rw (some_type (take names w.scope) x))
      (subst (λ (l : List ℕ). Walked t (acts (of_context e) e.repeated (map some (take names l)) t.tree) names v w' k) act.kept h)

-- One process after another.
module _ (n : ℕ) (names at : ℕ) (c : Component) (b : Bool) (w v w' : Walker) (l k : ℕ) where
  pub after_left : Finds c b (process_tree n w.sheet.now names at) names w v l → Finds c b (process_tree n v.sheet.now names l) names v w' k
      → Finds c b (beside par (process_tree n w.sheet.now names at) (λ p m. process_tree n w.sheet.now names m)) names w w' k
  unfolding beside under acts
  after_left h i = rw (← h.place) (record {
    place = rw h.same at i.place;
    first = rw worst_append (first_then (numbered w.fault) (numbered v.fault) (numbered w'.fault) _ _ h.first (rw (h.kept, h.same) at i.first));
    counted = rw (charged_append, ← h.counted) (rw (h.kept, h.same) at i.counted);
    kept = i.kept ∙ h.kept;
    number = i.number ∙ h.number;
    same = i.same ∙ h.same;
    lent = i.lent ∙ h.lent;
  })

-- The arms of the match on a code byte.
module _ (w : Walker) (e : Context) (at nest names : ℕ) where
  abbrev s : List ℕ
  s = w.sheet.now

  -- What a walk from here finds.
  abbrev Here : Walker → ℕ → Type 0
  Here w' k = Finds (of_context e) e.repeated (process_tree nest s names at) names w w' k

  ends : (k : ℕ) → process_tree nest s names at ≡ record { tree = nil; next = k } → Here w k
  ends k q = nothing (process_tree nest s names at) k (of_context e) e.repeated names w q

  grown : (f : Form) (m : ℕ) → process_at s at nest names ≡ got f m → (w' : Walker) (k : ℕ)
      → Finds (of_context e) e.repeated (process_grown (λ ns j. process_tree (nest - 1) s ns j) at names f m) names w w' k → Here w' k
  grown f m q w' k h = rw (process_step nest s names at f m q) h

  pub no_nest : nest ≡ 0 → Here w at
  unfolding process_tree
  no_nest z = ends at (rw z)

  pub no_byte : length s ≤ at → Here w at
  no_byte past = ends at (past_end s at nest names past)

  module _ (some_left : nest ≡ 0 → ⊥) (here : at < length s) where
    deep : 0 < nest
    deep = go nest some_left
      where
        go : (n : ℕ) → (n ≡ 0 → ⊥) → 0 < n
        go zero h = absurd (h refl)
        go (suc n) h = omega arith

    pub at_nil : get_or s at 0 ≡ 0 → Here w (at + 1)
    unfolding process_grown
    at_nil q = ends (at + 1) (process_step nest s names at Nil (at + 1) (nil_at s at nest names deep here q))

    pub at_no_code : (get_or s at 0 ≡ 0 → ⊥) → (get_or s at 0 ≡ 1 → ⊥) → (get_or s at 0 ≡ 3 → ⊥) → (get_or s at 0 ≡ 5 → ⊥)
        → (get_or s at 0 ≡ 6 → ⊥) → (get_or s at 0 ≡ 7 → ⊥) → Here w at
    at_no_code h i j k l n = ends at (no_code s at nest names deep here h i j k l n)

    pub new_room : get_or s at 0 ≡ 3 → 64 ≤ names → Here w at
    new_room q full = ends at (new_full s at nest names deep here q full)

    pub input_room : get_or s at 0 ≡ 5 → 64 ≤ names → Here w at
    input_room q full = ends at (input_full s at nest names deep here q full)

    pub short_output : get_or s at 0 ≡ 6 → length s ≤ at + 2 → Here w at
    short_output q past = ends at (no_output s at nest names deep here q past)

    module _ (r : Result Number Refusal) (room : names < 64) (why : Refusal) (f : r ≡ Err why) where
      pub untyped_new : get_or s at 0 ≡ 3 → number r ≡ type_at s (at + 1) → Here w at
      untyped_new q told = ends at (no_new s at nest names deep here q room (sym (rw f at told)))

      pub untyped_input : get_or s at 0 ≡ 5 → number r ≡ type_at s (at + 2) → Here w at
      untyped_input q told = ends at (no_input s at nest names deep here q room (sym (rw f at told)))

    module _ (w' : Walker) (k : ℕ) where
      pub new_walked : (t : Number) → number (Ok t) ≡ type_at s (at + 1) → names < 64 → get_or s at 0 ≡ 3 → length w.scope ≡ 64
          → Finds (of_context e) e.repeated (process_tree (nest - 1) s (names + 1) t.next) (names + 1) (record w { scope = set w.scope names t.value }) w' k
          → Here w' k
      unfolding process_grown
      new_walked t found room q wide h =
          grown (New t.value) t.next (new_at s at nest names deep here q room (sym found)) w' k
          (under_new (process_tree (nest - 1) s (names + 1) t.next) names t.value (of_context e) e.repeated w w' k wide room h)

      pub repl_walked : get_or s at 0 ≡ 7
          → Finds (of_context e) true (process_tree (nest - 1) s names (at + 1)) names w w' k → Here w' k
      unfolding process_grown under acts
      repl_walked q h = grown Replicate (at + 1) (repl_at s at nest names deep here q) w' k
          (record { place = h.place; first = h.first; counted = h.counted; kept = h.kept; number = h.number; same = h.same; lent = h.lent })

      module _ (v : Walker) where
        same_bytes : v.sheet ≡ w.sheet → v.sheet.now ≡ s
        same_bytes q = rw q refl

        pub input_walked : (t : Number) → number (Ok t) ≡ type_at s (at + 2) → names < 64 → get_or s at 0 ≡ 5 → length v.scope ≡ 64
            → (x : ℕ) → x ≡ get_or s (at + 1) 0
            → Acted false (get_elem? (take names w.scope) x) (some t.value) e w v
            → Finds (of_context e) e.repeated (process_tree (nest - 1) v.sheet.now (names + 1) t.next) (names + 1) (record v { scope = set v.scope names t.value }) w' k
            → Here w' k
        unfolding process_grown
        input_walked t found room q wide x i act h =
            grown (Input (record { channel = x; object = t.value })) t.next (rw i (input_at s at nest names deep here q room (sym found))) w' k
            (after_input (process_tree (nest - 1) s (names + 1) t.next) x t.value names e w v w' k act
            (under_new (process_tree (nest - 1) s (names + 1) t.next) names t.value (of_context e) e.repeated v w' k wide room
            (subst (λ (l : List ℕ). Finds (of_context e) e.repeated (process_tree (nest - 1) l (names + 1) t.next) (names + 1) (record v { scope = set v.scope names t.value }) w' k)
            (same_bytes act.same) h)))

        pub output_walked : (x o : ℕ) → get_or s at 0 ≡ 6 → at + 2 < length s → x ≡ get_or s (at + 1) 0 → o ≡ get_or s (at + 2) 0
            → Acted true (get_elem? (take names w.scope) x) (get_elem? (take names w.scope) o) e w v
            → Finds (of_context e) e.repeated (process_tree (nest - 1) v.sheet.now names (at + 3)) names v w' k → Here w' k
        unfolding process_grown
        output_walked x o q l i j act h =
            grown (Output (record { channel = x; object = o })) (at + 3) (rw (i, j) (output_at s at nest names deep here q l)) w' k
            (after_output (process_tree (nest - 1) s names (at + 3)) x o names e w v w' k act
            (subst (λ (l : List ℕ). Finds (of_context e) e.repeated (process_tree (nest - 1) l names (at + 3)) names v w' k) (same_bytes act.same) h))

        pub par_walked : (l : ℕ) → get_or s at 0 ≡ 1 → Finds (of_context e) e.repeated (process_tree (nest - 1) s names (at + 1)) names w v l
            → Finds (of_context e) e.repeated (process_tree (nest - 1) v.sheet.now names l) names v w' k → Here w' k
        unfolding process_grown
        par_walked l q left right =
            grown Par (at + 1) (par_at s at nest names deep here q) w' k
            (after_left (nest - 1) names (at + 1) (of_context e) e.repeated w v w' l k left right)
