-- What a walk begins with, from one place to the next; and what one name given leaves to the walk under it.
use Prim.Native.Nat.{ℕ, ◌+◌, ◌-◌, ◌<◌, ◌≤◌}
use mathlib.Core.Bool.{Bool, true, false}
use mathlib.Core.Path.{◌≡◌, refl, ap}
use mathlib.Core.List.{List, [], ◌∷◌, ◌++◌}
use native.Mathlib.Omega.{arith}
use native.Mathlib.Numerals.{add-one}
use borrow.Author.Tests.{lt-ltb, ltb-true, ltb-false}
use lib.Dec.{ltb}
use lib.ListN.{length, take, set, length-set}
use lib.Seq.{take-suc-set, take-set-le}
use Rattle.memory.specs.Chains.{bound, chain}
use Rattle.memory.specs.declared.Thread.{Thread as Place}
use Rattle.memory.proofs.ChainLaws.{chain_bound, bound_kept, bound_length}
use Rattle.products.specs.declared.Sizes.{Sizes}
use Rattle.products.specs.Makes.{Ready, Grows, Gives, sizes_given, types_given, cells_given}

-- Nothing is made.
pub grows_none : {t : Place} {z : Sizes} {made types cells : List ℕ} → Ready t z made types cells → Grows z 0 0 cells cells z
grows_none r = record {
  threads = omega (arith, r.few);
  names = omega (arith, r.given);
  cells = omega arith;
  slack = omega arith;
  kept = refl;
}

-- One level deeper, at another place.
pub ready_deeper : {t : Place} {z : Sizes} {made types cells : List ℕ} (at : ℕ) → at < 8192 → Ready t z made types cells
    → Ready (record { component = t.component; env = t.env; names = t.names; nest = t.nest - 1; at = at }) z made types cells
ready_deeper at p h = record {
  component = h.component;
  scope = omega (arith, h.scope);
  deep = omega (arith, h.deep);
  place = p;
  env = h.env;
  few = h.few;
  given = h.given;
  slack = h.slack;
  made_room = h.made_room;
  types_room = h.types_room;
  cells_room = h.cells_room;
}

-- After another walk, at the place after it.
module _ (t : Place) (z z' : Sizes) (made made' types types' cells cells' : List ℕ)
    (same_made : length made' ≡ length made) (same_types : length types' ≡ length types) (same_cells : length cells' ≡ length cells) where
  pub ready_after : (component at : ℕ) {more new : ℕ} → component < 256 → at < 8192 → Grows z more new cells cells' z' → Ready t z made types cells
      → Ready (record { component = component; env = t.env; names = t.names; nest = t.nest; at = at }) z' made' types' cells'
  ready_after component at p q g h = record {
    component = p;
    scope = h.scope;
    deep = h.deep;
    place = q;
    env = omega (arith, h.env, g.cells);
    few = omega (arith, g.threads);
    given = omega (arith, g.names);
    slack = omega (arith, h.slack, g.slack);
    made_room = omega (arith, h.made_room);
    types_room = omega (arith, h.types_room);
    cells_room = omega (arith, h.cells_room);
  }

-- One name given where there is a number and a cell left.
pub given_small : (z z₁ : Sizes) (u env : ℕ) (types types₁ cells cells₁ : List ℕ) → z.names < 1024 → z.cells < 2304
    → Gives z u env types types₁ cells cells₁ z₁
    → (z₁ ≡ record { threads = z.threads; names = z.names + 1; cells = z.cells + 1 })
    × (types₁ ≡ set types z.names u) × (cells₁ ≡ bound cells z.cells env z.names)
unfolding sizes_given types_given cells_given
given_small z z₁ u env types types₁ cells cells₁ h k g =
    let name : ltb z.names 1024 ≡ true = lt-ltb z.names 1024 h in
    let cell : ltb z.cells 2304 ≡ true = lt-ltb z.cells 2304 k in
    (rw (name, cell) at g.sizes, rw (name, cell) at g.typed, rw (name, cell) at g.bound_to)

-- One name given, and what the walk under it begins with; `env` is its cell. The name counts only where it fits.
pub record Given (t : Place) (u : ℕ) (z z₁ : Sizes) (env : ℕ) (made types types₁ cells cells₁ : List ℕ) : Type 0 where
  pub one : Grows z 0 1 cells cells₁ z₁
  pub threads : z₁.threads ≡ z.threads
  pub ready : Ready (record { component = t.component; env = env; names = t.names + 1; nest = t.nest; at = t.at }) z₁ made types₁ cells₁
  pub before : take z.names types₁ ≡ take z.names types
  pub number : z₁.names ≤ 1024 → z₁.names ≡ z.names + 1
  pub typed : z₁.names ≤ 1024 → take z₁.names types₁ ≡ take z.names types ++ (u ∷ [])
  pub widened : z₁.names ≤ 1024 → chain cells₁ (t.names + 1) env ≡ chain cells t.names t.env ++ (z.names ∷ [])

module _ (t : Place) (u : ℕ) (z z₁ : Sizes) (env : ℕ) (made types types₁ cells cells₁ : List ℕ)
    (lt : t.names + t.nest < 128) (ready : Ready t z made types cells) (ie : env ≡ z₁.cells - 1) where
  -- Where there is a number left.
  module _ (small : z.names < 1024) (iz : z₁ ≡ record { threads = z.threads; names = z.names + 1; cells = z.cells + 1 })
      (it : types₁ ≡ set types z.names u) (ic : cells₁ ≡ bound cells z.cells t.env z.names) where
    env_is : env ≡ z.cells
    env_is = omega (arith, ie, ap (λ x. x.cells) iz)

    number_is : z₁.names ≡ z.names + 1
    number_is = ap (λ x. x.names) iz

    one_more : Grows z 0 1 cells cells₁ z₁
    one_more = rw (iz, ic) (record {
      threads = omega (arith, ready.few);
      names = omega arith;
      cells = omega arith;
      slack = omega arith;
      kept = bound_kept cells z.cells z.cells t.env z.names (omega arith);
    })

    one_typed : take z₁.names types₁ ≡ take z.names types ++ (u ∷ [])
    one_typed = rw (number_is, it, add-one z.names) (take-suc-set types z.names u (omega (arith, ready.types_room)))

    one_bound : chain cells₁ (t.names + 1) env ≡ chain cells t.names t.env ++ (z.names ∷ [])
    one_bound =
        rw (ic, env_is) (chain_bound cells t.names z.cells t.env z.names ready.env
        (omega (arith, ready.slack)) (omega (arith, ready.slack, ready.cells_room)) (omega arith))

    ready_given : Ready (record { component = t.component; env = env; names = t.names + 1; nest = t.nest; at = t.at }) z₁ made types₁ cells₁
    ready_given = rw (iz, it, ic, env_is) (record {
      component = ready.component;
      scope = omega arith;
      deep = ready.deep;
      place = ready.place;
      env = omega arith;
      few = ready.few;
      given = omega arith;
      slack = omega (arith, ready.slack, bound_length cells z.cells t.env z.names);
      made_room = ready.made_room;
      types_room = rw (length-set types z.names u) ready.types_room;
      cells_room = rw (bound_length cells z.cells t.env z.names) ready.cells_room;
    })

    given_next : Given t u z z₁ env made types types₁ cells cells₁
    given_next = record {
      one = one_more;
      threads = ap (λ x. x.threads) iz;
      ready = ready_given;
      before = rw it (take-set-le z.names types z.names u (omega arith));
      number = λ few. number_is;
      typed = λ few. one_typed;
      widened = λ few. one_bound;
    }

  -- Where none is left.
  module _ (large : 1024 ≤ z.names) (iz : z₁ ≡ record { threads = z.threads; names = 1025; cells = z.cells })
      (it : types₁ ≡ types) (ic : cells₁ ≡ cells) where
    env_last : env ≡ z.cells - 1
    env_last = omega (arith, ie, ap (λ x. x.cells) iz)

    too_large : z₁.names ≡ 1025
    too_large = ap (λ x. x.names) iz

    one_too_many : Grows z 0 1 cells cells₁ z₁
    one_too_many = rw (iz, ic) (record {
      threads = omega (arith, ready.few);
      names = omega (arith, ready.given);
      cells = omega arith;
      slack = omega (arith, ready.given);
      kept = refl;
    })

    ready_full : Ready (record { component = t.component; env = env; names = t.names + 1; nest = t.nest; at = t.at }) z₁ made types₁ cells₁
    ready_full = rw (iz, it, ic, env_last) (record {
      component = ready.component;
      scope = omega arith;
      deep = ready.deep;
      place = ready.place;
      env = omega (arith, ready.env);
      few = ready.few;
      given = omega arith;
      slack = omega (arith, ready.slack, ready.given);
      made_room = ready.made_room;
      types_room = ready.types_room;
      cells_room = ready.cells_room;
    })

    given_none : Given t u z z₁ env made types types₁ cells cells₁
    given_none = record {
      one = one_too_many;
      threads = ap (λ x. x.threads) iz;
      ready = ready_full;
      before = ap (take z.names) it;
      number = λ few. absurd (omega (arith, too_large));
      typed = λ few. absurd (omega (arith, too_large));
      widened = λ few. absurd (omega (arith, too_large));
    }

  pub name_given : Gives z u t.env types types₁ cells cells₁ z₁ → Given t u z z₁ env made types types₁ cells cells₁
  unfolding sizes_given types_given cells_given
  name_given g = go (ltb z.names 1024) refl
    where
      go : (b : Bool) → ltb z.names 1024 ≡ b → Given t u z z₁ env made types types₁ cells cells₁
      go true h =
          let small : z.names < 1024 = ltb-true z.names 1024 h in
          let k = given_small z z₁ u t.env types types₁ cells cells₁ small (omega (arith, ready.slack, ready.cells_room)) g in
          given_next small k.0 k.1 k.2
      go false h =
          let large : 1024 ≤ z.names = ltb-false z.names 1024 h in
          given_none large (rw h at g.sizes) (rw h at g.typed) (rw h at g.bound_to)
