-- What a table holds at a place, one level down; and the places of parts and the types of new names, which have few digits.
use Prim.Native.Nat.{ℕ, zero, suc, ◌-◌, ◌/◌, ◌<◌}
use mathlib.Core.List.{List}
use mathlib.Core.Path.{◌≡◌, refl}
use native.Mathlib.Nat.{mod-lt}
use native.Mathlib.Numerals.{sub-one}
use native.Mathlib.Omega.{arith}
use lib.Dec.{lit<}
use lib.ListN.{get_or}
use Rattle.reading.specs.declared.Form.TheVariants.{New}
use Rattle.decoding.proofs.WordLaws.{FormFits, unpacked_fits}
use Rattle.decoding.specs.Words.{unpacked, item_at}
use Rattle.decoding.specs.Tables.{process_of, process_in, system_of, system_in}

module _ (nest : ℕ) (forms : List ℕ) (at : ℕ) where
  pub process_formed : 0 < nest
      → process_in nest forms at ≡ process_of (λ m. process_in (nest - 1) forms m) (item_at forms at).form (item_at forms at).next (item_at forms at).second
  unfolding process_in
  process_formed h = go nest h
    where
      go : (n : ℕ) → 0 < n
          → process_in n forms at ≡ process_of (λ m. process_in (n - 1) forms m) (item_at forms at).form (item_at forms at).next (item_at forms at).second
      go zero h = absurd (omega arith)
      go (suc n) h = rw (sub-one (suc n)) refl

  pub system_formed : 0 < nest
      → system_in nest forms at
      ≡ system_of (λ m. system_in (nest - 1) forms m) (λ m. process_in (nest - 1) forms m) (item_at forms at).form (item_at forms at).next (item_at forms at).second
  unfolding system_in
  system_formed h = go nest h
    where
      go : (n : ℕ) → 0 < n
          → system_in n forms at
          ≡ system_of (λ m. system_in (n - 1) forms m) (λ m. process_in (n - 1) forms m) (item_at forms at).form (item_at forms at).next (item_at forms at).second
      go zero h = absurd (omega arith)
      go (suc n) h = rw (sub-one (suc n)) refl

module _ (forms : List ℕ) (at : ℕ) where
  pub next_near : (item_at forms at).next < 8192
  unfolding item_at unpacked
  next_near = mod-lt (get_or forms at 0 / 8) (lit< tt)

  pub second_near : (item_at forms at).second < 8192
  unfolding item_at unpacked
  second_near = mod-lt (get_or forms at 0 / 8 / 8192 / 256) (lit< tt)

  pub new_small : {u : ℕ} → (item_at forms at).form ≡ New u → u < 536870912
  unfolding item_at FormFits
  new_small h = rw h at (unpacked_fits (get_or forms at 0))
