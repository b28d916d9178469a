-- How a node without its children is read, step by step, and that what is stored of it fits.
use Prim.Native.Nat.{ℕ, ◌<◌}
use mathlib.Core.List.{List}
use mathlib.Core.Path.{◌≡◌, refl, sym}
use native.Mathlib.Omega.{arith}
use lib.ListN.{get_or}
use mir.Syntax.{w8}
use mir.Val.{Fits}
use Rattle.std.specs.Prelude.{Result, Ok, Err}
use Rattle.reading.proofs.Parts.{below_found}
use Rattle.reading.proofs.Steps.{steps}
use Rattle.reading.specs.Read.{got, refused, and_then, byte_at, below}
use Rattle.reading.specs.Questions.{number_of}
use Rattle.reading.specs.Told.{number}
use Rattle.reading.specs.declared.Number.{Number}
use Rattle.reading.specs.declared.Refusal.{Refusal}
use Rattle.policy.proofs.ListSteps.{byte_small}
use Rattle.policy.specs.Reading.{read_permissions}
use Rattle.policy.specs.Rows.{flat_of}
use Rattle.policy.specs.Loads.{permissions_read, PermissionsReadFit, PermissionsFit, read_opening, OpeningFits}
use Rattle.policy.specs.declared.PermissionsAt.{PermissionsAt}

module _ (s : List ℕ) (at : ℕ) (a : Result Number Refusal) (e : number a ≡ below 64 s at) where
  pub group_refused : (w : Refusal) → a ≡ Err w → refused (number_of w.question) w.at ≡ read_opening s at
  unfolding read_opening and_then
  group_refused w f = let z = sym (rw f at e) in rw z

  module _ (g : Number) (f : a ≡ Ok g) (b : Result PermissionsAt Refusal) (h : permissions_read s b ≡ read_permissions s g.next) where
    pub permissions_refused : (w : Refusal) → b ≡ Err w → refused (number_of w.question) w.at ≡ read_opening s at
    unfolding read_opening and_then
    permissions_refused w k = let z = sym (rw f at e) in let y = sym (rw k at h) in rw (z, y)

    module _ (p : PermissionsAt) (k : b ≡ Ok p) (c : Result Number Refusal) (i : number c ≡ byte_at s p.next) where
      pub children_refused : (w : Refusal) → c ≡ Err w → refused (number_of w.question) w.at ≡ read_opening s at
      unfolding read_opening and_then
      children_refused w l = let z = sym (rw f at e) in let y = sym (rw k at h) in let x = sym (rw l at i) in rw (z, y, x)

      module _ (n : Number) (l : c ≡ Ok n) (depth : ℕ) where
        pub opening_is : got (record { head = (flat_of s (record { group = g.value; permissions = p.permissions; depth = depth })).head; children = n.value }) n.next
            ≡ read_opening s at
        unfolding read_opening and_then flat_of
        opening_is = let z = sym (rw f at e) in let y = sym (rw k at h) in let x = sym (rw l at i) in rw (z, y, x)

        pub opening_fits : depth < 8 → ((j : ℕ) → Fits w8 (get_or s j 0)) → PermissionsReadFit b
            → OpeningFits depth (record { node = record { group = g.value; permissions = p.permissions; depth = depth }; children = n.value; next = n.next })
        opening_fits r t j =
            let y : PermissionsFit p.permissions = rw k at j in
            record {
              fits = record {
                small_group = omega (arith, below_found 64 s at {b = g.value} {k = g.next} (rw f at (sym e)));
                small_permissions = y;
                small_depth = r;
              };
              at_depth = refl;
              few = omega (arith, byte_small s p.next c n t l i);
            }

pub ruleset opening_steps = (steps, group_refused, permissions_refused, children_refused, opening_is, opening_fits)
