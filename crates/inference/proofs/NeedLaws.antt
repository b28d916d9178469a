-- Laws of what an act of a sheet needs: the ranges of its kind and its group, and that a disclosed group is in the path of a
-- component whose act passes question 10.
use Prim.Native.Nat.{ℕ}
use mathlib.Core.Bool.{true}
use mathlib.Core.Option.{Option, some, none}
use mathlib.Core.Path.{◌≡◌, refl, sym, ap, ◌∙◌}
use Rattle.reading.specs.Forms.{member}
use Rattle.needs.specs.declared.Need.TheVariants.{Nothing, Disclose}
use Rattle.needs.proofs.NeedLaws.{NeedRange, need_range, no_disclosure, need_group}
use Rattle.inference.specs.Acts.{Act}
use Rattle.inference.specs.Needs.{need_on, need_of}
use Rattle.inference.specs.Typing.{of_shape, of_channel, in_path}

pub act_range : (a : Act) → NeedRange (need_of a)
unfolding need_of
act_range a = go a.channel
  where
    go : (o : Option ℕ) → NeedRange (need_on a.sends o)
    go none = unfold need_on NeedRange in tt
    go (some t) = unfold need_on in need_range a.sends t

-- An act that passes question 10 discloses into a group of its component's path.
pub disclosed_in_path : (a : Act) (k h : ℕ) → need_of a ≡ Disclose k h → in_path a ≡ true → member h a.component.path ≡ true
unfolding need_of need_on in_path of_channel of_shape
disclosed_in_path a k h e p = go a.channel e p
  where
    go : (o : Option ℕ) → need_on a.sends o ≡ Disclose k h → of_channel (λ g t. member g a.component.path) o ≡ true
        → member h a.component.path ≡ true
    go none e p = no_disclosure Nothing refl e
    go (some t) e p =
        let c = need_group a.sends t k h e in
        sym (ap (of_shape (λ g t. member g a.component.path)) c.channel) ∙ p
