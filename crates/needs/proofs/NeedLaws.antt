-- Laws of what an act needs: the ranges of its kind and its group, and that a disclosed group is the channel's own. Who uses
-- `need` outside this crate cites these laws and does not look into its cases.
use Prim.Native.Nat.{ℕ, ◌-◌, ◌/◌, ◌%◌, ◌<◌}
use native.Mathlib.Omega.{arith}
use mathlib.Core.Bool.{Bool, true, false, cond}
use mathlib.Core.Path.{◌≡◌, refl, ap}
use lib.Dec.{ltb}
use borrow.Author.Tests.{ltb-true}
use Rattle.reading.specs.Types.{shape}
use Rattle.reading.specs.declared.Shape.{Shape}
use Rattle.reading.specs.declared.Shape.TheVariants.{Plain, Channel}
use Rattle.needs.specs.Needs.{link_to, carries, case_need, channel_need, need}
use Rattle.needs.specs.declared.Carried.{Carried}
use Rattle.needs.specs.declared.Carried.TheVariants.{Data, Link, Deeper}
use Rattle.needs.specs.declared.Need.{Need}
use Rattle.needs.specs.declared.Need.TheVariants.{Nothing, Read, Write, Access, Disclose}

-- Kinds are below 16 and groups below 64.
unfoldable pub NeedRange : Need → Type 0
NeedRange Nothing = Unit {0}
NeedRange (Read k) = k < 16
NeedRange (Write k) = k < 16
NeedRange (Access k) = k < 16
NeedRange (Disclose k g) = (k < 16) × (g < 64)

unfoldable pub ShapeRange : Shape → Type 0
ShapeRange (Plain k) = k < 16
ShapeRange (Channel g t) = g < 64

pub shape_range : (t : ℕ) → ShapeRange (shape t)
unfolding shape ShapeRange
shape_range t = go (ltb t 16) refl
  where
    go : (b : Bool) → ltb t 16 ≡ b → ShapeRange (cond b (Plain t) (Channel ((t - 16) % 64) ((t - 16) / 64)))
    go true e = ltb-true t 16 e
    go false e = omega arith

unfoldable CarriedRange : Carried → Type 0
CarriedRange (Data k) = k < 16
CarriedRange (Link k) = k < 16
CarriedRange Deeper = Unit {0}

link_range : (s : Shape) → ShapeRange s → CarriedRange (link_to s)
unfolding link_to ShapeRange CarriedRange
link_range (Plain t) r = r
link_range (Channel i u) r = tt

carried_range : (s : Shape) → ShapeRange s → CarriedRange (carries s)
unfolding carries ShapeRange CarriedRange
carried_range (Plain t) r = r
carried_range (Channel h u) r = link_range (shape u) (shape_range u)

case_range : (sends : Bool) (g : ℕ) (c : Carried) → g < 64 → CarriedRange c → NeedRange (case_need sends g c)
unfolding case_need NeedRange CarriedRange
case_range false g (Data t) h r = r
case_range false g (Link t) h r = r
case_range false g Deeper h r = tt
case_range true g (Data t) h r = r
case_range true g (Link t) h r = (r, h)
case_range true g Deeper h r = tt

channel_range : (sends : Bool) (s : Shape) → ShapeRange s → NeedRange (channel_need sends s)
unfolding channel_need NeedRange ShapeRange
channel_range sends (Plain t) r = tt
channel_range sends (Channel g t) r = case_range sends g (carries (shape t)) r (carried_range (shape t) (shape_range t))

pub need_range : (sends : Bool) (t : ℕ) → NeedRange (need sends t)
unfolding need
need_range sends t = channel_range sends (shape t) (shape_range t)

-- A channel of group g.
pub record OfGroup (g : ℕ) (s : Shape) : Type 0 where
  pub carried : ℕ
  pub channel : s ≡ Channel g carried

-- no other need discloses
abbrev pub discloses : Need → ℕ
discloses Nothing = 0
discloses (Read k) = 0
discloses (Write k) = 0
discloses (Access k) = 0
discloses (Disclose k g) = 1

pub no_disclosure : {P : Type 0} {k g : ℕ} (n : Need) → discloses n ≡ 0 → n ≡ Disclose k g → P
no_disclosure n z e = let w : discloses n ≡ 1 = ap discloses e in absurd (omega arith)

case_group : (sends : Bool) (g : ℕ) (c : Carried) (k h : ℕ) → case_need sends g c ≡ Disclose k h → g ≡ h
unfolding case_need
case_group false g (Data t) k h e = no_disclosure (Read t) refl e
case_group false g (Link t) k h e = no_disclosure (Access t) refl e
case_group false g Deeper k h e = no_disclosure Nothing refl e
case_group true g (Data t) k h e = no_disclosure (Write t) refl e
case_group true g (Link t) k h e = cc
case_group true g Deeper k h e = no_disclosure Nothing refl e

channel_group : (sends : Bool) (s : Shape) (k h : ℕ) → channel_need sends s ≡ Disclose k h → OfGroup h s
unfolding channel_need
channel_group sends (Plain t) k h e = no_disclosure Nothing refl e
channel_group sends (Channel g t) k h e =
    record { carried = t; channel = ap (λ (i : ℕ). Channel i t) (case_group sends g (carries (shape t)) k h e) }

-- A disclosed group is the channel's own.
pub need_group : (sends : Bool) (t k h : ℕ) → need sends t ≡ Disclose k h → OfGroup h (shape t)
unfolding need
need_group sends t k h e = channel_group sends (shape t) k h e
