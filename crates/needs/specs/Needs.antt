-- "What an act needs" (document 01), by what its channel carries: the six cases that stand in source document 000 under
-- rules (In) and (Out).
use Rattle.std.specs.Prelude.{ℕ, Bool, true, false}
use Rattle.reading.specs.Types.{shape}
use Rattle.reading.specs.declared.Shape.{Shape}
use Rattle.reading.specs.declared.Shape.TheVariants.{Plain, Channel}
use Rattle.needs.specs.declared.Carried.{Carried}
use Rattle.needs.specs.declared.Carried.TheVariants.{Data, Link, Deeper}
use Rattle.needs.specs.declared.Need.{Need}
use Rattle.needs.specs.declared.Need.TheVariants.{Nothing, Read, Write, Access, Disclose}

-- A channel of U: "a channel of plain data" if U is plain data, otherwise "anything deeper".
unfoldable pub link_to : Shape → Carried
link_to (Plain t) = Link t
link_to (Channel i v) = Deeper

-- What a channel G[T] carries, by T: "plain data, a channel of plain data, anything deeper" (document 02, Q-3).
unfoldable pub carries : Shape → Carried
carries (Plain t) = Data t
carries (Channel h u) = link_to (shape u)

-- "Receive on G[T]: read of t if T is plain t; access of t if T is a channel carrying plain t; otherwise nothing. Send on G[T]:
-- write of t if T is plain t; disclose G, once if T carries plain t; otherwise nothing." (Document 01; in source document 000 the
-- cases (i), (ii), (iii) of rule (In), then those of rule (Out).) A receive is false and a send true, on a channel of group g.
unfoldable pub case_need : Bool → ℕ → Carried → Need
case_need false g (Data t) = Read t
case_need false g (Link t) = Access t
case_need false g Deeper = Nothing
case_need true g (Data t) = Write t
case_need true g (Link t) = Disclose t g
case_need true g Deeper = Nothing

-- An act on data is no case: it fails question 8.
unfoldable pub channel_need : Bool → Shape → Need
channel_need sends (Plain t) = Nothing
channel_need sends (Channel g t) = case_need sends g (carries (shape t))

-- The permission that a send (true) or a receive (false) on a channel of type t needs.
unfoldable pub need : Bool → ℕ → Need
need sends t = channel_need sends (shape t)
