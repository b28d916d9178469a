-- The six cases, to be ticked off beside source document 000: what the act needs whose channel G[T] carries plain data, a channel
-- of plain data, or anything deeper. A receive is `need false`, rule (In); a send is `need true`, rule (Out). Groups are below 64
-- and kinds below 16. That there is no other channel is `every_channel` of Channels.
use Prim.Native.Nat.{ℕ, ◌<◌}
use mathlib.Core.Bool.{true, false}
use mathlib.Core.List.{List, [], ◌∷◌, map}
use mathlib.Core.Path.{◌≡◌, refl}
use Rattle.reading.proofs.TypeLaws.{shape_plain, shape_channel}
use Rattle.reading.specs.Types.{channel, shape}
use Rattle.needs.proofs.Computed.{need_computed}
use Rattle.needs.specs.Needs.{need}
use Rattle.needs.specs.declared.Need.TheVariants.{Nothing, Read, Write, Access, Disclose}

-- T is plain data t.
module _ (g t : ℕ) (g64 : g < 64) (t16 : t < 16) where
  -- (In), case (i): read
  pub receive_data : need false (channel g t) ≡ Read t
  unfolding need_computed
  receive_data = rw (shape_channel g t g64, shape_plain t t16)

  -- (Out), case (i): write
  pub send_data : need true (channel g t) ≡ Write t
  unfolding need_computed
  send_data = rw (shape_channel g t g64, shape_plain t t16)

-- T is a channel of plain data t.
module _ (g h t : ℕ) (g64 : g < 64) (h64 : h < 64) (t16 : t < 16) where
  -- (In), case (ii): access
  pub receive_link : need false (channel g (channel h t)) ≡ Access t
  unfolding need_computed
  receive_link = rw (shape_channel g (channel h t) g64, shape_channel h t h64, shape_plain t t16)

  -- (Out), case (ii): disclose G 1. G is the group of the channel that the link is sent through, not the link's own (document 01;
  -- document 000 writes the letter G for both).
  pub send_link : need true (channel g (channel h t)) ≡ Disclose t g
  unfolding need_computed
  send_link = rw (shape_channel g (channel h t) g64, shape_channel h t h64, shape_plain t t16)

-- T is anything deeper.
module _ (g h i u : ℕ) (g64 : g < 64) (h64 : h < 64) (i64 : i < 64) where
  -- (In), case (iii): nothing
  pub receive_deeper : need false (channel g (channel h (channel i u))) ≡ Nothing
  unfolding need_computed
  receive_deeper = rw (shape_channel g (channel h (channel i u)) g64, shape_channel h (channel i u) h64, shape_channel i u i64)

  -- (Out), case (iii): nothing
  pub send_deeper : need true (channel g (channel h (channel i u))) ≡ Nothing
  unfolding need_computed
  send_deeper = rw (shape_channel g (channel h (channel i u)) g64, shape_channel h (channel i u) h64, shape_channel i u i64)

-- The last type of each case and the first of the next, by number: k15 | 0[k0] .. 63[k15] | 0[0[k0]] .. 63[63[k15]] | 0[0[0[k0]]].
borders : List ℕ
borders = 15 ∷ 16 ∷ 1039 ∷ 1040 ∷ 66575 ∷ 66576 ∷ []

received : map (need false) borders ≡ Nothing ∷ Read 0 ∷ Read 15 ∷ Access 0 ∷ Access 15 ∷ Nothing ∷ []
unfolding need_computed shape borders
received = refl

sent : map (need true) borders ≡ Nothing ∷ Write 0 ∷ Write 15 ∷ Disclose 0 0 ∷ Disclose 15 63 ∷ Nothing ∷ []
unfolding need_computed shape borders
sent = refl

-- The group disclosed to is that of the act's channel, 1, not that of the link, 2; four groups are as deep as three.
outer_group : need true (channel 1 (channel 2 3)) ≡ Disclose 3 1
unfolding need_computed shape channel
outer_group = refl

four_groups : need true (channel 1 (channel 2 (channel 3 (channel 4 5)))) ≡ Nothing
unfolding need_computed shape channel
four_groups = refl
