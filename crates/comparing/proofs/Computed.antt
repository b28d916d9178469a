-- The definitions that the worked cases compute with, under one name.
use Rattle.containment.specs.Bits.{implies, bits_among}
use Rattle.service.proofs.Computed.{computed}
use Rattle.comparing.specs.NoLooser.{maps_no_looser, counts_no_looser, permissions_no_looser, nodes_no_looser, root_no_looser, trees_no_looser, policy_of, compared, no_looser}

unfoldable pub compare_computed : Unit {0}
unfolding computed implies bits_among maps_no_looser counts_no_looser permissions_no_looser nodes_no_looser root_no_looser trees_no_looser policy_of compared no_looser
compare_computed = tt
