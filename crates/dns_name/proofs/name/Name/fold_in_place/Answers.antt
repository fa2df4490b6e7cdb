use Rattle.dns_name.proofs.Common.{arith, is_name-folded}
use Rattle.dns_name.proofs.WireLemmas.{IsWireForm-wire, labels_of_spelled, map-lowercase-octets}
use Rattle.dns_name.proofs.name.Name.fold_in_place.Goals as goal

pub invariant_of-self : goal.invariant_of-self
invariant_of-self c = grind (arith, IsWireForm-wire, map-lowercase-octets, is_name-folded)

pub returns : goal.returns
returns c = grind (arith, labels_of_spelled, map-lowercase-octets, is_name-folded)
