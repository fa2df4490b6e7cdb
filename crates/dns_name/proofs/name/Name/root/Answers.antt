use Rattle.dns_name.proofs.Common.{[], refl}
use Rattle.dns_name.proofs.WireLemmas.{labels_of_spelled, IsWireForm-wire}
use Rattle.dns_name.proofs.name.Name.root.Goals as goal

pub invariant_of-result : goal.invariant_of-result
invariant_of-result c = IsWireForm-wire _ [] (cc) refl

pub returns : goal.returns
returns c = labels_of_spelled _ [] (cc) refl
