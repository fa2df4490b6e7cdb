use Rattle.dns_name.proofs.Common.{[], refl}
use Rattle.dns_name.proofs.WireLemmas.{labels_of_spelled, IsWireForm-wire}
use Rattle.dns_name.proofs.name.Name.clear.Goals as goal

pub invariant_of-self : goal.invariant_of-self
invariant_of-self c = IsWireForm-wire _ [] c.set_root.ensures refl

pub returns : goal.returns
returns c = labels_of_spelled _ [] c.set_root.ensures refl
