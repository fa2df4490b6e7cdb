use Rattle.dns_name.proofs.Common.{◌≡◌, arith, wire}
use Rattle.dns_name.proofs.WireLemmas.{labels_of_spelled, IsWireForm-wire}
use Rattle.dns_name.proofs.name.Name.copy_from.Goals as goal
use Rattle.dns_name.proofs.name.Name.copy_from.Goals.{After-append}

octets_of_other : (c : After-append)
    → c.append.new.self ≡ wire c.args.other.now
octets_of_other c = grind arith

pub invariant_of-self : goal.invariant_of-self
invariant_of-self c =
    IsWireForm-wire _ c.args.other.now (octets_of_other c) c.octets.ensures.is_name

pub returns-clause-value : goal.returns-clause-value
returns-clause-value c =
    labels_of_spelled _ c.args.other.now (octets_of_other c) c.octets.ensures.is_name

pub returns-clause-is_name : goal.returns-clause-is_name
returns-clause-is_name c = grind (arith, labels_of_spelled, octets_of_other)
