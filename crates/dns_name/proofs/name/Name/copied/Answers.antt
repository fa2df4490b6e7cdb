use Rattle.dns_name.proofs.Common.{◌∙◌}
use Rattle.dns_name.proofs.WireLemmas.{IsWireForm-wire, labels_of_spelled}
use Rattle.dns_name.proofs.name.Name.copied.Goals as goal

pub from_octets-requires : goal.from_octets-requires
from_octets-requires c = IsWireForm-wire _ _ c.octets.ensures.value c.octets.ensures.is_name

pub returns-clause-value : goal.returns-clause-value
returns-clause-value c = c.from_octets.ensures.value
    ∙ labels_of_spelled _ _ c.octets.ensures.value c.octets.ensures.is_name
