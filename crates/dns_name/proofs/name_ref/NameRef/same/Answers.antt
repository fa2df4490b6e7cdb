use Rattle.dns_name.proofs.WireLemmas.{same_from_octets}
use Rattle.dns_name.proofs.name_ref.NameRef.same.Goals as goal

pub returns : goal.returns
returns c =
    let left = c.octets.ensures in
    let right = c.octets-2.ensures in
    same_from_octets
    _ _ _ _ _ left.value right.value left.is_name right.is_name c.same_octets.ensures
