use Rattle.dns_name.proofs.Common.{sym, ◌∙◌, arith, at_or_below-long}
use Rattle.dns_name.proofs.WireLemmas.{IsWireForm-wire, labels_of_spelled, same_from_octets, no_longer_decides}
use Rattle.dns_name.proofs.name_ref.NameRef.at_or_below.Goals as goal

pub labels-init : goal.labels-init
labels-init c = grind (arith, IsWireForm-wire, labels_of_spelled)

pub labels-preserved : goal.labels-preserved
labels-preserved c = grind (arith, at_or_below-long)

pub returns : goal.returns
returns c =
    let form = c.labels.invariant.0 in
    let target = c.octets-target.ensures in
    same_from_octets _ _ _ _ _
    (sym form.wire_is) target.value form.is_name target.is_name c.same_octets.ensures
    ∙ sym (no_longer_decides _ _ _ form target.value c.labels-test.false) ∙ c.labels.invariant.1
