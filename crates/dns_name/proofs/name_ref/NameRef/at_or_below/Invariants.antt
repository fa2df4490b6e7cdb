use Rattle.dns_name.proofs.Common.{◌≡◌, length, at_or_below, labels_of, IsWireForm}
use Rattle.dns_name.proofs.name_ref.NameRef.at_or_below.Given as goal

abbrev pub invariant-labels : goal.invariant-labels
invariant-labels l = IsWireForm l.suffix
    × (at_or_below (labels_of l.suffix) l.ancestor ≡ at_or_below l.self l.ancestor)

abbrev pub decreases-labels : goal.decreases-labels
decreases-labels l = length l.suffix
