use Rattle.dns_zone.proofs.Common.{◌≡◌, ◌+◌, length, at_or_below, labels_of, IsWireForm}
use Rattle.dns_zone.proofs.tree.sought.Sought.below.Given as goal

-- the suffix is at or below the ancestor if and only if the name is, and has `depth` labels fewer
abbrev pub invariant-labels : goal.invariant-labels
invariant-labels l = record {
  form : IsWireForm l.suffix;
  below : at_or_below (labels_of l.suffix) l.ancestor ≡ at_or_below l.name l.ancestor;
  deep : length l.name ≡ length (labels_of l.suffix) + l.depth;
}

abbrev pub decreases-labels : goal.decreases-labels
decreases-labels l = length l.suffix
