use Rattle.dns_zone.proofs.Common.{◌≡◌, map, length, to_ascii_lowercase, label_order}
use Rattle.dns_zone.proofs.tree.label_key.order_to.Given as goal

-- the octets so far are equal
abbrev pub invariant-octets : goal.invariant-octets
invariant-octets l =
    label_order l.left (map to_ascii_lowercase l.right)
    ≡ label_order l.lower (map to_ascii_lowercase l.label)

abbrev pub decreases-octets : goal.decreases-octets
decreases-octets l = length l.left
