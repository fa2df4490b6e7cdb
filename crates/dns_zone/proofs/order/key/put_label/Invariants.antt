use Rattle.dns_zone.proofs.Common.{◌≡◌, length, map, take, raised}
use Rattle.dns_zone.proofs.order.key.put_label.Given as goal

-- the octets of the label so far are written
abbrev pub invariant-octets : goal.invariant-octets
invariant-octets l =
    (take l.place l.key ≡ map raised (take l.place l.label)) × (length l.key ≡ length l.initial.key)
