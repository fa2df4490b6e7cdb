use Rattle.dns_zone.proofs.Common.{map, to_ascii_lowercase}
use Rattle.dns_zone.proofs.LabelKeys.{IsPart}
use Rattle.dns_zone.proofs.tree.label_key.eight_of.Given as goal

abbrev pub invariant-octets : goal.invariant-octets
invariant-octets l = IsPart (map to_ascii_lowercase l.label) l.i l.key l.worth
