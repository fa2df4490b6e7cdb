use Rattle.dns_wire.proofs.Common.{◌≡◌, with_eights}
use Rattle.dns_wire.proofs.suffix_number.octets_number.Given as goal

-- the hash of the groups of eight octets so far
abbrev pub invariant-eights : goal.invariant-eights
invariant-eights l = l.number ≡ with_eights l.i l.octets
