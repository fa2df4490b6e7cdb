use Rattle.dns_name.proofs.PlainLemmas.{LengthsPut}
use Rattle.dns_name.proofs.plain.put_lengths.Given as goal

abbrev pub invariant-octets : goal.invariant-octets
invariant-octets l = LengthsPut l.labels l.octets l.place l.count

abbrev pub decreases-octets : goal.decreases-octets
decreases-octets l = l.place
