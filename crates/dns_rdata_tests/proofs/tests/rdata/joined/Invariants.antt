use Rattle.dns_spec.proofs.Common.{◌≡◌, flat_map}
use Rattle.dns_rdata.specs.Parts.{borrowed_octets}
use Rattle.dns_rdata_tests.proofs.tests.rdata.joined.Given as goal

abbrev pub invariant-parts : goal.invariant-parts
invariant-parts l = l.joined.items ≡ flat_map borrowed_octets l.yielded
