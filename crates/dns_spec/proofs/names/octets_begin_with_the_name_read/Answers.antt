use Rattle.dns_spec.proofs.DomainNames.WireNames.{name_of_reads}
use Rattle.dns_spec.proofs.names.octets_begin_with_the_name_read.Goals as goal

pub returns : goal.returns
returns c = name_of_reads
