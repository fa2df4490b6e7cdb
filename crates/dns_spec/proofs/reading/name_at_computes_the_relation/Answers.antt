use Rattle.dns_spec.proofs.Messages.NameReading.{name_at_computes}
use Rattle.dns_spec.proofs.reading.name_at_computes_the_relation.Goals as goal

pub returns : goal.returns
returns c = name_at_computes
