use Rattle.dns_spec.proofs.Messages.NameReading.{one_name}
use Rattle.dns_spec.proofs.reading.place_spells_one_name.Goals as goal

pub returns : goal.returns
returns c = one_name
