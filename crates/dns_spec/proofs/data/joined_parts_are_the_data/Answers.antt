use Rattle.dns_spec.proofs.DataWords.LoweredData.{joined-parts}
use Rattle.dns_spec.proofs.data.joined_parts_are_the_data.Goals as goal

pub returns : goal.returns
returns c = joined-parts
