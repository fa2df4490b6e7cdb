use Rattle.dns_wire.proofs.Common.{◌+◌, ◌*◌, ◌/◌, ◌%◌, ◌∙◌, ap, ap₂, length, suffix_number}
use Rattle.dns_wire.proofs.suffix_number.number_of.Goals as goal

pub returns-clause-value : goal.returns-clause-value
unfolding suffix_number
returns-clause-value g c = cc
