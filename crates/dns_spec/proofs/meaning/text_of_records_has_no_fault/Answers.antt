use Rattle.dns_spec.proofs.ZoneTexts.NoFault.{no_fault}
use Rattle.dns_spec.proofs.meaning.text_of_records_has_no_fault.Goals as goal

pub returns : goal.returns
returns c = no_fault
