use Rattle.dns_spec.proofs.ZoneTexts.ReadRecords.{records_as_read}
use Rattle.dns_spec.proofs.printed.records_of_a_text_are_as_read.Goals as goal

pub returns : goal.returns
returns c = records_as_read
