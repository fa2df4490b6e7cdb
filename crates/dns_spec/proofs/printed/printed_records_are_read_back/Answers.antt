use Rattle.dns_spec.proofs.PrintedZones.PrintedMeaning.{printed_again}
use Rattle.dns_spec.proofs.printed.printed_records_are_read_back.Goals as goal

pub returns : goal.returns
returns c = printed_again
