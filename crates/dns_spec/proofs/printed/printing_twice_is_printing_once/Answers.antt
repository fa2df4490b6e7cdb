use Rattle.dns_spec.proofs.PrintedZones.PrintedAgain.{printed_reports}
use Rattle.dns_spec.proofs.printed.printing_twice_is_printing_once.Goals as goal

pub returns : goal.returns
returns c = printed_reports
