use Rattle.dns_spec.proofs.PrintedZones.PrintedAgain.{reported_again}
use Rattle.dns_spec.proofs.printed.canonical_text_has_the_report_of_its_file.Goals as goal

pub returns : goal.returns
returns c = reported_again
