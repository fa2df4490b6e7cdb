use Rattle.dns_spec.proofs.Records.SameRecords.{same_reports}
use Rattle.dns_spec.proofs.printed.files_of_one_zone_have_one_report.Goals as goal

pub returns : goal.returns
returns c = same_reports
