use Rattle.dns_spec.proofs.PrintedZones.OrderedReport.{ordered_report}
use Rattle.dns_spec.proofs.printed.order_of_records_changes_no_report.Goals as goal

pub returns : goal.returns
returns c = λ options o rs. ordered_report o rs options
