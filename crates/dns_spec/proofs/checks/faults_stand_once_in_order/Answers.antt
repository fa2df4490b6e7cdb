use Rattle.dns_spec.proofs.ZoneChecks.FaultLaws.{faults_are_sorted}
use Rattle.dns_spec.proofs.checks.faults_stand_once_in_order.Goals as goal

pub returns : goal.returns
returns c = faults_are_sorted
