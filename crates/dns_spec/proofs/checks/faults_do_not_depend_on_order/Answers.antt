use Rattle.dns_spec.proofs.ZoneChecks.FaultOrder.{faults_in_any_order}
use Rattle.dns_spec.proofs.checks.faults_do_not_depend_on_order.Goals as goal

pub returns : goal.returns
returns c = faults_in_any_order
