use Rattle.dns_spec.proofs.ZoneChecks.FaultLaws.{fault_stands}
use Rattle.dns_spec.proofs.checks.fault_stands_where_its_check_fails.Goals as goal

pub returns : goal.returns
returns c = fault_stands
