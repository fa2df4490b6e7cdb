use Rattle.dns_spec.proofs.ZoneChecks.LastingFaults.{fault_lasts}
use Rattle.dns_spec.proofs.checks.lasting_faults_stay_with_more_records.Goals as goal

pub returns : goal.returns
returns c = fault_lasts
