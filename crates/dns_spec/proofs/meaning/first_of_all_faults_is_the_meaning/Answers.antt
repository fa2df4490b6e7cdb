use Rattle.dns_spec.proofs.ZoneTexts.FirstFault.{first_fault}
use Rattle.dns_spec.proofs.meaning.first_of_all_faults_is_the_meaning.Goals as goal

pub returns : goal.returns
returns c = first_fault
