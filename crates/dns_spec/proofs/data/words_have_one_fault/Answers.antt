use Rattle.dns_spec.proofs.DataWords.OneFault.{fault_once}
use Rattle.dns_spec.proofs.data.words_have_one_fault.Goals as goal

pub returns : goal.returns
returns c = fault_once
