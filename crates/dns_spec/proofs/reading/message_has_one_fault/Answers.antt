use Rattle.dns_spec.proofs.Messages.OneFault.{message_once}
use Rattle.dns_spec.proofs.reading.message_has_one_fault.Goals as goal

pub returns : goal.returns
returns c = message_once
