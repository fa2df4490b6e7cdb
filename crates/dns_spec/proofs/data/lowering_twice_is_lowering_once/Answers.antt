use Rattle.dns_spec.proofs.DataWords.LoweredData.{lowered-twice}
use Rattle.dns_spec.proofs.data.lowering_twice_is_lowering_once.Goals as goal

pub returns : goal.returns
returns c = lowered-twice
