use Rattle.dns_spec.proofs.DataWords.LoweredData.{lowered_data}
use Rattle.dns_spec.proofs.data.lowered_data_is_valid.Goals as goal

pub returns : goal.returns
returns c = λ t d ok. (lowered_data t d ok).0
