use Rattle.dns_spec.proofs.DataWords.SaidAgain.{data_said}
use Rattle.dns_spec.proofs.data.written_data_is_said_again.Goals as goal

pub returns : goal.returns
returns c = data_said
