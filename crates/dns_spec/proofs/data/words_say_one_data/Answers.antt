use Rattle.dns_spec.proofs.DataWords.OneData.{data_once}
use Rattle.dns_spec.proofs.data.words_say_one_data.Goals as goal

pub returns : goal.returns
returns c = data_once
