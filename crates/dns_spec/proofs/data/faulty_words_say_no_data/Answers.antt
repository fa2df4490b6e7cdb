use Rattle.dns_spec.proofs.DataWords.OneFault.{no_data_said}
use Rattle.dns_spec.proofs.data.faulty_words_say_no_data.Goals as goal

pub returns : goal.returns
returns c = no_data_said
