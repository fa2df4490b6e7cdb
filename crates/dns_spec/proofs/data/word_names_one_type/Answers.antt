use Rattle.dns_spec.proofs.DataWords.TypeWords.{one_type}
use Rattle.dns_spec.proofs.data.word_names_one_type.Goals as goal

pub returns : goal.returns
returns c = one_type
