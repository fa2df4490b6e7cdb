use Rattle.dns_spec.proofs.DataWords.SaidAgain.{words_alone}
use Rattle.dns_spec.proofs.data.written_words_stand_alone.Goals as goal

pub returns : goal.returns
returns c = words_alone
