use Rattle.dns_spec.proofs.ZoneTexts.SomeMeaning.{no_text_without_meaning}
use Rattle.dns_spec.proofs.meaning.no_text_is_without_a_meaning.Goals as goal

pub returns : goal.returns
returns c = no_text_without_meaning
