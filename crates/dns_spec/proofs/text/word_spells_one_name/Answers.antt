use Rattle.dns_spec.proofs.NameTexts.OneName.{name_once}
use Rattle.dns_spec.proofs.text.word_spells_one_name.Goals as goal

pub returns : goal.returns
returns c = name_once
